use Rattle.std.proofs.Common.{◌≡◌, false}
use Rattle.machine_model.specs.Machine.{Machine}
use Rattle.cluster_core.specs.Standing.{StandsFor}
use Rattle.script_cases.proofs.limited.run_lines.Given as goal

-- a cluster that gave a reply to each command so far stands for a machine
abbrev pub invariant-loop-line : goal.invariant-loop-line
invariant-loop-line l = l.cluster.ended ≡ false → (m : Machine) × StandsFor l.cluster m
