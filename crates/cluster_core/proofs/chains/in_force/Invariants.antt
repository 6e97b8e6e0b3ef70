use Rattle.std.proofs.Common.{◌≡◌, length}
use Rattle.history_model.specs.Histories.{in_force}
use Rattle.cluster_core.proofs.chains.in_force.Given as goal

abbrev pub invariant-loop-d : goal.invariant-loop-d
invariant-loop-d l = in_force l.descriptors.items l.t ≡ in_force l.fn.descriptors.items l.t

abbrev pub decreases-loop-d : goal.decreases-loop-d
decreases-loop-d l = length l.descriptors.items
