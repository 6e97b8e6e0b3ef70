use Rattle.std.proofs.Common.{drop}
use Rattle.cluster_core.specs.Restores.{AreTested}
use Rattle.cluster_core.proofs.restores.are_tested.Given as goal

abbrev pub invariant-loop-d : goal.invariant-loop-d
invariant-loop-d l = AreTested (drop l.d-index l.chosen) l.rest → AreTested l.chosen l.rows
