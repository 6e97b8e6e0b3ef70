-- What is left of the parts has the same parts that count.
use Rattle.std.proofs.Common.{◌≡◌, length}
use Rattle.layer_merge.specs.FromLast.{from_last}
use Rattle.layer_merge.specs.Parts.{is_introduced}
use Rattle.layer_merge.proofs.parts.counted.Given as goal

abbrev pub invariant-loop-others : goal.invariant-loop-others
invariant-loop-others l = from_last is_introduced l.rest ≡ from_last is_introduced l.parts

abbrev pub decreases-loop-others : goal.decreases-loop-others
decreases-loop-others l = length l.rest
