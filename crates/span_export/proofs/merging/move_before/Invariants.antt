use Rattle.std.proofs.Common.{◌≡◌, ◌++◌, length}
use Rattle.span_export.specs.Lists.{comes_before, front, rest}
use Rattle.span_export.proofs.merging.move_before.Given as goal

abbrev pub invariant-loop-merged : goal.invariant-loop-merged
invariant-loop-merged l = (l.merged.items ++ front (comes_before l.entry) l.newer.items ≡ l.initial.merged.items ++ front (comes_before l.entry) l.initial.newer.items) × (rest (comes_before l.entry) l.newer.items ≡ rest (comes_before l.entry) l.initial.newer.items)

abbrev pub decreases-loop-merged : goal.decreases-loop-merged
decreases-loop-merged l = length l.newer.items
