use Rattle.std.proofs.Common.{◌≡◌, ◌++◌}
use Rattle.span_export.specs.Lists.{merged}
use Rattle.span_export.proofs.merging.merged.Given as goal

abbrev pub invariant-loop-entry : goal.invariant-loop-entry
invariant-loop-entry l = l.all.items ++ merged l.entry-iterator.rest.items l.newer.items ≡ merged l.fn.older.items l.fn.newer.items
