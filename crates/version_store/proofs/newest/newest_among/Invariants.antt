use Rattle.std.proofs.Common.{◌≡◌, ◌++◌, None}
use Rattle.version_store.specs.Lists.{entries_same, firsts, last_of}
use Rattle.version_store.proofs.newest.newest_among.Given as goal

abbrev pub invariant-loop-entry : goal.invariant-loop-entry
invariant-loop-entry l = l.kept.items ++ firsts entries_same (last_of None l.kept.items) l.entry-iterator.rest.items ≡ firsts entries_same None l.fn.points.items
