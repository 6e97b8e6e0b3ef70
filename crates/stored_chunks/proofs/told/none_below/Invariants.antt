use Rattle.std.proofs.Common.{◌≡◌}
use Rattle.stored_chunks.specs.Told.{none_below}
use Rattle.stored_chunks.proofs.told.none_below.Given as goal

abbrev pub invariant-loop-entry : goal.invariant-loop-entry
invariant-loop-entry l = none_below l.key l.entry-iterator ≡ none_below l.key l.fn.chunk
