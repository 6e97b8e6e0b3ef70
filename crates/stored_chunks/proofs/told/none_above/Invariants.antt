use Rattle.std.proofs.Common.{◌≡◌}
use Rattle.stored_chunks.specs.Told.{none_above}
use Rattle.stored_chunks.proofs.told.none_above.Given as goal

abbrev pub invariant-loop-entry : goal.invariant-loop-entry
invariant-loop-entry l = none_above l.key l.entry-iterator ≡ none_above l.key l.fn.chunk
