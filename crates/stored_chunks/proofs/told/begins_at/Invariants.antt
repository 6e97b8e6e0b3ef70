use Rattle.std.proofs.Common.{◌≡◌}
use Rattle.stored_chunks.specs.Told.{begins_at}
use Rattle.stored_chunks.proofs.told.begins_at.Given as goal

abbrev pub invariant-loop-entry : goal.invariant-loop-entry
invariant-loop-entry l = begins_at l.key l.entry-iterator ≡ begins_at l.key l.fn.chunk
