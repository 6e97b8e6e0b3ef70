use Rattle.std.proofs.Common.{◌≡◌}
use Rattle.stored_chunks.specs.Told.{ends_at}
use Rattle.stored_chunks.proofs.told.ends_at.Given as goal

abbrev pub invariant-loop-entry : goal.invariant-loop-entry
invariant-loop-entry l = ends_at l.key l.entry-iterator ≡ ends_at l.key l.fn.chunk
