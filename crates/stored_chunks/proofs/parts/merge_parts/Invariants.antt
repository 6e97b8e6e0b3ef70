use Rattle.std.proofs.Common.{take}
use Rattle.stored_chunks.specs.Places.{AreParts}
use Rattle.stored_chunks.proofs.parts.merge_parts.Given as goal

abbrev pub invariant-loop-place : goal.invariant-loop-place
invariant-loop-place l = AreParts (take l.place l.parts) l.all.items
