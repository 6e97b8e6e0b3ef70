use Rattle.std.proofs.Common.{◌≡◌, ◌++◌, drop, filter_map}
use Rattle.stored_chunks.specs.Places.{part_of}
use Rattle.stored_chunks.proofs.parts.stored_parts.Given as goal

abbrev pub invariant-loop-entry : goal.invariant-loop-entry
invariant-loop-entry l = l.parts.items ++ filter_map (part_of l.table) (drop l.entry-index l.counted) ≡ filter_map (part_of l.table) l.counted
