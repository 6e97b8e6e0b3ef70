use Rattle.std.proofs.Common.{◌≡◌, ◌-◌, None, length}
use Rattle.std.specs.Option.{option_map}
use Rattle.chunk_file.specs.Chunks.{chunk_bytes}
use Rattle.chunk_file.specs.Entries.{seen}
use Rattle.chunk_file.specs.Held.{IsEntryStart, left_at}
use Rattle.restore_rows.specs.Checks.{last_after}
use Rattle.restore_rows.proofs.checking.last_of.Given as goal

abbrev pub invariant-loop-entry : goal.invariant-loop-entry
invariant-loop-entry l = IsEntryStart l.chunk l.offset × (last_after (option_map seen l.last) (left_at l.chunk l.offset) ≡ last_after None l.chunk)

abbrev pub decreases-loop-entry : goal.decreases-loop-entry
decreases-loop-entry l = length (chunk_bytes l.chunk) - l.offset
