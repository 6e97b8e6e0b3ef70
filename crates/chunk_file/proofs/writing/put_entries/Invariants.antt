use Rattle.std.proofs.Common.{◌≡◌, ◌++◌, ◌≤◌, drop, length, take}
use Rattle.chunk_file.specs.Entries.{entries_code}
use Rattle.chunk_file.proofs.writing.put_entries.Given as goal

abbrev pub invariant-loop-entry : goal.invariant-loop-entry
invariant-loop-entry l = record {
  written : l.out.items ++ entries_code (drop l.entry-index l.entries) ≡ l.fn.out.items ++ entries_code l.entries;
  kept : take (length l.fn.out.items) l.out.items ≡ l.fn.out.items;
  longer : length l.fn.out.items ≤ length l.out.items;
}
