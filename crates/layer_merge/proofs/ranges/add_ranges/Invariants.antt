-- What is still to be kept of a chunk.
use Rattle.std.proofs.Common.{◌≤◌, ◌+◌, length, List}
use Rattle.std.specs.List.{AllByRecursion}
use Rattle.mvcc_keys.specs.declared.entries.Entry.{Entry}
use Rattle.chunk_file.specs.Held.{IsEntryStart, left_at}
use Rattle.layer_merge.specs.Ranges.{AddsAll, IsUpward}
use Rattle.layer_merge.proofs.ranges.add_ranges.Given as goal

abbrev pub invariant-loop-entry : goal.invariant-loop-entry
invariant-loop-entry l = record {
  at : IsEntryStart l.chunk l.offset;
  start : IsEntryStart l.chunk l.last;
  near : length (left_at l.chunk l.last) ≤ length (left_at l.chunk l.offset) + 1;
  some : 1 ≤ length l.chunk → 1 ≤ length (left_at l.chunk l.last);
  upward : AllByRecursion IsUpward (left_at l.chunk l.offset);
  adds : (new : List Entry) → AddsAll (left_at l.chunk l.offset) l.ranges new → AddsAll l.chunk l.initial.ranges new;
}

abbrev pub decreases-loop-entry : goal.decreases-loop-entry
decreases-loop-entry l = length (left_at l.chunk l.offset)
