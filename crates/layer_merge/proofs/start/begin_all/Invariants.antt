-- The parts that have begun.
use Rattle.std.proofs.Common.{ℕ, ◌+◌, ◌++◌, map, length, List, Option}
use Rattle.layer_merge.specs.Steps.{IsStep, to_begin, to_load}
use Rattle.layer_merge.specs.Orders.{IsOrder, IsUnheld, MovesBy, before_first, places_of}
use Rattle.std.specs.BinaryHeap.{IsHeap, heap_items}
use Rattle.mvcc_keys.specs.declared.entries.Entry.{Entry}
use Rattle.layer_merge.specs.declared.wanted.Wanted.{Wanted}
use Rattle.layer_merge.specs.Loads.{Gives, World}
use Rattle.layer_merge.specs.Stands.{stand_cmp}
use Rattle.layer_merge.specs.Starts.{BegunSoFar}
use Rattle.layer_merge.proofs.start.begin_all.Given as goal

abbrev pub invariant-loop-part : goal.invariant-loop-part
invariant-loop-part g l = record {
  heap : IsHeap stand_cmp (heap_items l.cursors);
  step : IsStep g.C.Chunks.kept g.C.Chunks.came g.C.Chunks.loads l.table l.kinds l.initial.chunks l.chunks (heap_items l.initial.cursors) (heap_items l.cursors) (λ x. to_load l.table x (heap_items l.initial.cursors) + to_begin l.table x l.initial.ready.items) (λ x. to_load l.table x (heap_items l.cursors) + to_begin l.table x l.ready.items);
  order : IsOrder g.C.Chunks.came g.C.Chunks.loads l.table l.kinds l.initial.chunks l.chunks (λ read. MovesBy IsUnheld read (map before_first l.initial.ready.items ++ places_of (heap_items l.initial.cursors)) (map before_first l.ready.items ++ places_of (heap_items l.cursors)));
  world : (w : World) (v : Wanted) (done : Option (List ℕ)) (all : List Entry) → Gives g.C.Chunks.came l.table l.kinds w l.initial.chunks → BegunSoFar w v done all l.initial.ready.items (heap_items l.initial.cursors)
      → BegunSoFar w v done all l.ready.items (heap_items l.cursors);
}

abbrev pub decreases-loop-part : goal.decreases-loop-part
decreases-loop-part g l = length l.ready.items
