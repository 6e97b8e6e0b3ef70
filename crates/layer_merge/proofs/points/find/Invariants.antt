-- The entries that count stay to come, while those that don't are passed.
use Rattle.std.proofs.Common.{◌≤◌, List, sum_by}
use Rattle.std.specs.BinaryHeap.{IsHeap, heap_items}
use Rattle.mvcc_keys.specs.declared.entries.Entry.{Entry}
use Rattle.layer_merge.specs.Loads.{Gives, World}
use Rattle.layer_merge.specs.Stands.{AreAt, room, stand_cmp}
use Rattle.layer_merge.specs.Orders.{Freely, IsBehind, IsOrder, PointsBy}
use Rattle.layer_merge.specs.Steps.{IsStep, to_load}
use Rattle.layer_merge.proofs.points.find.Given as goal

abbrev pub invariant-loop-top : goal.invariant-loop-top
invariant-loop-top g l = record {
  heap : IsHeap stand_cmp (heap_items l.cursors);
  step : IsStep g.C.Chunks.kept g.C.Chunks.came g.C.Chunks.loads l.table l.kinds l.initial.chunks l.chunks (heap_items l.initial.cursors) (heap_items l.cursors) (λ x. to_load l.table x (heap_items l.initial.cursors)) (λ x. to_load l.table x (heap_items l.cursors));
  order : IsOrder g.C.Chunks.came g.C.Chunks.loads l.table l.kinds l.initial.chunks l.chunks (PointsBy Freely (heap_items l.initial.cursors) (heap_items l.cursors));
  behind : (w : World) (all : List Entry) → Gives g.C.Chunks.came l.table l.kinds w l.initial.chunks → AreAt w l.wanted l.done all (heap_items l.initial.cursors) → IsOrder g.C.Chunks.came g.C.Chunks.loads l.table l.kinds l.initial.chunks l.chunks (PointsBy (IsBehind l.wanted l.done all) (heap_items l.initial.cursors) (heap_items l.cursors));
  room : sum_by room (heap_items l.cursors) ≤ sum_by room (heap_items l.initial.cursors);
  world : (w : World) (all : List Entry) → Gives g.C.Chunks.came l.table l.kinds w l.initial.chunks → AreAt w l.wanted l.done all (heap_items l.initial.cursors) → AreAt w l.wanted l.done all (heap_items l.cursors);
}

abbrev pub decreases-loop-top : goal.decreases-loop-top
decreases-loop-top g l = sum_by room (heap_items l.cursors)
