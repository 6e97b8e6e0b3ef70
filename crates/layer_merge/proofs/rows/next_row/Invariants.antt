-- What is left of the rows stays, while entries that aren't shown are passed.
use Rattle.std.proofs.Common.{◌≡◌, List, sum_by}
use Rattle.std.specs.BinaryHeap.{IsHeap, heap_items}
use Rattle.mvcc_keys.specs.declared.entries.Entry.{Entry}
use Rattle.fact_model.specs.Facts.{IsApart}
use Rattle.layer_merge.specs.Loads.{Gives, World}
use Rattle.layer_merge.specs.Stands.{AreAt, room, stand_cmp}
use Rattle.version_store.specs.Tables.{bytes_cmp}
use Rattle.version_store.specs.Lists.{facts_of}
use Rattle.layer_merge.specs.Rows.{rows_left}
use Rattle.layer_merge.specs.Ranges.{HasRanges}
use Rattle.layer_merge.specs.Orders.{Freely, IsBehind, IsOrder, PointsBy}
use Rattle.layer_merge.specs.Steps.{IsStep, to_load}
use Rattle.layer_merge.proofs.rows.next_row.Given as goal

abbrev pub invariant-loop-top : goal.invariant-loop-top
invariant-loop-top g l = record {
  heap : IsHeap stand_cmp (heap_items l.cursors);
  step : IsStep g.C.Chunks.kept g.C.Chunks.came g.C.Chunks.loads l.table l.kinds l.initial.chunks l.chunks (heap_items l.initial.cursors) (heap_items l.cursors) (λ x. to_load l.table x (heap_items l.initial.cursors)) (λ x. to_load l.table x (heap_items l.cursors));
  order : IsOrder g.C.Chunks.came g.C.Chunks.loads l.table l.kinds l.initial.chunks l.chunks (PointsBy Freely (heap_items l.initial.cursors) (heap_items l.cursors));
  behind : (w : World) (all : List Entry) → Gives g.C.Chunks.came l.table l.kinds w l.initial.chunks → IsApart bytes_cmp (facts_of all) → HasRanges l.ranges all → AreAt w l.wanted l.initial.done all (heap_items l.initial.cursors) → IsOrder g.C.Chunks.came g.C.Chunks.loads l.table l.kinds l.initial.chunks l.chunks (PointsBy (IsBehind l.wanted l.done all) (heap_items l.initial.cursors) (heap_items l.cursors));
  world : (w : World) (all : List Entry) → Gives g.C.Chunks.came l.table l.kinds w l.initial.chunks → IsApart bytes_cmp (facts_of all) → HasRanges l.ranges all → AreAt w l.wanted l.initial.done all (heap_items l.initial.cursors)
      → (rows_left l.wanted l.initial.done all ≡ rows_left l.wanted l.done all) × AreAt w l.wanted l.done all (heap_items l.cursors);
}

abbrev pub decreases-loop-top : goal.decreases-loop-top
decreases-loop-top g l = sum_by room (heap_items l.cursors)
