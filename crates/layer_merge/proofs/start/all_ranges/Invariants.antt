-- The range deletions of the parts so far.
use Rattle.std.proofs.Common.{length, ◌+◌, ◌≤◌, []}
use Rattle.layer_merge.specs.Steps.{IsStep, to_begin}
use Rattle.layer_merge.specs.Orders.{IsOrder}
use Rattle.layer_merge.specs.Loads.{Gives, Load, World}
use Rattle.layer_merge.specs.Starts.{AreInOrder, RangesSoFar, parts_entries}
use Rattle.layer_merge.proofs.OrderLaws.{RangesLeft}
use Rattle.layer_merge.proofs.start.all_ranges.Given as goal

abbrev pub invariant-loop-part : goal.invariant-loop-part
invariant-loop-part g l = record {
  step : IsStep g.C.Chunks.kept g.C.Chunks.came g.C.Chunks.loads l.table l.kinds l.initial.chunks l.chunks [] [] (λ x. to_begin l.table x l.initial.waiting.items) (λ x. to_begin l.table x l.waiting.items);
  fewer : (x : Load) → to_begin l.table x l.ready.items + to_begin l.table x l.waiting.items ≤ to_begin l.table x l.initial.waiting.items;
  order : IsOrder g.C.Chunks.came g.C.Chunks.loads l.table l.kinds l.initial.chunks l.chunks (RangesLeft l.initial.waiting.items l.waiting.items l.ready.items);
  world : (w : World) → Gives g.C.Chunks.came l.table l.kinds w l.initial.chunks → AreInOrder w l.initial.waiting.items
      → RangesSoFar w (parts_entries w l.initial.waiting.items) l.waiting.items l.ready.items l.initial.ranges l.ranges;
}

abbrev pub decreases-loop-part : goal.decreases-loop-part
decreases-loop-part g l = length l.waiting.items
