-- The chunks behind hold range deletions alone, which are kept.
use Rattle.std.proofs.Common.{◌≡◌, true, None, length, [], IfSome}
use Rattle.layer_merge.specs.Steps.{IsLoaded, IsStep, MayLoad, loads_of, times}
use Rattle.chunk_file.specs.Entries.{are_ordered}
use Rattle.layer_merge.specs.Orders.{IsOrder}
use Rattle.layer_merge.specs.Loads.{Gives, World}
use Rattle.layer_merge.specs.Stands.{entries_in}
use Rattle.layer_merge.specs.Ranges.{TakenSoFar}
use Rattle.layer_merge.proofs.OrderLaws.{BackSoFar}
use Rattle.layer_merge.proofs.ranges.take_ranges.Given as goal

abbrev pub invariant-loop-number : goal.invariant-loop-number
invariant-loop-number g l = record {
  step : IsStep g.C.Chunks.kept g.C.Chunks.came g.C.Chunks.loads l.table l.kinds l.initial.chunks l.chunks [] [] (λ x. times x (loads_of l.table l.initial.part.layer l.initial.part.numbers.items)) (λ x. times x (loads_of l.table l.initial.part.layer l.part.numbers.items));
  last : IfSome l.after (λ a. IsLoaded (g.C.Chunks.came l.initial.chunks l.chunks) l.table l.kinds l.initial.part.layer a.number a.chunk × MayLoad (λ x. times x (loads_of l.table l.initial.part.layer l.initial.part.numbers.items)) l.table l.initial.part.layer a.number);
  order : IsOrder g.C.Chunks.came g.C.Chunks.loads l.table l.kinds l.initial.chunks l.chunks (BackSoFar l.initial.part.layer l.initial.part.numbers.items l.part.numbers.items l.after);
  layer : l.part.layer ≡ l.initial.part.layer;
  world : (w : World) → Gives g.C.Chunks.came l.table l.kinds w l.initial.chunks → are_ordered None (entries_in w l.initial.part.layer l.initial.part.numbers.items) ≡ true
      → TakenSoFar (entries_in w l.initial.part.layer l.initial.part.numbers.items) (entries_in w l.initial.part.layer l.part.numbers.items) l.after l.initial.ranges l.ranges;
}

abbrev pub decreases-loop-number : goal.decreases-loop-number
decreases-loop-number g l = length l.part.numbers.items
