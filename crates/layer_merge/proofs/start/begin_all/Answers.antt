-- One part more.
use Rattle.std.proofs.Common.{◌≡◌, ◌++◌, map, true, false, refl, is_err, subst, List, [], option_to_list, arith}
use Rattle.std.specs.BinaryHeap.{heap_items}
use Rattle.layer_merge.specs.declared.ranges.Waiting.{Waiting}
use Rattle.layer_merge.specs.Starts.{BegunSoFar}
use Rattle.list_laws.proofs.Results.{on-err, on-ok}
use Rattle.layer_merge.proofs.StartLaws.{begun-more, none-left}
use Rattle.layer_merge.specs.Steps.{to_begin}
use Rattle.layer_merge.proofs.StepLaws.{begin-fault, step-all, step-begun, step-none, step-unbegun}
use Rattle.layer_merge.specs.Orders.{IsUnheld, MovesBy, before_first, places_of}
use Rattle.layer_merge.proofs.OrderLaws.{moves-begun, moves-none, order-along, order-none, order-then}
use Rattle.layer_merge.proofs.start.begin_all.Goals as goal

pub loop-part-preserved : goal.loop-part-preserved
loop-part-preserved g c =
    let e : is_err c.put_back.result ≡ false = cc in
    record {
      heap = c.put_back.ensures.heap;
      step = step-begun _ _ (record { same = g.met.C.Chunks.kept_same; chain = g.met.C.Chunks.kept_chain; later = g.met.C.Chunks.came_later; earlier = g.met.C.Chunks.came_earlier }) _ _ _ _ _ _ _ _ _ (option_to_list c.in-Ok.first) _ _ c.in-Some.part _ c.in-Some.ensures.items (on-ok _ _ e c.put_back.ensures.items) c.loop-part.invariant.step c.in-Ok.ensures.step;
      order = order-then _ _ (record { same = g.met.C.Chunks.kept_same; chain = g.met.C.Chunks.kept_chain; later = g.met.C.Chunks.came_later; earlier = g.met.C.Chunks.came_earlier }) _ _ _ _ _ _ _ _ _ c.loop-part.invariant.step.kept c.in-Ok.ensures.step.kept (λ cs ds m n. moves-begun IsUnheld (map before_first c.args.ready.now.items ++ places_of (heap_items c.args.cursors.now)) (heap_items c.loop-part.cursors) _ (option_to_list c.in-Ok.first) c.loop-part.ready.items _ c.in-Some.part cs ds c.in-Some.ensures.items (on-ok _ _ e c.put_back.ensures.items) m n) c.loop-part.invariant.order c.in-Ok.ensures.order;
      world = λ w v done all gives b. begun-more w v done all _ _ c.in-Some.part c.in-Ok.first _ _ c.in-Some.ensures.items (c.in-Ok.ensures.world w (λ to layer number bytes h. gives to layer number bytes (g.met.C.Chunks.came_later _ _ _ _ _ _ _ c.loop-part.invariant.step.kept h))) (on-ok _ _ e c.put_back.ensures.items) (c.loop-part.invariant.world w v done all gives b);
    }

pub returns-clause-world : goal.returns-clause-world
returns-clause-world g c = λ w v done all gives b.
    let e : c.loop-part.ready.items ≡ [] = none-left _ (omega (arith, c.loop-part.ready.ok.0, c.in_default.ensures.cases)) in
    subst (λ (l : List Waiting). BegunSoFar w v done all l (heap_items c.loop-part.cursors)) e (c.loop-part.invariant.world w v done all gives b)

pub loop-part-init : goal.loop-part-init
loop-part-init g c = record { heap = c.requires; step = step-none _ _ (record { same = g.met.C.Chunks.kept_same; chain = g.met.C.Chunks.kept_chain; later = g.met.C.Chunks.came_later; earlier = g.met.C.Chunks.came_earlier }) _ _ _ _ _ _; order = order-none _ _ (record { same = g.met.C.Chunks.kept_same; chain = g.met.C.Chunks.kept_chain; later = g.met.C.Chunks.came_later; earlier = g.met.C.Chunks.came_earlier }) _ _ _ _ _ (moves-none IsUnheld _); world = λ w v done all gives b. b }

pub returns-in-Err-clause-step : goal.returns-in-Err-clause-step
returns-in-Err-clause-step g c = step-unbegun _ _ (record { same = g.met.C.Chunks.kept_same; chain = g.met.C.Chunks.kept_chain; later = g.met.C.Chunks.came_later; earlier = g.met.C.Chunks.came_earlier }) _ _ _ _ _ _ _ _ _ [] _ _ c.in-Some.part _ refl c.in-Some.ensures.items c.loop-part.invariant.step c.in-Err.ensures.step

pub returns-in-Err-clause-fault : goal.returns-in-Err-clause-fault
returns-in-Err-clause-fault g c = begin-fault _ _ (record { same = g.met.C.Chunks.kept_same; chain = g.met.C.Chunks.kept_chain; later = g.met.C.Chunks.came_later; earlier = g.met.C.Chunks.came_earlier }) _ _ _ _ _ _ _ _ _ _ c.in-Some.part _ _ c.in-Some.ensures.items c.loop-part.invariant.step c.in-Err.ensures.step.kept c.in-Err.ensures.fault

pub returns-in-Err-clause-sound : goal.returns-in-Err-clause-sound
returns-in-Err-clause-sound g c = λ w gives. c.in-Err.ensures.sound w (λ to layer number bytes h. gives to layer number bytes (g.met.C.Chunks.came_later _ _ _ _ _ _ _ c.loop-part.invariant.step.kept h))

pub returns-then-is_err-clause-step : goal.returns-then-is_err-clause-step
returns-then-is_err-clause-step g c =
    let e : is_err c.put_back.result ≡ true = cc in
    step-unbegun _ _ (record { same = g.met.C.Chunks.kept_same; chain = g.met.C.Chunks.kept_chain; later = g.met.C.Chunks.came_later; earlier = g.met.C.Chunks.came_earlier }) _ _ _ _ _ _ _ _ _ (option_to_list c.in-Ok.first) _ _ c.in-Some.part _ (on-err _ _ e c.put_back.ensures.refused) c.in-Some.ensures.items c.loop-part.invariant.step c.in-Ok.ensures.step

pub returns-clause-step : goal.returns-clause-step
returns-clause-step g c = step-all _ _ (record { same = g.met.C.Chunks.kept_same; chain = g.met.C.Chunks.kept_chain; later = g.met.C.Chunks.came_later; earlier = g.met.C.Chunks.came_earlier }) _ _ _ _ _ _ _ _ _ (λ x. to_begin c.args.table x c.loop-part.ready.items) c.loop-part.invariant.step

pub returns-clause-order : goal.returns-clause-order
returns-clause-order g c =
    let e : c.loop-part.ready.items ≡ [] = none-left _ (omega (arith, c.loop-part.ready.ok.0, c.in_default.ensures.cases)) in
    order-along _ _ (record { same = g.met.C.Chunks.kept_same; chain = g.met.C.Chunks.kept_chain; later = g.met.C.Chunks.came_later; earlier = g.met.C.Chunks.came_earlier }) _ _ _ _ _ _ _ (λ cs m. subst (λ (l : List Waiting). MovesBy IsUnheld cs (map before_first c.args.ready.now.items ++ places_of (heap_items c.args.cursors.now)) (map before_first l ++ places_of (heap_items c.loop-part.cursors))) e m) c.loop-part.invariant.order
