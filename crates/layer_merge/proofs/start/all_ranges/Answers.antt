-- One part more.
use Rattle.std.proofs.Common.{◌≡◌, false, [], arith, is_err}
use Rattle.layer_merge.proofs.StartLaws.{first-waits, none-left, pushed-part, ranges-next, ranges-start}
use Rattle.layer_merge.proofs.StepLaws.{begin-more, begin-none, part-fault, step-lost, step-none, step-part}
use Rattle.layer_merge.proofs.OrderLaws.{left-end, left-more, left-start, order-along, order-none, order-then}
use Rattle.layer_merge.proofs.start.all_ranges.Goals as goal

pub loop-part-init : goal.loop-part-init
loop-part-init g c = record { step = step-none _ _ (record { same = g.met.C.Chunks.kept_same; chain = g.met.C.Chunks.kept_chain; later = g.met.C.Chunks.came_later; earlier = g.met.C.Chunks.came_earlier }) _ _ _ _ _ _; fewer = λ x. begin-none _ x _ c.args.waiting.now.items c.requires; order = order-none _ _ (record { same = g.met.C.Chunks.kept_same; chain = g.met.C.Chunks.kept_chain; later = g.met.C.Chunks.came_later; earlier = g.met.C.Chunks.came_earlier }) _ _ _ _ _ (left-start c.args.waiting.now.items _ c.requires); world = λ w gives o. ranges-start w _ _ _ c.requires o }

pub loop-part-preserved : goal.loop-part-preserved
loop-part-preserved g c =
    let e : is_err c.push_back.result ≡ false = cc in
    record {
      step = step-part _ _ (record { same = g.met.C.Chunks.kept_same; chain = g.met.C.Chunks.kept_chain; later = g.met.C.Chunks.came_later; earlier = g.met.C.Chunks.came_earlier }) _ _ _ _ _ _ c.args.waiting.now.items _ _ c.in-Some.part c.in-Some.ensures.items c.loop-part.invariant.step c.in-Ok.ensures.step;
      fewer = λ x. begin-more _ x c.args.waiting.now.items _ _ _ _ c.in-Some.part c.take_ranges.new.part c.in-Some.ensures.items (pushed-part _ _ _ _ e c.push_back.ensures.items) (c.in-Ok.ensures.fewer x) (c.loop-part.invariant.fewer x);
      order = order-then _ _ (record { same = g.met.C.Chunks.kept_same; chain = g.met.C.Chunks.kept_chain; later = g.met.C.Chunks.came_later; earlier = g.met.C.Chunks.came_earlier }) _ _ _ _ _ _ _ _ _ c.loop-part.invariant.step.kept c.in-Ok.ensures.step.kept (λ cs ds m b. left-more c.args.waiting.now.items c.loop-part.waiting.items _ c.loop-part.ready.items _ c.in-Some.part c.take_ranges.new.part cs ds c.in-Some.ensures.items (pushed-part _ _ _ _ e c.push_back.ensures.items) c.in-Ok.ensures.layer b m) c.loop-part.invariant.order c.in-Ok.ensures.order;
      world = λ w gives o. ranges-next w _ _ _ _ c.in-Some.part c.take_ranges.new.part _ _ _ _ c.in-Some.ensures.items (pushed-part _ _ _ _ e c.push_back.ensures.items) c.in-Ok.ensures.layer (λ i. c.in-Ok.ensures.world w (λ to layer number bytes h. gives to layer number bytes (g.met.C.Chunks.came_later _ _ _ _ _ _ _ c.loop-part.invariant.step.kept h)) i) (c.loop-part.invariant.world w gives o);
    }

pub returns-in-Err-clause-step : goal.returns-in-Err-clause-step
returns-in-Err-clause-step g c = step-lost _ _ (record { same = g.met.C.Chunks.kept_same; chain = g.met.C.Chunks.kept_chain; later = g.met.C.Chunks.came_later; earlier = g.met.C.Chunks.came_earlier }) _ _ _ _ _ _ _ _ _ (step-part _ _ (record { same = g.met.C.Chunks.kept_same; chain = g.met.C.Chunks.kept_chain; later = g.met.C.Chunks.came_later; earlier = g.met.C.Chunks.came_earlier }) _ _ _ _ _ _ c.args.waiting.now.items _ _ c.in-Some.part c.in-Some.ensures.items c.loop-part.invariant.step c.in-Err.ensures.step)

pub returns-in-Err-clause-fault : goal.returns-in-Err-clause-fault
returns-in-Err-clause-fault g c = part-fault _ _ (record { same = g.met.C.Chunks.kept_same; chain = g.met.C.Chunks.kept_chain; later = g.met.C.Chunks.came_later; earlier = g.met.C.Chunks.came_earlier }) _ _ _ _ _ _ c.args.waiting.now.items _ _ c.in-Some.part _ c.in-Some.ensures.items c.loop-part.invariant.step c.in-Err.ensures.step.kept c.in-Err.ensures.fault

pub returns-in-Err-clause-sound : goal.returns-in-Err-clause-sound
returns-in-Err-clause-sound g c = λ w gives o. c.in-Err.ensures.sound w (λ to layer number bytes h. gives to layer number bytes (g.met.C.Chunks.came_later _ _ _ _ _ _ _ c.loop-part.invariant.step.kept h)) ((c.loop-part.invariant.world w gives o).waiting_ordered c.in-Some.part (first-waits _ _ _ c.in-Some.ensures.items))

pub returns-then-is_err-clause-step : goal.returns-then-is_err-clause-step
returns-then-is_err-clause-step g c = step-lost _ _ (record { same = g.met.C.Chunks.kept_same; chain = g.met.C.Chunks.kept_chain; later = g.met.C.Chunks.came_later; earlier = g.met.C.Chunks.came_earlier }) _ _ _ _ _ _ _ _ _ (step-part _ _ (record { same = g.met.C.Chunks.kept_same; chain = g.met.C.Chunks.kept_chain; later = g.met.C.Chunks.came_later; earlier = g.met.C.Chunks.came_earlier }) _ _ _ _ _ _ c.args.waiting.now.items _ _ c.in-Some.part c.in-Some.ensures.items c.loop-part.invariant.step c.in-Ok.ensures.step)

pub returns-clause-step : goal.returns-clause-step
returns-clause-step g c = step-lost _ _ (record { same = g.met.C.Chunks.kept_same; chain = g.met.C.Chunks.kept_chain; later = g.met.C.Chunks.came_later; earlier = g.met.C.Chunks.came_earlier }) _ _ _ _ _ _ _ _ _ c.loop-part.invariant.step

pub returns-clause-fewer : goal.returns-clause-fewer
returns-clause-fewer g c = λ x. omega (arith, c.loop-part.invariant.fewer x)

pub returns-clause-order : goal.returns-clause-order
returns-clause-order g c =
    let e : c.loop-part.waiting.items ≡ [] = none-left _ (omega (arith, c.loop-part.waiting.ok.0, c.in_default.ensures.cases)) in
    order-along _ _ (record { same = g.met.C.Chunks.kept_same; chain = g.met.C.Chunks.kept_chain; later = g.met.C.Chunks.came_later; earlier = g.met.C.Chunks.came_earlier }) _ _ _ _ _ _ _ (λ cs m. left-end c.args.waiting.now.items c.loop-part.waiting.items c.loop-part.ready.items cs e m) c.loop-part.invariant.order
