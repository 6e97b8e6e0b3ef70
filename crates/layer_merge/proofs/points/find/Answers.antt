-- The walk passes entries that don't count, and stops at the first that does.
use Rattle.std.proofs.Common.{◌≡◌, ◌∙◌, true, false, sym, refl, inl, arith, [], option_to_list, is_err}
use Rattle.std.proofs.lemmas.List.Sorted.{sum_by-IsPermutation}
use Rattle.layer_merge.specs.Stands.{room}
use Rattle.layer_merge.proofs.StandLaws.{at-reordered, at-stepped, finds-first, room-stepped}
use Rattle.list_laws.proofs.Results.{on-err, on-ok}
use Rattle.layer_merge.proofs.StepLaws.{fault-over, step-dropped, step-moved, step-none, step-over, step-permuted}
use Rattle.layer_merge.specs.Orders.{Freely}
use Rattle.layer_merge.proofs.BehindLaws.{behind-first}
use Rattle.layer_merge.proofs.OrderLaws.{order-none, order-over, order-reordered, walk-none}
use Rattle.layer_merge.proofs.points.find.Goals as goal

pub returns-then-is_counted-clause-room : goal.returns-then-is_counted-clause-room
returns-then-is_counted-clause-room g c = omega (arith, c.loop-top.invariant.room, sum_by-IsPermutation room _ _ c.in-Some.ensures.permutation)

pub returns-then-is_counted-clause-world : goal.returns-then-is_counted-clause-world
returns-then-is_counted-clause-world g c = λ w all gives at.
    finds-first w _ _ all c.in-Some.top _ (at-reordered w _ _ all _ _ c.in-Some.ensures.permutation (c.loop-top.invariant.world w all gives at)) (c.in-Some.ensures.below_top c.loop-top.invariant.heap) (sym c.is_counted.ensures ∙ c.if-is_counted.true)

pub returns-in-Err-clause-sound : goal.returns-in-Err-clause-sound
returns-in-Err-clause-sound g c = λ w all gives at.
    c.in-Err.ensures.sound w (λ to layer number bytes h. gives to layer number bytes (g.met.C.Chunks.came_later _ _ _ _ _ _ _ c.loop-top.invariant.step.kept h)) ((at-reordered w _ _ all _ _ c.in-Some.ensures.permutation (c.loop-top.invariant.world w all gives at)).ordered c.in-Some.top (inl refl))

pub loop-top-smaller : goal.loop-top-smaller
loop-top-smaller g c =
    let e : is_err c.put_back.result ≡ false = cc in
    room-stepped _ _ _ c.in-Some.top c.in-Ok.moved c.in-Some.ensures.permutation (on-ok _ _ e c.put_back.ensures.items) c.in-Ok.ensures.shorter

pub loop-top-preserved : goal.loop-top-preserved
loop-top-preserved g c =
    let e : is_err c.put_back.result ≡ false = cc in
    let back = on-ok _ _ e c.put_back.ensures.items in
    record {
      heap = c.put_back.ensures.heap;
      step = step-moved _ _ (record { same = g.met.C.Chunks.kept_same; chain = g.met.C.Chunks.kept_chain; later = g.met.C.Chunks.came_later; earlier = g.met.C.Chunks.came_earlier }) _ _ _ _ _ _ _ _ _ _ (option_to_list c.in-Ok.moved) c.in-Some.top _ c.in-Some.ensures.permutation back c.loop-top.invariant.step c.in-Ok.ensures.step;
      order = order-over _ _ (record { same = g.met.C.Chunks.kept_same; chain = g.met.C.Chunks.kept_chain; later = g.met.C.Chunks.came_later; earlier = g.met.C.Chunks.came_earlier }) _ _ _ Freely _ _ _ _ _ _ _ (option_to_list c.in-Ok.moved) c.in-Some.top (λ p i. tt) c.loop-top.invariant.step.kept c.in-Ok.ensures.step.kept c.in-Some.ensures.permutation back c.loop-top.invariant.order c.in-Ok.ensures.order;
      behind = λ w all gives at. order-over _ _ (record { same = g.met.C.Chunks.kept_same; chain = g.met.C.Chunks.kept_chain; later = g.met.C.Chunks.came_later; earlier = g.met.C.Chunks.came_earlier }) _ _ _ _ _ _ _ _ _ _ _ (option_to_list c.in-Ok.moved) c.in-Some.top (λ p i. behind-first w _ _ all c.in-Some.top _ p (at-reordered w _ _ all _ _ c.in-Some.ensures.permutation (c.loop-top.invariant.world w all gives at)) (c.in-Some.ensures.below_top c.loop-top.invariant.heap) i) c.loop-top.invariant.step.kept c.in-Ok.ensures.step.kept c.in-Some.ensures.permutation back (c.loop-top.invariant.behind w all gives at) c.in-Ok.ensures.order;
      room = omega (arith, c.loop-top.invariant.room, room-stepped _ _ _ c.in-Some.top c.in-Ok.moved c.in-Some.ensures.permutation back c.in-Ok.ensures.shorter);
      world = λ w all gives at. at-stepped w _ _ all _ _ _ c.in-Some.top c.in-Ok.moved c.in-Some.ensures.permutation back (sym c.is_counted.ensures ∙ c.if-is_counted.false) (c.in-Ok.ensures.world w (λ to layer number bytes h. gives to layer number bytes (g.met.C.Chunks.came_later _ _ _ _ _ _ _ c.loop-top.invariant.step.kept h))) (c.loop-top.invariant.world w all gives at);
    }

pub loop-top-init : goal.loop-top-init
loop-top-init g c = record { heap = c.requires; step = step-none _ _ (record { same = g.met.C.Chunks.kept_same; chain = g.met.C.Chunks.kept_chain; later = g.met.C.Chunks.came_later; earlier = g.met.C.Chunks.came_earlier }) _ _ _ _ _ _; order = order-none _ _ (record { same = g.met.C.Chunks.kept_same; chain = g.met.C.Chunks.kept_chain; later = g.met.C.Chunks.came_later; earlier = g.met.C.Chunks.came_earlier }) _ _ _ _ _ (walk-none _ _); behind = λ w all gives at. order-none _ _ (record { same = g.met.C.Chunks.kept_same; chain = g.met.C.Chunks.kept_chain; later = g.met.C.Chunks.came_later; earlier = g.met.C.Chunks.came_earlier }) _ _ _ _ _ (walk-none _ _); room = omega arith; world = λ w all gives at. at }

pub returns-then-is_counted-clause-step : goal.returns-then-is_counted-clause-step
returns-then-is_counted-clause-step g c = step-permuted _ _ (record { same = g.met.C.Chunks.kept_same; chain = g.met.C.Chunks.kept_chain; later = g.met.C.Chunks.came_later; earlier = g.met.C.Chunks.came_earlier }) _ _ _ _ _ _ _ _ _ c.in-Some.ensures.permutation c.loop-top.invariant.step

pub returns-in-Err-clause-step : goal.returns-in-Err-clause-step
returns-in-Err-clause-step g c = step-over _ _ (record { same = g.met.C.Chunks.kept_same; chain = g.met.C.Chunks.kept_chain; later = g.met.C.Chunks.came_later; earlier = g.met.C.Chunks.came_earlier }) _ _ _ _ _ _ _ _ _ [] c.in-Some.top _ c.in-Some.ensures.permutation c.loop-top.invariant.step c.in-Err.ensures.step

pub returns-in-Err-clause-fault : goal.returns-in-Err-clause-fault
returns-in-Err-clause-fault g c = fault-over _ _ (record { same = g.met.C.Chunks.kept_same; chain = g.met.C.Chunks.kept_chain; later = g.met.C.Chunks.came_later; earlier = g.met.C.Chunks.came_earlier }) _ _ _ _ _ _ _ _ _ c.in-Some.top _ _ c.in-Some.ensures.permutation c.loop-top.invariant.step c.in-Err.ensures.step.kept c.in-Err.ensures.fault

pub returns-then-is_err-clause-step : goal.returns-then-is_err-clause-step
returns-then-is_err-clause-step g c =
    let e : is_err c.put_back.result ≡ true = cc in
    step-dropped _ _ (record { same = g.met.C.Chunks.kept_same; chain = g.met.C.Chunks.kept_chain; later = g.met.C.Chunks.came_later; earlier = g.met.C.Chunks.came_earlier }) _ _ _ _ _ _ _ _ _ _ (option_to_list c.in-Ok.moved) c.in-Some.top _ (on-err _ _ e c.put_back.ensures.refused) c.in-Some.ensures.permutation c.loop-top.invariant.step c.in-Ok.ensures.step

pub returns-clause-step : goal.returns-clause-step
returns-clause-step g c = rw c.in_default.ensures.unchanged.0 c.loop-top.invariant.step

pub returns-then-is_counted-clause-order : goal.returns-then-is_counted-clause-order
returns-then-is_counted-clause-order g c = order-reordered _ _ (record { same = g.met.C.Chunks.kept_same; chain = g.met.C.Chunks.kept_chain; later = g.met.C.Chunks.came_later; earlier = g.met.C.Chunks.came_earlier }) _ _ _ _ _ _ _ _ _ c.in-Some.ensures.permutation c.loop-top.invariant.order

pub returns-clause-order : goal.returns-clause-order
returns-clause-order g c = rw c.in_default.ensures.unchanged.0 c.loop-top.invariant.order

pub returns-then-is_counted-clause-behind : goal.returns-then-is_counted-clause-behind
returns-then-is_counted-clause-behind g c = λ w all gives at. order-reordered _ _ (record { same = g.met.C.Chunks.kept_same; chain = g.met.C.Chunks.kept_chain; later = g.met.C.Chunks.came_later; earlier = g.met.C.Chunks.came_earlier }) _ _ _ _ _ _ _ _ _ c.in-Some.ensures.permutation (c.loop-top.invariant.behind w all gives at)

pub returns-clause-behind : goal.returns-clause-behind
returns-clause-behind g c = rw c.in_default.ensures.unchanged.0 c.loop-top.invariant.behind
