-- The chunk after it.
use Rattle.std.proofs.Common.{refl, ◌∙◌, sym, true≢false, []}
use Rattle.layer_merge.proofs.RangeLaws.{broken, goes-at, last-at, last-goes, not-broken, one-left}
use Rattle.layer_merge.proofs.BehindLaws.{ends-at}
use Rattle.layer_merge.proofs.StepLaws.{load-fault, may-next, order-fault, step-ended, step-failed, step-loaded}
use Rattle.layer_merge.proofs.OrderLaws.{order-none, order-one, walk-ended, walk-loaded}
use Rattle.layer_merge.proofs.cursor.Cursor.loaded.Goals as goal

pub returns-in_default-clause-step : goal.returns-in_default-clause-step
returns-in_default-clause-step g c = rw (← c.self.view_is) (step-ended _ _ (record { same = g.met.C.Chunks.kept_same; chain = g.met.C.Chunks.kept_chain; later = g.met.C.Chunks.came_later; earlier = g.met.C.Chunks.came_earlier }) _ _ _ _ _)

pub returns-in-Err-clause-step : goal.returns-in-Err-clause-step
returns-in-Err-clause-step g c = rw (← c.self.view_is) (step-failed _ _ (record { same = g.met.C.Chunks.kept_same; chain = g.met.C.Chunks.kept_chain; later = g.met.C.Chunks.came_later; earlier = g.met.C.Chunks.came_earlier }) _ _ _ _ _ _ _ _ _ _ _ _ c.in-Some.ensures.items c.in-Err.ensures.kept c.in-Err.ensures.told)

pub returns-in-Err-clause-fault : goal.returns-in-Err-clause-fault
returns-in-Err-clause-fault g c = rw (← c.self.view_is) (load-fault _ _ (record { same = g.met.C.Chunks.kept_same; chain = g.met.C.Chunks.kept_chain; later = g.met.C.Chunks.came_later; earlier = g.met.C.Chunks.came_earlier }) _ _ _ _ _ _ _ _ _ (may-next _ _ 0 _ [] [] _ _ c.in-Some.ensures.items) c.in-Err.ensures.fault)

pub returns-then-breaks-clause-step : goal.returns-then-breaks-clause-step
returns-then-breaks-clause-step g c = rw (← c.self.view_is) (step-failed _ _ (record { same = g.met.C.Chunks.kept_same; chain = g.met.C.Chunks.kept_chain; later = g.met.C.Chunks.came_later; earlier = g.met.C.Chunks.came_earlier }) _ _ _ _ _ _ _ _ _ _ _ _ c.in-Some.ensures.items c.in-Ok.ensures.kept c.in-Ok.ensures.told)

pub returns-then-breaks-clause-fault : goal.returns-then-breaks-clause-fault
returns-then-breaks-clause-fault g c =
    let one = rw (← c.self.view_is) at c.requires in
    let b = broken _ _ _ (sym c.breaks.ensures ∙ c.if-breaks.true) in
    rw (← c.self.view_is) (order-fault _ _ (record { same = g.met.C.Chunks.kept_same; chain = g.met.C.Chunks.kept_chain; later = g.met.C.Chunks.came_later; earlier = g.met.C.Chunks.came_earlier }) _ _ _ _ _ _ _ _ _ _ _ _ _ c.in-Ok.ensures.loaded (may-next _ _ 0 _ [] [] _ _ c.in-Some.ensures.items) b.0 (last-at _ _ _ c.self.invariant.start (one-left _ one) b.1) c.first.ensures.place)

pub returns-then-breaks-clause-sound : goal.returns-then-breaks-clause-sound
returns-then-breaks-clause-sound g c = rw (← c.self.view_is) (λ w gives last.
    let b = broken _ _ _ (sym c.breaks.ensures ∙ c.if-breaks.true) in
    absurd (true≢false (sym (last-goes w _ _ _ _ _ _ c.in-Some.ensures.items (c.in-Ok.ensures.world w gives) last) ∙ b.1)))

pub returns-clause-step : goal.returns-clause-step
returns-clause-step g c = rw (← c.self.view_is) (step-loaded _ _ (record { same = g.met.C.Chunks.kept_same; chain = g.met.C.Chunks.kept_chain; later = g.met.C.Chunks.came_later; earlier = g.met.C.Chunks.came_earlier }) _ _ _ _ _ _ _ _ _ _ _ _ _ _ c.new.ensures.whole c.in-Some.ensures.items c.in-Ok.ensures.kept c.in-Ok.ensures.loaded c.in-Ok.ensures.told)

pub returns-in_default-clause-order : goal.returns-in_default-clause-order
returns-in_default-clause-order g c = rw (← c.self.view_is) (order-none _ _ (record { same = g.met.C.Chunks.kept_same; chain = g.met.C.Chunks.kept_chain; later = g.met.C.Chunks.came_later; earlier = g.met.C.Chunks.came_earlier }) _ _ _ _ _ (walk-ended _ _))

pub returns-clause-order : goal.returns-clause-order
returns-clause-order g c =
    let one = rw (← c.self.view_is) at c.requires in
    let on = not-broken _ _ _ (sym c.breaks.ensures ∙ c.if-breaks.false) in
    rw (← c.self.view_is) (order-one _ _ (record { same = g.met.C.Chunks.kept_same; chain = g.met.C.Chunks.kept_chain; later = g.met.C.Chunks.came_later; earlier = g.met.C.Chunks.came_earlier }) _ _ _ _ _ _ _ _ _ c.in-Ok.ensures.loaded c.in-Ok.ensures.told (walk-loaded _ _ _ _ _ _ c.in-Some.ensures.items (λ e. goes-at _ _ _ c.self.invariant.start (one-left _ one) c.self.invariant.live (on e)) c.new.ensures.whole (refl, ends-at _ _ c.self.invariant.start (one-left _ one) c.self.invariant.live c.self.invariant.ordered)))
