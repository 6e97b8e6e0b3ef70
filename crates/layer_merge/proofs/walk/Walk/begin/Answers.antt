-- The walk has begun.
use Rattle.std.proofs.Common.{sym, subst, List}
use Rattle.row_codec.specs.declared.rows.Kind.{Kind}
use Rattle.layer_merge.specs.Loads.{Gives}
use Rattle.layer_merge.proofs.MergeLaws.{begins, begun-may, new-may, new-ordered}
use Rattle.layer_merge.proofs.StepLaws.{fault-before, step-before, step-none}
use Rattle.std.specs.BinaryHeap.{heap_items}
use Rattle.layer_merge.specs.Walks.{walk_state}
use Rattle.layer_merge.proofs.OrderLaws.{order-along, order-none, walk-none, walks-begun, walks-new}
use Rattle.layer_merge.proofs.walk.Walk.begin.Goals as goal

pub returns-in-Ok-clause-world : goal.returns-in-Ok-clause-world
returns-in-Ok-clause-world g c = rw (← c.self.view_is) (λ w all gives m.
    begins w all _ _ _ _ _ _ _ _ _ _ _ c.if-self.false (λ o dated hs rs. c.in-Ok.ensures.world w _ _ (subst (λ (k : List Kind). Gives g.C.Chunks.came c.self.inside.table k w c.args.chunks.now) (sym c.as_slice.ensures.value) gives) o dated hs rs) m)

pub returns-then-self-clause-step : goal.returns-then-self-clause-step
returns-then-self-clause-step g c = rw (← c.self.view_is) (step-before _ _ (record { same = g.met.C.Chunks.kept_same; chain = g.met.C.Chunks.kept_chain; later = g.met.C.Chunks.came_later; earlier = g.met.C.Chunks.came_earlier }) _ _ _ _ _ _ _ _ _ _ (λ x. begun-may (walk_state c.self.inside.table c.self.inside.kinds.items c.self.inside.wanted c.self.inside.waiting.items (heap_items c.self.inside.cursors) c.self.inside.ranges c.self.inside.done c.self.inside.begun) x c.if-self.true) (step-none _ _ (record { same = g.met.C.Chunks.kept_same; chain = g.met.C.Chunks.kept_chain; later = g.met.C.Chunks.came_later; earlier = g.met.C.Chunks.came_earlier }) _ _ _ _ _ _))

pub returns-in-Ok-clause-step : goal.returns-in-Ok-clause-step
returns-in-Ok-clause-step g c =
    let step = rw c.as_slice.ensures.value at c.in-Ok.ensures.step in
    rw (← c.self.view_is) (step-before _ _ (record { same = g.met.C.Chunks.kept_same; chain = g.met.C.Chunks.kept_chain; later = g.met.C.Chunks.came_later; earlier = g.met.C.Chunks.came_earlier }) _ _ _ _ _ _ _ _ _ _ (λ x. new-may (walk_state c.self.inside.table c.self.inside.kinds.items c.self.inside.wanted c.self.inside.waiting.items (heap_items c.self.inside.cursors) c.self.inside.ranges c.self.inside.done c.self.inside.begun) x c.if-self.false) step)

pub returns-in-Err-clause-step : goal.returns-in-Err-clause-step
returns-in-Err-clause-step g c =
    let step = rw c.as_slice.ensures.value at c.in-Err.ensures.step in
    rw (← c.self.view_is) (step-before _ _ (record { same = g.met.C.Chunks.kept_same; chain = g.met.C.Chunks.kept_chain; later = g.met.C.Chunks.came_later; earlier = g.met.C.Chunks.came_earlier }) _ _ _ _ _ _ _ _ _ _ (λ x. new-may (walk_state c.self.inside.table c.self.inside.kinds.items c.self.inside.wanted c.self.inside.waiting.items (heap_items c.self.inside.cursors) c.self.inside.ranges c.self.inside.done c.self.inside.begun) x c.if-self.false) step)

pub returns-in-Err-clause-fault : goal.returns-in-Err-clause-fault
returns-in-Err-clause-fault g c =
    let fault = rw c.as_slice.ensures.value at c.in-Err.ensures.fault in
    rw (← c.self.view_is) (fault-before _ _ (record { same = g.met.C.Chunks.kept_same; chain = g.met.C.Chunks.kept_chain; later = g.met.C.Chunks.came_later; earlier = g.met.C.Chunks.came_earlier }) _ _ g.C.Chunks.loads _ _ _ _ _ _ (λ x. new-may (walk_state c.self.inside.table c.self.inside.kinds.items c.self.inside.wanted c.self.inside.waiting.items (heap_items c.self.inside.cursors) c.self.inside.ranges c.self.inside.done c.self.inside.begun) x c.if-self.false) c.in-Err.ensures.step.kept fault)

pub returns-in-Err-clause-sound : goal.returns-in-Err-clause-sound
returns-in-Err-clause-sound g c = rw (← c.self.view_is) (λ w all gives m. c.in-Err.ensures.sound w (subst (λ (k : List Kind). Gives g.C.Chunks.came c.self.inside.table k w c.args.chunks.now) (sym c.as_slice.ensures.value) gives) (new-ordered w all (walk_state c.self.inside.table c.self.inside.kinds.items c.self.inside.wanted c.self.inside.waiting.items (heap_items c.self.inside.cursors) c.self.inside.ranges c.self.inside.done c.self.inside.begun) c.if-self.false m))

pub returns-then-self-clause-order : goal.returns-then-self-clause-order
returns-then-self-clause-order g c = rw (← c.self.view_is) (order-none _ _ (record { same = g.met.C.Chunks.kept_same; chain = g.met.C.Chunks.kept_chain; later = g.met.C.Chunks.came_later; earlier = g.met.C.Chunks.came_earlier }) _ _ _ _ _ (walks-begun _ (walk_state c.self.inside.table c.self.inside.kinds.items c.self.inside.wanted c.self.inside.waiting.items (heap_items c.self.inside.cursors) c.self.inside.ranges c.self.inside.done c.self.inside.begun) _ _ c.if-self.true (walk-none _ _)))

pub returns-in-Ok-clause-order : goal.returns-in-Ok-clause-order
returns-in-Ok-clause-order g c =
    let order = rw c.as_slice.ensures.value at c.in-Ok.ensures.order in
    rw (← c.self.view_is) (order-along _ _ (record { same = g.met.C.Chunks.kept_same; chain = g.met.C.Chunks.kept_chain; later = g.met.C.Chunks.came_later; earlier = g.met.C.Chunks.came_earlier }) _ _ _ _ _ _ _ (λ cs s. walks-new _ (walk_state c.self.inside.table c.self.inside.kinds.items c.self.inside.wanted c.self.inside.waiting.items (heap_items c.self.inside.cursors) c.self.inside.ranges c.self.inside.done c.self.inside.begun) _ cs c.if-self.false s) order)
