-- Each entry found is the next row, or is passed.
use Rattle.std.proofs.Common.{◌≡◌, true, false, refl, inl, [], ◌∷◌, option_to_list, is_err}
use Rattle.std.specs.BinaryHeap.{heap_items}
use Rattle.layer_merge.proofs.StandLaws.{room-after}
use Rattle.list_laws.proofs.Results.{on-err, on-ok}
use Rattle.layer_merge.proofs.RowSteps.{row-ended, row-given, row-passed}
use Rattle.layer_merge.proofs.StepLaws.{fault-after, fault-over, step-dropped, step-fewer, step-moved, step-none, step-over, step-permuted, step-then}
use Rattle.std.proofs.lemmas.List.Sorted.{IsPermutation-refl as itself}
use Rattle.layer_merge.specs.Orders.{Freely}
use Rattle.layer_merge.proofs.BehindLaws.{behind-found, behind-given, behind-later}
use Rattle.layer_merge.proofs.OrderLaws.{order-after, order-none, order-over, order-reordered, order-weaker, walk-none}
use Rattle.layer_merge.proofs.rows.next_row.Goals as goal

pub returns-in-Ok-None-clause-world : goal.returns-in-Ok-None-clause-world
returns-in-Ok-None-clause-world g c = λ w all gives apart ranges at.
    let inv = c.loop-top.invariant.world w all gives apart ranges at in
    let found = rw c.in-Ok-None.field-0-is at c.in-Ok-None.ensures.world in
    row-ended w _ c.requires.from_start all apart _ _ _ inv.0 (found w all (λ to layer number bytes h. gives to layer number bytes (g.met.C.Chunks.came_later _ _ _ _ _ _ _ c.loop-top.invariant.step.kept h)) inv.1)

pub returns-in-Err-clause-sound : goal.returns-in-Err-clause-sound
returns-in-Err-clause-sound g c = λ w all gives apart ranges at.
    let inv = c.loop-top.invariant.world w all gives apart ranges at in
    c.in-Err.ensures.sound w all (λ to layer number bytes h. gives to layer number bytes (g.met.C.Chunks.came_later _ _ _ _ _ _ _ c.loop-top.invariant.step.kept h)) inv.1

pub returns-in-Some-clause-world : goal.returns-in-Some-clause-world
returns-in-Some-clause-world g c = λ w all gives apart ranges at.
    let e : is_err c.put_back.result ≡ false = cc in
    let inv = c.loop-top.invariant.world w all gives apart ranges at in
    let found = rw c.in-Ok-Some.field-0-is at c.in-Ok-Some.ensures.world in
    let f = found w all (λ to layer number bytes h. gives to layer number bytes (g.met.C.Chunks.came_later _ _ _ _ _ _ _ c.loop-top.invariant.step.kept h)) inv.1 in
    row-given w _ c.requires.from_start all apart _ ranges _ _ c.decide.new.done c.in-Ok-Some.top _ c.in-Ok.shown inv.0 f c.in-Ok.ensures.decided c.in-Some.entry _ c.in-Some.is (on-ok _ _ e c.put_back.ensures.items)

pub returns-in-Err-moved-clause-sound : goal.returns-in-Err-moved-clause-sound
returns-in-Err-moved-clause-sound g c = λ w all gives apart ranges at.
    let inv = c.loop-top.invariant.world w all gives apart ranges at in
    let found = rw c.in-Ok-Some.field-0-is at c.in-Ok-Some.ensures.world in
    let f = found w all (λ to layer number bytes h. gives to layer number bytes (g.met.C.Chunks.came_later _ _ _ _ _ _ _ c.loop-top.invariant.step.kept h)) inv.1 in
    let kept = g.met.C.Chunks.kept_chain _ _ _ c.loop-top.invariant.step.kept c.in-Ok-Some.ensures.step.kept in
    c.in-Err-moved.ensures.sound w (λ to layer number bytes h. gives to layer number bytes (g.met.C.Chunks.came_later _ _ _ _ _ _ _ kept h)) (f.again.ordered c.in-Ok-Some.top (inl refl))

pub loop-top-smaller : goal.loop-top-smaller
loop-top-smaller g c =
    let e : is_err c.put_back-in-loop-top.result ≡ false = cc in
    let less = rw c.in-Ok-Some.field-0-is at c.in-Ok-Some.ensures.room in
    room-after (heap_items c.loop-top.cursors) _ _ c.in-Ok-Some.top c.in-Ok-moved.moved less (on-ok _ _ e c.put_back-in-loop-top.ensures.items) c.in-Ok-moved.ensures.shorter

pub loop-top-preserved : goal.loop-top-preserved
loop-top-preserved g c =
    let e : is_err c.put_back-in-loop-top.result ≡ false = cc in
    let kept = g.met.C.Chunks.kept_chain _ _ _ c.loop-top.invariant.step.kept c.in-Ok-Some.ensures.step.kept in
    let found-step = rw c.in-Ok-Some.field-0-is at c.in-Ok-Some.ensures.step in
    let found-order = rw c.in-Ok-Some.field-0-is at c.in-Ok-Some.ensures.order in
    record {
      order = order-over _ _ (record { same = g.met.C.Chunks.kept_same; chain = g.met.C.Chunks.kept_chain; later = g.met.C.Chunks.came_later; earlier = g.met.C.Chunks.came_earlier }) _ _ _ Freely _ _ _ _ _ _ _ (option_to_list c.in-Ok-moved.moved) c.in-Ok-Some.top (λ p i. tt) kept c.in-Ok-moved.ensures.step.kept (itself _) (on-ok _ _ e c.put_back-in-loop-top.ensures.items) (order-after _ _ (record { same = g.met.C.Chunks.kept_same; chain = g.met.C.Chunks.kept_chain; later = g.met.C.Chunks.came_later; earlier = g.met.C.Chunks.came_earlier }) _ _ _ _ _ _ _ _ _ _ c.loop-top.invariant.step.kept c.in-Ok-Some.ensures.step.kept c.loop-top.invariant.order found-order) c.in-Ok-moved.ensures.order;
      heap = c.put_back-in-loop-top.ensures.heap;
      behind = λ w all gives apart ranges at.
          let inv = c.loop-top.invariant.world w all gives apart ranges at in
          let found = rw c.in-Ok-Some.field-0-is at c.in-Ok-Some.ensures.world in
          let f = found w all (λ to layer number bytes h. gives to layer number bytes (g.met.C.Chunks.came_later _ _ _ _ _ _ _ c.loop-top.invariant.step.kept h)) inv.1 in
          let left = rw c.in-Ok-Some.field-0-is at c.in-Ok-Some.ensures.behind in
          let o = order-after _ _ (record { same = g.met.C.Chunks.kept_same; chain = g.met.C.Chunks.kept_chain; later = g.met.C.Chunks.came_later; earlier = g.met.C.Chunks.came_earlier }) _ _ _ _ _ _ _ _ _ _ c.loop-top.invariant.step.kept c.in-Ok-Some.ensures.step.kept (c.loop-top.invariant.behind w all gives apart ranges at) (left w all (λ to layer number bytes h. gives to layer number bytes (g.met.C.Chunks.came_later _ _ _ _ _ _ _ c.loop-top.invariant.step.kept h)) inv.1) in
          let key = (c.in-Ok.ensures.decided f.entry f.first).0 in
          order-over _ _ (record { same = g.met.C.Chunks.kept_same; chain = g.met.C.Chunks.kept_chain; later = g.met.C.Chunks.came_later; earlier = g.met.C.Chunks.came_earlier }) _ _ _ _ _ _ _ _ _ _ _ (option_to_list c.in-Ok-moved.moved) c.in-Ok-Some.top (λ p i. behind-later _ _ _ all f.entry p f.next.counted key (behind-found w _ _ all c.in-Ok-Some.top _ p f i)) kept c.in-Ok-moved.ensures.step.kept (itself _) (on-ok _ _ e c.put_back-in-loop-top.ensures.items) (order-weaker _ _ (record { same = g.met.C.Chunks.kept_same; chain = g.met.C.Chunks.kept_chain; later = g.met.C.Chunks.came_later; earlier = g.met.C.Chunks.came_earlier }) _ _ _ _ _ (λ p b. behind-later _ _ _ all f.entry p f.next.counted key b) _ _ _ _ o) c.in-Ok-moved.ensures.order;
      step = step-moved _ _ (record { same = g.met.C.Chunks.kept_same; chain = g.met.C.Chunks.kept_chain; later = g.met.C.Chunks.came_later; earlier = g.met.C.Chunks.came_earlier }) _ _ _ _ _ _ _ _ _ _ (option_to_list c.in-Ok-moved.moved) c.in-Ok-Some.top _ (itself _) (on-ok _ _ e c.put_back-in-loop-top.ensures.items) (step-then _ _ (record { same = g.met.C.Chunks.kept_same; chain = g.met.C.Chunks.kept_chain; later = g.met.C.Chunks.came_later; earlier = g.met.C.Chunks.came_earlier }) _ _ _ _ _ _ _ _ _ _ _ _ c.loop-top.invariant.step found-step) c.in-Ok-moved.ensures.step;
      world = λ w all gives apart ranges at.
          let inv = c.loop-top.invariant.world w all gives apart ranges at in
          let found = rw c.in-Ok-Some.field-0-is at c.in-Ok-Some.ensures.world in
          let f = found w all (λ to layer number bytes h. gives to layer number bytes (g.met.C.Chunks.came_later _ _ _ _ _ _ _ c.loop-top.invariant.step.kept h)) inv.1 in
          row-passed w _ c.requires.from_start all apart _ ranges _ _ c.decide.new.done c.in-Ok-Some.top _ c.in-Ok.shown inv.0 f c.in-Ok.ensures.decided c.in-Ok-moved.moved _ c.in_default.is (c.in-Ok-moved.ensures.world w (λ to layer number bytes h. gives to layer number bytes (g.met.C.Chunks.came_later _ _ _ _ _ _ _ kept h))) (on-ok _ _ e c.put_back-in-loop-top.ensures.items);
    }

pub loop-top-init : goal.loop-top-init
loop-top-init g c = record { heap = c.requires.heap; step = step-none _ _ (record { same = g.met.C.Chunks.kept_same; chain = g.met.C.Chunks.kept_chain; later = g.met.C.Chunks.came_later; earlier = g.met.C.Chunks.came_earlier }) _ _ _ _ _ _; order = order-none _ _ (record { same = g.met.C.Chunks.kept_same; chain = g.met.C.Chunks.kept_chain; later = g.met.C.Chunks.came_later; earlier = g.met.C.Chunks.came_earlier }) _ _ _ _ _ (walk-none _ _); behind = λ w all gives apart ranges at. order-none _ _ (record { same = g.met.C.Chunks.kept_same; chain = g.met.C.Chunks.kept_chain; later = g.met.C.Chunks.came_later; earlier = g.met.C.Chunks.came_earlier }) _ _ _ _ _ (walk-none _ _); world = λ w all gives apart ranges at. (refl, at) }

pub returns-in-Ok-None-clause-step : goal.returns-in-Ok-None-clause-step
returns-in-Ok-None-clause-step g c =
    let found-step = rw c.in-Ok-None.field-0-is at c.in-Ok-None.ensures.step in
    step-then _ _ (record { same = g.met.C.Chunks.kept_same; chain = g.met.C.Chunks.kept_chain; later = g.met.C.Chunks.came_later; earlier = g.met.C.Chunks.came_earlier }) _ _ _ _ _ _ _ _ _ _ _ _ c.loop-top.invariant.step found-step

pub returns-in-Err-clause-step : goal.returns-in-Err-clause-step
returns-in-Err-clause-step g c = step-then _ _ (record { same = g.met.C.Chunks.kept_same; chain = g.met.C.Chunks.kept_chain; later = g.met.C.Chunks.came_later; earlier = g.met.C.Chunks.came_earlier }) _ _ _ _ _ _ _ _ _ _ _ _ c.loop-top.invariant.step c.in-Err.ensures.step

pub returns-in-Err-clause-fault : goal.returns-in-Err-clause-fault
returns-in-Err-clause-fault g c = fault-after _ _ (record { same = g.met.C.Chunks.kept_same; chain = g.met.C.Chunks.kept_chain; later = g.met.C.Chunks.came_later; earlier = g.met.C.Chunks.came_earlier }) _ _ _ _ _ _ _ _ _ _ _ c.loop-top.invariant.step c.in-Err.ensures.step.kept c.in-Err.ensures.fault

pub returns-in-Err-decide-clause-step : goal.returns-in-Err-decide-clause-step
returns-in-Err-decide-clause-step g c =
    let found-step = rw c.in-Ok-Some.field-0-is at c.in-Ok-Some.ensures.step in
    step-fewer _ _ (record { same = g.met.C.Chunks.kept_same; chain = g.met.C.Chunks.kept_chain; later = g.met.C.Chunks.came_later; earlier = g.met.C.Chunks.came_earlier }) _ _ _ _ _ _ (c.in-Ok-Some.top ∷ []) _ _ (step-then _ _ (record { same = g.met.C.Chunks.kept_same; chain = g.met.C.Chunks.kept_chain; later = g.met.C.Chunks.came_later; earlier = g.met.C.Chunks.came_earlier }) _ _ _ _ _ _ _ _ _ _ _ _ c.loop-top.invariant.step found-step)

pub returns-in-Some-clause-step : goal.returns-in-Some-clause-step
returns-in-Some-clause-step g c =
    let e : is_err c.put_back.result ≡ false = cc in
    let found-step = rw c.in-Ok-Some.field-0-is at c.in-Ok-Some.ensures.step in
    step-permuted _ _ (record { same = g.met.C.Chunks.kept_same; chain = g.met.C.Chunks.kept_chain; later = g.met.C.Chunks.came_later; earlier = g.met.C.Chunks.came_earlier }) _ _ _ _ _ _ _ _ _ (on-ok _ _ e c.put_back.ensures.items) (step-then _ _ (record { same = g.met.C.Chunks.kept_same; chain = g.met.C.Chunks.kept_chain; later = g.met.C.Chunks.came_later; earlier = g.met.C.Chunks.came_earlier }) _ _ _ _ _ _ _ _ _ _ _ _ c.loop-top.invariant.step found-step)

pub returns-in-Some-clause-put : goal.returns-in-Some-clause-put
returns-in-Some-clause-put g c =
    let found-step = rw c.in-Ok-Some.field-0-is at c.in-Ok-Some.ensures.step in
    let one = (step-then _ _ (record { same = g.met.C.Chunks.kept_same; chain = g.met.C.Chunks.kept_chain; later = g.met.C.Chunks.came_later; earlier = g.met.C.Chunks.came_earlier }) _ _ _ _ _ _ _ _ _ _ _ _ c.loop-top.invariant.step found-step) in
    let among = rw c.in-Some.is at c.in-Ok.ensures.among in
    (c.in-Ok-Some.top, (one.held c.in-Ok-Some.top (inl refl), among))

pub returns-then-is_err-clause-step : goal.returns-then-is_err-clause-step
returns-then-is_err-clause-step g c =
    let e : is_err c.put_back.result ≡ true = cc in
    let found-step = rw c.in-Ok-Some.field-0-is at c.in-Ok-Some.ensures.step in
    rw (on-err _ _ e c.put_back.ensures.refused) (step-fewer _ _ (record { same = g.met.C.Chunks.kept_same; chain = g.met.C.Chunks.kept_chain; later = g.met.C.Chunks.came_later; earlier = g.met.C.Chunks.came_earlier }) _ _ _ _ _ _ (c.in-Ok-Some.top ∷ []) _ _ (step-then _ _ (record { same = g.met.C.Chunks.kept_same; chain = g.met.C.Chunks.kept_chain; later = g.met.C.Chunks.came_later; earlier = g.met.C.Chunks.came_earlier }) _ _ _ _ _ _ _ _ _ _ _ _ c.loop-top.invariant.step found-step))

pub returns-in-Err-moved-clause-step : goal.returns-in-Err-moved-clause-step
returns-in-Err-moved-clause-step g c =
    let found-step = rw c.in-Ok-Some.field-0-is at c.in-Ok-Some.ensures.step in
    step-over _ _ (record { same = g.met.C.Chunks.kept_same; chain = g.met.C.Chunks.kept_chain; later = g.met.C.Chunks.came_later; earlier = g.met.C.Chunks.came_earlier }) _ _ _ _ _ _ _ _ _ [] c.in-Ok-Some.top _ (itself _) (step-then _ _ (record { same = g.met.C.Chunks.kept_same; chain = g.met.C.Chunks.kept_chain; later = g.met.C.Chunks.came_later; earlier = g.met.C.Chunks.came_earlier }) _ _ _ _ _ _ _ _ _ _ _ _ c.loop-top.invariant.step found-step) c.in-Err-moved.ensures.step

pub returns-in-Err-moved-clause-fault : goal.returns-in-Err-moved-clause-fault
returns-in-Err-moved-clause-fault g c =
    let found-step = rw c.in-Ok-Some.field-0-is at c.in-Ok-Some.ensures.step in
    fault-over _ _ (record { same = g.met.C.Chunks.kept_same; chain = g.met.C.Chunks.kept_chain; later = g.met.C.Chunks.came_later; earlier = g.met.C.Chunks.came_earlier }) _ _ _ _ _ _ _ _ _ c.in-Ok-Some.top _ _ (itself _) (step-then _ _ (record { same = g.met.C.Chunks.kept_same; chain = g.met.C.Chunks.kept_chain; later = g.met.C.Chunks.came_later; earlier = g.met.C.Chunks.came_earlier }) _ _ _ _ _ _ _ _ _ _ _ _ c.loop-top.invariant.step found-step) c.in-Err-moved.ensures.step.kept c.in-Err-moved.ensures.fault

pub returns-then-is_err-2-clause-step : goal.returns-then-is_err-2-clause-step
returns-then-is_err-2-clause-step g c =
    let e : is_err c.put_back-in-loop-top.result ≡ true = cc in
    let found-step = rw c.in-Ok-Some.field-0-is at c.in-Ok-Some.ensures.step in
    step-dropped _ _ (record { same = g.met.C.Chunks.kept_same; chain = g.met.C.Chunks.kept_chain; later = g.met.C.Chunks.came_later; earlier = g.met.C.Chunks.came_earlier }) _ _ _ _ _ _ _ _ _ _ (option_to_list c.in-Ok-moved.moved) c.in-Ok-Some.top _ (on-err _ _ e c.put_back-in-loop-top.ensures.refused) (itself _) (step-then _ _ (record { same = g.met.C.Chunks.kept_same; chain = g.met.C.Chunks.kept_chain; later = g.met.C.Chunks.came_later; earlier = g.met.C.Chunks.came_earlier }) _ _ _ _ _ _ _ _ _ _ _ _ c.loop-top.invariant.step found-step) c.in-Ok-moved.ensures.step

pub returns-in-Ok-None-clause-order : goal.returns-in-Ok-None-clause-order
returns-in-Ok-None-clause-order g c =
    let found = rw c.in-Ok-None.field-0-is at c.in-Ok-None.ensures.order in
    order-after _ _ (record { same = g.met.C.Chunks.kept_same; chain = g.met.C.Chunks.kept_chain; later = g.met.C.Chunks.came_later; earlier = g.met.C.Chunks.came_earlier }) _ _ _ _ _ _ _ _ _ _ c.loop-top.invariant.step.kept c.in-Ok-None.ensures.step.kept c.loop-top.invariant.order found

pub returns-in-Some-clause-order : goal.returns-in-Some-clause-order
returns-in-Some-clause-order g c =
    let e : is_err c.put_back.result ≡ false = cc in
    let found = rw c.in-Ok-Some.field-0-is at c.in-Ok-Some.ensures.order in
    order-reordered _ _ (record { same = g.met.C.Chunks.kept_same; chain = g.met.C.Chunks.kept_chain; later = g.met.C.Chunks.came_later; earlier = g.met.C.Chunks.came_earlier }) _ _ _ _ _ _ _ _ _ (on-ok _ _ e c.put_back.ensures.items) (order-after _ _ (record { same = g.met.C.Chunks.kept_same; chain = g.met.C.Chunks.kept_chain; later = g.met.C.Chunks.came_later; earlier = g.met.C.Chunks.came_earlier }) _ _ _ _ _ _ _ _ _ _ c.loop-top.invariant.step.kept c.in-Ok-Some.ensures.step.kept c.loop-top.invariant.order found)

pub returns-in-Some-clause-behind : goal.returns-in-Some-clause-behind
returns-in-Some-clause-behind g c = λ w all gives apart ranges at.
    let e : is_err c.put_back.result ≡ false = cc in
    let inv = c.loop-top.invariant.world w all gives apart ranges at in
    let found = rw c.in-Ok-Some.field-0-is at c.in-Ok-Some.ensures.world in
    let f = found w all (λ to layer number bytes h. gives to layer number bytes (g.met.C.Chunks.came_later _ _ _ _ _ _ _ c.loop-top.invariant.step.kept h)) inv.1 in
    let left = rw c.in-Ok-Some.field-0-is at c.in-Ok-Some.ensures.behind in
    let o = order-after _ _ (record { same = g.met.C.Chunks.kept_same; chain = g.met.C.Chunks.kept_chain; later = g.met.C.Chunks.came_later; earlier = g.met.C.Chunks.came_earlier }) _ _ _ _ _ _ _ _ _ _ c.loop-top.invariant.step.kept c.in-Ok-Some.ensures.step.kept (c.loop-top.invariant.behind w all gives apart ranges at) (left w all (λ to layer number bytes h. gives to layer number bytes (g.met.C.Chunks.came_later _ _ _ _ _ _ _ c.loop-top.invariant.step.kept h)) inv.1) in
    let same = rw c.in-Some.is at c.in-Ok.ensures.same in
    order-reordered _ _ (record { same = g.met.C.Chunks.kept_same; chain = g.met.C.Chunks.kept_chain; later = g.met.C.Chunks.came_later; earlier = g.met.C.Chunks.came_earlier }) _ _ _ _ _ _ _ _ _ (on-ok _ _ e c.put_back.ensures.items) (order-weaker _ _ (record { same = g.met.C.Chunks.kept_same; chain = g.met.C.Chunks.kept_chain; later = g.met.C.Chunks.came_later; earlier = g.met.C.Chunks.came_earlier }) _ _ _ _ _ (λ p b. behind-given w _ _ all c.in-Ok-Some.top _ c.in-Some.entry p f same b) _ _ _ _ o)
