-- The entry found is the next change.
use Rattle.std.proofs.Common.{◌≡◌, true, false, [], ◌∷◌, is_err}
use Rattle.list_laws.proofs.Results.{on-err, on-ok}
use Rattle.layer_merge.proofs.ChangeSteps.{change-ended, change-given}
use Rattle.layer_merge.proofs.StepLaws.{step-fewer, step-permuted}
use Rattle.layer_merge.proofs.BehindLaws.{behind-key, some-given}
use Rattle.layer_merge.proofs.OrderLaws.{order-reordered, order-weaker}
use Rattle.layer_merge.proofs.changes.next_change.Goals as goal

pub returns-in-Ok-None-clause-world : goal.returns-in-Ok-None-clause-world
returns-in-Ok-None-clause-world g c = λ w all gives apart at.
    let found = rw c.in-Ok-None.field-0-is at c.in-Ok-None.ensures.world in
    change-ended w _ all apart _ _ (found w all gives at)

pub returns-clause-world : goal.returns-clause-world
returns-clause-world g c = λ w all gives apart at.
    let e : is_err c.put_back.result ≡ false = cc in
    let found = rw c.in-Ok-Some.field-0-is at c.in-Ok-Some.ensures.world in
    change-given w _ all apart _ c.take_first.new.done c.in-Ok-Some.top _ _ c.in-Ok.entry (found w all gives at) c.in-Ok.ensures.copied (on-ok _ _ e c.put_back.ensures.items)

pub returns-clause-step : goal.returns-clause-step
returns-clause-step g c =
    let e : is_err c.put_back.result ≡ false = cc in
    let found-step = rw c.in-Ok-Some.field-0-is at c.in-Ok-Some.ensures.step in
    step-permuted _ _ (record { same = g.met.C.Chunks.kept_same; chain = g.met.C.Chunks.kept_chain; later = g.met.C.Chunks.came_later; earlier = g.met.C.Chunks.came_earlier }) _ _ _ _ _ _ _ _ _ (on-ok _ _ e c.put_back.ensures.items) found-step

pub returns-then-is_err-clause-step : goal.returns-then-is_err-clause-step
returns-then-is_err-clause-step g c =
    let e : is_err c.put_back.result ≡ true = cc in
    let found-step = rw c.in-Ok-Some.field-0-is at c.in-Ok-Some.ensures.step in
    rw (on-err _ _ e c.put_back.ensures.refused) (step-fewer _ _ (record { same = g.met.C.Chunks.kept_same; chain = g.met.C.Chunks.kept_chain; later = g.met.C.Chunks.came_later; earlier = g.met.C.Chunks.came_earlier }) _ _ _ _ _ _ (c.in-Ok-Some.top ∷ []) _ _ found-step)

pub returns-clause-order : goal.returns-clause-order
returns-clause-order g c =
    let e : is_err c.put_back.result ≡ false = cc in
    let found = rw c.in-Ok-Some.field-0-is at c.in-Ok-Some.ensures.order in
    order-reordered _ _ (record { same = g.met.C.Chunks.kept_same; chain = g.met.C.Chunks.kept_chain; later = g.met.C.Chunks.came_later; earlier = g.met.C.Chunks.came_earlier }) _ _ _ _ _ _ _ _ _ (on-ok _ _ e c.put_back.ensures.items) found

pub returns-clause-behind : goal.returns-clause-behind
returns-clause-behind g c = λ w all gives at.
    let e : is_err c.put_back.result ≡ false = cc in
    let found = rw c.in-Ok-Some.field-0-is at c.in-Ok-Some.ensures.world in
    let f = found w all gives at in
    let left = rw c.in-Ok-Some.field-0-is at c.in-Ok-Some.ensures.behind in
    some-given c.in-Ok.entry _ f.entry (c.in-Ok.ensures.copied f.entry f.first).1 (order-reordered _ _ (record { same = g.met.C.Chunks.kept_same; chain = g.met.C.Chunks.kept_chain; later = g.met.C.Chunks.came_later; earlier = g.met.C.Chunks.came_earlier }) _ _ _ _ _ _ _ _ _ (on-ok _ _ e c.put_back.ensures.items) (order-weaker _ _ (record { same = g.met.C.Chunks.kept_same; chain = g.met.C.Chunks.kept_chain; later = g.met.C.Chunks.came_later; earlier = g.met.C.Chunks.came_earlier }) _ _ _ _ _ (λ p b. behind-key _ _ all f.entry p f.next.among f.next.counted b) _ _ _ _ (left w all gives at)))
