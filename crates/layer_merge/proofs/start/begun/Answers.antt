-- A part begins, or it has no chunk.
use Rattle.std.proofs.Common.{refl}
use Rattle.layer_merge.proofs.StepLaws.{load-fault, may-first, step-first, step-first_failed, step-no_first}
use Rattle.layer_merge.proofs.OrderLaws.{moves-absent, moves-first, order-none, order-one}
use Rattle.layer_merge.specs.Orders.{IsUnheld}
use Rattle.layer_merge.proofs.start.begun.Goals as goal

pub returns-in_default-clause-step : goal.returns-in_default-clause-step
returns-in_default-clause-step g c = step-no_first _ _ (record { same = g.met.C.Chunks.kept_same; chain = g.met.C.Chunks.kept_chain; later = g.met.C.Chunks.came_later; earlier = g.met.C.Chunks.came_earlier }) _ _ _ _ c.args.part

pub returns-in-Ok-clause-step : goal.returns-in-Ok-clause-step
returns-in-Ok-clause-step g c = step-first _ _ (record { same = g.met.C.Chunks.kept_same; chain = g.met.C.Chunks.kept_chain; later = g.met.C.Chunks.came_later; earlier = g.met.C.Chunks.came_earlier }) _ _ _ _ _ c.args.part _ _ _ _ c.new.ensures.whole c.in-Some.ensures.items c.in-Ok.ensures.kept c.in-Ok.ensures.loaded c.in-Ok.ensures.told

pub returns-in-Err-clause-step : goal.returns-in-Err-clause-step
returns-in-Err-clause-step g c = step-first_failed _ _ (record { same = g.met.C.Chunks.kept_same; chain = g.met.C.Chunks.kept_chain; later = g.met.C.Chunks.came_later; earlier = g.met.C.Chunks.came_earlier }) _ _ _ _ _ c.args.part _ _ c.in-Some.ensures.items c.in-Err.ensures.kept c.in-Err.ensures.told

pub returns-in-Err-clause-fault : goal.returns-in-Err-clause-fault
returns-in-Err-clause-fault g c = load-fault _ _ (record { same = g.met.C.Chunks.kept_same; chain = g.met.C.Chunks.kept_chain; later = g.met.C.Chunks.came_later; earlier = g.met.C.Chunks.came_earlier }) _ _ _ _ _ _ _ _ _ (may-first _ _ _ _ _ c.in-Some.ensures.items) c.in-Err.ensures.fault

pub returns-in_default-clause-order : goal.returns-in_default-clause-order
returns-in_default-clause-order g c = order-none _ _ (record { same = g.met.C.Chunks.kept_same; chain = g.met.C.Chunks.kept_chain; later = g.met.C.Chunks.came_later; earlier = g.met.C.Chunks.came_earlier }) _ _ _ _ _ (moves-absent IsUnheld _)

pub returns-in-Ok-clause-order : goal.returns-in-Ok-clause-order
returns-in-Ok-clause-order g c = order-one _ _ (record { same = g.met.C.Chunks.kept_same; chain = g.met.C.Chunks.kept_chain; later = g.met.C.Chunks.came_later; earlier = g.met.C.Chunks.came_earlier }) _ _ _ _ _ _ _ _ _ c.in-Ok.ensures.loaded c.in-Ok.ensures.told (moves-first _ c.args.part _ _ _ _ c.in-Some.ensures.items c.new.ensures.whole refl)
