-- The next entry, in the chunk or in the one after it.
use Rattle.layer_merge.proofs.StepLaws.{step-within}
use Rattle.layer_merge.proofs.OrderLaws.{order-none, walk-within}
use Rattle.layer_merge.proofs.cursor.Cursor.moved.Goals as goal

pub returns-in-Some-clause-step : goal.returns-in-Some-clause-step
returns-in-Some-clause-step g c = step-within _ _ (record { same = g.met.C.Chunks.kept_same; chain = g.met.C.Chunks.kept_chain; later = g.met.C.Chunks.came_later; earlier = g.met.C.Chunks.came_earlier }) _ _ _ _ _ _ _ c.at.ensures

pub returns-in-Some-clause-order : goal.returns-in-Some-clause-order
returns-in-Some-clause-order g c = order-none _ _ (record { same = g.met.C.Chunks.kept_same; chain = g.met.C.Chunks.kept_chain; later = g.met.C.Chunks.came_later; earlier = g.met.C.Chunks.came_earlier }) _ _ _ _ _ (walk-within _ _ _ _ c.at.ensures)
