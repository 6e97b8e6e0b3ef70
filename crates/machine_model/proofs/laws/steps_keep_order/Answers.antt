use Rattle.machine_model.proofs.Orders.{steps-order}
use Rattle.machine_model.proofs.laws.steps_keep_order.Goals as goal

pub returns : goal.returns
returns c = steps-order
