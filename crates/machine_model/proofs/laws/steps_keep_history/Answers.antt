use Rattle.machine_model.proofs.ProperFinal.{steps-proper}
use Rattle.machine_model.proofs.laws.steps_keep_history.Goals as goal

pub returns : goal.returns
returns c = steps-proper
