use Rattle.machine_model.proofs.ProperFinal.{steps-proper}
use Rattle.machine_model.proofs.ProperScripts.{scripts-have}
use Rattle.machine_model.proofs.laws.scripts_have_proper_histories.Goals as goal

pub returns : goal.returns
returns c = scripts-have steps-proper
