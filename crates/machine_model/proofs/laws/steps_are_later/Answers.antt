use Rattle.machine_model.proofs.Past.{steps-later}
use Rattle.machine_model.proofs.laws.steps_are_later.Goals as goal

pub returns : goal.returns
returns c = steps-later
