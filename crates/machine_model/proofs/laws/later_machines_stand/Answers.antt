use Rattle.machine_model.proofs.Extensions.{later-stand}
use Rattle.machine_model.proofs.laws.later_machines_stand.Goals as goal

pub returns : goal.returns
returns c = later-stand
