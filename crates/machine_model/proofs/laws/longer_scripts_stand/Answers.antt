use Rattle.machine_model.proofs.LongerScripts.{longer-stand}
use Rattle.machine_model.proofs.laws.longer_scripts_stand.Goals as goal

pub returns : goal.returns
returns c = longer-stand
