use Rattle.machine_model.proofs.LongerScripts.{appended-go}
use Rattle.machine_model.proofs.laws.appended_scripts_go_on.Goals as goal

pub returns : goal.returns
returns c = appended-go
