use Rattle.machine_model.proofs.LongerScripts.{scripts-end}
use Rattle.machine_model.proofs.laws.scripts_end_by_commands.Goals as goal

pub returns : goal.returns
returns c = scripts-end
