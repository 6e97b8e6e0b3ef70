use Rattle.machine_model.proofs.LinesOf.{scripts-lines}
use Rattle.machine_model.proofs.laws.scripts_are_their_lines.Goals as goal

pub returns : goal.returns
returns c = scripts-lines
