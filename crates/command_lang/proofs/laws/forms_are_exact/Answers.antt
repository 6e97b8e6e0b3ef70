use Rattle.command_lang.proofs.FormsExact.{command_explained}
use Rattle.command_lang.proofs.laws.forms_are_exact.Goals as goal

pub returns : goal.returns
returns c = command_explained
