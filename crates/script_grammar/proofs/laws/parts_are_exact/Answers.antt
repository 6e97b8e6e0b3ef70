use Rattle.script_grammar.proofs.PartsExact.{parts_exact}
use Rattle.script_grammar.proofs.laws.parts_are_exact.Goals as goal

pub returns : goal.returns
returns c = parts_exact
