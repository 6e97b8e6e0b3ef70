use Rattle.script_grammar.proofs.SourceTexts.{sources_exact}
use Rattle.script_grammar.proofs.laws.sources_are_exact.Goals as goal

pub returns : goal.returns
returns c = sources_exact c.times_are_exact.ensures
