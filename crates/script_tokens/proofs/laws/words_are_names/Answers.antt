use Rattle.script_tokens.proofs.WordNames.{word_is_name}
use Rattle.script_tokens.proofs.laws.words_are_names.Goals as goal

pub returns : goal.returns
returns c = word_is_name
