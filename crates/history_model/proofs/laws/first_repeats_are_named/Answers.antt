use Rattle.history_model.proofs.Repeats.{first_repeats-named}
use Rattle.history_model.proofs.laws.first_repeats_are_named.Goals as goal

pub returns : goal.returns
returns c = first_repeats-named
