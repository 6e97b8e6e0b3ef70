use Rattle.layer_chains.proofs.Shown.{chains-shown}
use Rattle.layer_chains.proofs.laws.chains_show_tables.Goals as goal

pub returns : goal.returns
returns c = chains-shown
