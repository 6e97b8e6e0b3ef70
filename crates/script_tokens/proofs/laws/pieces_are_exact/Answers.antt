use Rattle.script_tokens.proofs.Parting.{pieces_exact}
use Rattle.script_tokens.proofs.laws.pieces_are_exact.Goals as goal

pub returns : goal.returns
returns c = pieces_exact
