use Rattle.row_codec.proofs.KeyLaws.{row_keys-exact}
use Rattle.row_codec.proofs.laws.row_keys_are_exact.Goals as goal

pub returns : goal.returns
returns c = row_keys-exact
