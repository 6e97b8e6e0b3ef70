use Rattle.row_codec.proofs.KeyOrder.{row_keys-ordered}
use Rattle.row_codec.proofs.laws.row_keys_are_ordered.Goals as goal

pub returns : goal.returns
returns c = row_keys-ordered
