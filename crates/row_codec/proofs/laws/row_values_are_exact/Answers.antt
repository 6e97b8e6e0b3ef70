use Rattle.row_codec.proofs.ValueLaws.{row_values-exact}
use Rattle.row_codec.proofs.laws.row_values_are_exact.Goals as goal

pub returns : goal.returns
returns c = row_values-exact
