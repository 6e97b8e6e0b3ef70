use Rattle.mvcc_keys.proofs.Numerals.{times_exact}
use Rattle.mvcc_keys.proofs.time_text.times_are_exact.Goals as goal

pub returns : goal.returns
returns c = times_exact
