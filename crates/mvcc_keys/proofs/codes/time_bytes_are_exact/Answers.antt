use Rattle.mvcc_keys.proofs.CodeLaws.{time_bytes-exact}
use Rattle.mvcc_keys.proofs.codes.time_bytes_are_exact.Goals as goal

pub returns : goal.returns
returns c = time_bytes-exact
