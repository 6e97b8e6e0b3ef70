use Rattle.mvcc_keys.proofs.CodeLaws.{mvcc_keys-exact}
use Rattle.mvcc_keys.proofs.codes.mvcc_keys_are_exact.Goals as goal

pub returns : goal.returns
returns c = mvcc_keys-exact
