use Rattle.chain_resolver.proofs.Best.{reason-unique}
use Rattle.chain_resolver.proofs.laws.reason_is_unique.Goals as goal

pub returns : goal.returns
returns c = reason-unique
