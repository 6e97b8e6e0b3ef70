use Rattle.chain_resolver.proofs.Found.{covers-found}
use Rattle.chain_resolver.proofs.laws.covers_are_found.Goals as goal

pub returns : goal.returns
returns c = covers-found
