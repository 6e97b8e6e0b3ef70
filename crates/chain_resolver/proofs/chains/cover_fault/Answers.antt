use Rattle.chain_resolver.proofs.Covers.{fault-is}
use Rattle.chain_resolver.proofs.chains.cover_fault.Goals as goal

pub returns-in-Ok-reason : goal.returns-in-Ok-reason
returns-in-Ok-reason c = fault-is c.args.layers.now c.args.t c.in-Ok.reached c.in-Ok-reason.fault c.requires.none c.requires.ordered c.in-Ok.ensures c.in-Ok-reason.ensures
