use Rattle.chain_resolver.specs.declared.task.Task.TheVariants.{Join}
use Rattle.chain_resolver.proofs.Covers.{route-IsForward}
use Rattle.chain_resolver.proofs.chains.join.Goals as goal

pub best_way-requires : goal.best_way-requires
best_way-requires c = route-IsForward (Join c.args.from c.args.to) c.args.layers.now c.requires
