use Rattle.chain_resolver.specs.declared.task.Task.TheVariants.{Chain}
use Rattle.chain_resolver.proofs.Covers.{route-IsForward}
use Rattle.chain_resolver.proofs.Found.{chain-found, fault-found}
use Rattle.chain_resolver.proofs.chains.resolve.Goals as goal

pub best_way-requires : goal.best_way-requires
best_way-requires c = route-IsForward (Chain c.args.t) c.args.layers.now c.requires

pub returns-in-Ok-Some-clause-cover : goal.returns-in-Ok-Some-clause-cover
returns-in-Ok-Some-clause-cover c = let h = c.in-Ok-Some.ensures in chain-found c.args.layers.now c.args.t c.in-Ok-Some.places.items c.requires (rw c.in-Ok-Some.field-0-is at h)

pub returns-in-Ok-None-clause-cover : goal.returns-in-Ok-None-clause-cover
returns-in-Ok-None-clause-cover c = fault-found c.args.layers.now c.args.t c.cover_fault.result c.requires c.cover_fault.ensures
