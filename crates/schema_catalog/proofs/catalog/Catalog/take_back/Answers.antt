use Rattle.schema_catalog.proofs.Drops.{taken_back}
use Rattle.schema_catalog.proofs.catalog.Catalog.take_back.Goals as goal

pub returns : goal.returns
returns c = λ s t made changeable. taken_back c.args.self.now c.pop_descriptor.new.self s t c.args.id c.pop_descriptor.ensures made changeable
