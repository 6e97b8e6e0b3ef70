use Rattle.schema_catalog.proofs.Dropping.{drops-are}
use Rattle.schema_catalog.proofs.laws.drops_are_of_these.Goals as goal

pub returns : goal.returns
returns c = drops-are
