use Rattle.std.proofs.Common.{length}
use Rattle.schema_catalog.proofs.catalog.Catalog.+drop_from.Given as goal

abbrev pub decreases-drop_from : goal.decreases-drop_from
decreases-drop_from l = length l.ids.now
