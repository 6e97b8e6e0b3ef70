use Rattle.std.proofs.Common.{◌≡◌, length}
use Rattle.table_descriptors.specs.Descriptors.{repeats}
use Rattle.schema_catalog.specs.Catalogs.{is_same_name}
use Rattle.schema_catalog.proofs.catalog.repeats_name.Given as goal

abbrev pub invariant-all : goal.invariant-all
invariant-all l = repeats is_same_name l.rest ≡ repeats is_same_name l.names

abbrev pub decreases-all : goal.decreases-all
decreases-all l = length l.rest
