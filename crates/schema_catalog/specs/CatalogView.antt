-- The catalog that lists in memory stand for.
use Rattle.std.specs.Prelude.{◌≤◌, length}
use Rattle.schema_catalog.specs.Catalogs.{Schemas}
use Rattle.schema_catalog.specs.declared.catalog.Catalog.TheInside.{Inside}

abbrev pub view_of : Inside → Schemas
view_of c = record { databases = c.databases.items; tables = c.tables.items; limit = c.limit }

-- no more tables than ids
pub record IsWithin (c : Inside) : Type 0 where
  pub tables : length c.tables.items ≤ c.limit
  pub limit : c.limit ≤ 4294967195
