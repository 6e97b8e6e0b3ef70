use Rattle.std.proofs.Common.{◌≡◌, ◌++◌, drop, filter_map}
use Rattle.schema_catalog.specs.Catalogs.{id_named}
use Rattle.schema_catalog.proofs.catalog.Catalog.reference_ids.Given as goal

abbrev pub invariant-loop-name : goal.invariant-loop-name
invariant-loop-name l = l.ids.items ++ filter_map (λ name. id_named l.self name l.t) (drop l.name-index l.references) ≡ filter_map (λ name. id_named l.self name l.t) l.references
