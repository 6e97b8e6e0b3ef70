use Rattle.std.proofs.Common.{◌≡◌, ◌++◌, ◌∷◌, [], map}
use Rattle.table_descriptors.specs.Descriptors.{Schema}
use Rattle.schema_catalog.proofs.catalog.all_dated.Given as goal

abbrev pub invariant-loop-d : goal.invariant-loop-d
invariant-loop-d l = l.tables.items ++ map (λ (d : Schema). d ∷ []) l.d-iterator.rest.items ≡ map (λ (d : Schema). d ∷ []) l.initial.d-iterator.rest.items
