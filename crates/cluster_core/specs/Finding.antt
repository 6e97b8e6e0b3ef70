-- Tables by their names in a catalog.
use Rattle.std.specs.Prelude.{◌≡◌, ℕ, List, Option, None, option_map, option_and_then}
use denote.Ref.{Bor}
use Rattle.mvcc_keys.specs.Times.{Time}
use Rattle.table_descriptors.specs.Descriptors.{Schema}
use Rattle.reply_texts.specs.declared.refusals.Refusal.TheVariants.{NoSuchTable}
use Rattle.history_model.specs.Histories.{in_force}
use Rattle.schema_catalog.specs.Catalogs.{Schemas, history_of, id_named}
use Rattle.cluster_core.specs.declared.halts.Halt.{Halt}
use Rattle.cluster_core.specs.declared.halts.Halt.TheVariants.{Refused, Disk, Memory}

-- the id and the descriptor in force at t of the table to which a name belongs at t
abbrev pub found_in : Schemas → List ℕ × List ℕ → Time → Option (ℕ × Schema)
found_in s name t = option_and_then (λ id. option_map (λ d. (id, d)) (in_force (history_of s id) t)) (id_named s name t)

abbrev pub found_of : ℕ × Bor Schema → ℕ × Schema
found_of x = (x.0, x.1.now)

-- a name that belongs to no table refuses a command, unless memory was wanting
abbrev pub IsMissing : List ℕ × List ℕ → Option (ℕ × Schema) → Halt → Type 0
IsMissing name found (Refused refusal) = (found ≡ None) × (refusal ≡ NoSuchTable name)
IsMissing name found Disk = ⊥
IsMissing name found Memory = Unit {0}
