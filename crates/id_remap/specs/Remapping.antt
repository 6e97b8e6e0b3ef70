-- Tables under new ids: what they become, and the tests that refuse them.
use Rattle.std.specs.Prelude.{◌≡◌, ℕ, ◌+◌, Bool, not, ◌&&◌, ◌||◌, nat_lt, nat_le, nat_eq, List, [], ◌∷◌, map, length, Option, Some, None, is_some, option_map, unwrap_or, filter_map, if◌then◌else◌}
use Rattle.std.specs.List.{list_any, list_all, find}
use Rattle.std.specs.Map.{lookup}
use Rattle.mvcc_keys.specs.Times.{Time}
use Rattle.table_descriptors.specs.Descriptors.{Schema, has_id}
use Rattle.table_descriptors.specs.Restoring.{restored_schema}
use Rattle.history_model.specs.Histories.{place_named}
use Rattle.schema_catalog.specs.Catalogs.{Schemas, has_database, is_same_name, next_id}
use Rattle.key_rewriter.specs.Ids.{numbered}
use Rattle.id_remap.specs.declared.targets.Target.{Target}
use Rattle.id_remap.specs.declared.targets.Target.TheVariants.{Tables, Database}
use Rattle.id_remap.specs.declared.faults.RemapFault.{RemapFault}
use Rattle.id_remap.specs.declared.faults.RemapFault.TheVariants.{MissingReference, NoSuchDatabase, DatabaseExists, NameTaken, TooManyTables, Memory}

-- the old ids of the chosen tables
abbrev pub ids_of : List Schema → List ℕ
ids_of chosen = map (λ (d : Schema). d.id) chosen

-- the database into which a table goes
abbrev pub database_for : Target → Schema → List ℕ
database_for (Tables into) d = unwrap_or into d.database
database_for (Database name) d = name

-- the name that a table gets
abbrev pub target_name : Target → Schema → List ℕ × List ℕ
target_name target d = (database_for target d, d.name)

-- ---- refusals

-- a table references one that isn't chosen
abbrev pub refers_outside : List ℕ → Schema → Bool
refers_outside ids d = list_any (λ id. not (has_id id ids)) d.references

-- an id isn't greater than another one that isn't chosen
abbrev pub is_least : List ℕ → List ℕ → ℕ → Bool
is_least ids references id = list_all (λ other. nat_le id other || has_id other ids) references

-- the least id that isn't chosen
abbrev pub is_least_outside : List ℕ → List ℕ → ℕ → Bool
is_least_outside ids references id = not (has_id id ids) && is_least ids references id

-- the least referenced id that isn't chosen, where there is one
abbrev pub least_outside : List ℕ → List ℕ → ℕ
least_outside ids references = unwrap_or (find (is_least_outside ids references) references) 0

-- the first table that references one that isn't chosen
abbrev pub missing_reference : List ℕ → Bool → List Schema → Option RemapFault
missing_reference ids skip chosen = if skip then None else option_map (λ (d : Schema). MissingReference d.id (least_outside ids d.references)) (find (refers_outside ids) chosen)

-- a table goes into a database that isn't there
abbrev pub is_astray : Schemas → Target → Schema → Bool
is_astray s target d = not (has_database s (database_for target d))

-- tables go into a database that isn't there: that of the first such table
abbrev pub absent_database : Schemas → Target → List Schema → Option RemapFault
absent_database s (Tables into) chosen = option_map (λ d. NoSuchDatabase (database_for (Tables into) d)) (find (is_astray s (Tables into)) chosen)
absent_database s (Database name) chosen = None

-- the database that is to be created is there
abbrev pub present_database : Schemas → Target → Option RemapFault
present_database s (Tables into) = None
present_database s (Database name) = if has_database s name then Some (DatabaseExists name) else None

-- a table of lower id gets the same name
abbrev pub gets_before : Target → Schema → Schema → Bool
gets_before target d other = nat_lt other.id d.id && is_same_name (target_name target other) (target_name target d)

-- the name that a table gets belongs to a table at t, or is that of a chosen table of lower id
abbrev pub is_taken : Schemas → Target → Time → List Schema → Schema → Bool
is_taken s target t chosen d = is_some (place_named s.tables (target_name target d) t) || list_any (gets_before target d) chosen

-- the first such name
abbrev pub taken_name : Schemas → Target → Time → List Schema → Option RemapFault
taken_name s target t chosen = option_map (λ d. NameTaken (target_name target d)) (find (is_taken s target t chosen) chosen)

-- the ids ever given would exceed the limit
abbrev pub lacks_ids : Schemas → List Schema → Option RemapFault
lacks_ids s chosen = if nat_lt s.limit (length s.tables + length chosen) then Some TooManyTables else None

-- the first fault that a list of tests gives
abbrev pub first_fault : List (Option RemapFault) → Option RemapFault
first_fault [] = None
first_fault (None ∷ tests) = first_fault tests
first_fault (Some fault ∷ tests) = Some fault

-- the tests of tables that are to come under new ids, in their order, by the names as of t
unfoldable pub remap_fault : Schemas → List Schema → Target → Bool → Time → Option RemapFault
remap_fault s chosen target skip t = first_fault (
    missing_reference (ids_of chosen) skip chosen
    ∷ absent_database s target chosen
    ∷ present_database s target
    ∷ taken_name s target t chosen
    ∷ lacks_ids s chosen
    ∷ [])

-- a call answers this fault or none, unless memory was wanting
abbrev pub FaultIs : RemapFault → Option RemapFault → Type 0
FaultIs Memory fault = Unit {0}
FaultIs e fault = fault ≡ Some e

-- ---- new descriptors

-- old ids with the next ids of the catalog
abbrev pub new_ids : Schemas → List Schema → List (ℕ × ℕ)
new_ids s chosen = numbered (next_id s) (ids_of chosen)

-- the new id of a chosen table
abbrev pub new_id : List (ℕ × ℕ) → ℕ → ℕ
new_id ids old = unwrap_or (lookup (nat_eq old) ids) 0

-- references to chosen tables, under their new ids
abbrev pub new_references : List (ℕ × ℕ) → List ℕ → List ℕ
new_references ids references = filter_map (λ old. lookup (nat_eq old) ids) references

-- what a chosen table becomes at t
abbrev pub remapped_schema : List (ℕ × ℕ) → Target → Time → Schema → Schema
remapped_schema ids target t d = restored_schema d (new_id ids d.id) (database_for target d) (new_references ids d.references) t
