-- What RESTORE DATABASE finds out before it changes anything, and what it leaves.
use Rattle.std.specs.Prelude.{◌≡◌, ◌⊎◌, ℕ, ◌+◌, ◌<◌, ◌≤◌, ◌^◌, false, true, nat_lt, List, [], ◌∷◌, ◌++◌, filter_map, length, map, Option, Some, None, option_and_then}
use Rattle.std.specs.List.{AllByRecursion, range_with_len}
use Rattle.std.specs.Global.{Vec}
use Rattle.mvcc_keys.specs.Times.{Time, next}
use Rattle.mvcc_keys.specs.declared.entries.Entry.{Entry}
use Rattle.table_descriptors.specs.Descriptors.{Schema}
use Rattle.version_store.specs.declared.mvcc_map.MvccMap.{MvccMap}
use Rattle.layer_manifest.specs.declared.manifest.Manifest.{Manifest}
use Rattle.layer_model.specs.declared.names.LayerName.{LayerName}
use Rattle.layer_manifest.specs.declared.manifest.TablePart.{TablePart}
use Rattle.id_remap.specs.Remapping.{ids_of, new_ids, remap_fault, remapped_schema}
use Rattle.id_remap.specs.declared.targets.Target.TheVariants as target
use Rattle.reply_texts.specs.declared.refusals.Refusal.{Refusal}
use Rattle.reply_texts.specs.declared.refusals.Refusal.TheVariants.{ClockFull, TooManyEvents}
use Rattle.reply_texts.specs.declared.answers.Answer.{Answer}
use Rattle.reply_texts.specs.declared.answers.Answer.TheVariants.{RestoreDone}
use Rattle.schema_catalog.specs.Catalogs.{Schemas, next_id, with_database}
use Rattle.machine_model.specs.Machine.{first_refusal, refusal_if}
use Rattle.machine_model.specs.Machine as machine
use Rattle.machine_model.specs.Restores.{chosen_by, nothing_refusal, refusal_of_remap, restored_as, span_of}
use Rattle.cluster_core.specs.declared.halts.Halt.{Halt}
use Rattle.cluster_core.specs.declared.halts.Halt.TheVariants.{Refused, Disk, Memory}
use Rattle.cluster_core.specs.declared.restores.Plan.{Plan}
use Rattle.cluster_core.specs.ClusterView.{ClusterState, record_of}
use Rattle.cluster_core.specs.Chains.{HasBytes, are_rows}
use Rattle.cluster_core.specs.Restoring.{with_added}

-- the clock has no two times more
abbrev pub IsFullTwice : Time → Halt → Type 0
IsFullTwice clock e = (e ≡ Refused ClockFull) × ((next clock ≡ None) ⊎ ((made : Time) × (next clock ≡ Some made) × (next made ≡ None)))

-- ---- tests

-- this test refuses, unless the disk failed or memory was wanting
abbrev pub EndsBy : Halt → Option Refusal → Type 0
EndsBy (Refused refusal) test = test ≡ Some refusal
EndsBy Disk test = Unit {0}
EndsBy Memory test = Unit {0}

-- no refusal
abbrev pub IsHard : Halt → Type 0
IsHard (Refused refusal) = ⊥
IsHard Disk = Unit {0}
IsHard Memory = Unit {0}

-- the tables of a database that a manifest shows public
abbrev pub shown_tables : List ℕ → Time → Manifest → List Schema
shown_tables database t m = filter_map (λ (part : TablePart). chosen_by database t part.descriptors) m.tables

-- the tests of chosen tables that go into a new database, and further ones
abbrev pub refusal_of_chosen : Schemas → List ℕ → Time → List Schema → List (Option Refusal) → Option Refusal
refusal_of_chosen s new made chosen more = first_refusal (nothing_refusal chosen ∷ option_and_then refusal_of_remap (remap_fault s chosen (target.Database new) false made) ∷ more)

-- chosen tables under new ids, which no test refuses
pub record IsPlanned (s : Schemas) (new : List ℕ) (made : Time) (chosen : List Schema) (p : Plan) : Type 0 where
  pub chosen_is : p.chosen.items ≡ chosen
  pub some : nothing_refusal chosen ≡ None
  pub passed : remap_fault s chosen (target.Database new) false made ≡ None
  pub ids : p.ids ≡ new_ids s chosen
  pub tables : p.tables.items ≡ map (remapped_schema (new_ids s chosen) (target.Database new) made) chosen
  pub in_order : ids_of p.tables.items ≡ range_with_len (next_id s) (length chosen)
  pub fits : length s.tables + length p.tables.items ≤ s.limit

-- so many facts more would be more than the cluster may accept
abbrev pub room_test : ClusterState → ℕ → Option Refusal
room_test c more = refusal_if (nat_lt c.most_events (c.events + more)) TooManyEvents

-- ---- rows

-- entries of a table of this id, which pass the test
pub record IsTested (d : Schema) (entries : List Entry) : Type 0 where
  pub small : d.id < 2 ^ 32
  pub rows : are_rows None entries ≡ true
  pub bytes : AllByRecursion HasBytes entries

-- the same of each of some tables
abbrev pub AreTested : List Schema → List (Vec Entry) → Type 0
AreTested [] [] = Unit {0}
AreTested [] (v ∷ vs) = ⊥
AreTested (d ∷ ds) [] = ⊥
AreTested (d ∷ ds) (v ∷ vs) = IsTested d v.items × AreTested ds vs

-- a restore more, which is done
abbrev pub with_restore : ClusterState → List ℕ → Time → ℕ → List (List Schema) → MvccMap → ClusterState
with_restore c database clock count tables store =
    record (with_added (record c { clock = clock; schemas = with_database c.schemas database }) count tables store) { jobs = c.jobs ++ machine.Restore ∷ [] }

-- what it is answered
abbrev pub restored_by : ClusterState → List ℕ → List (ℕ × ℕ) → Time → Time → ℕ → List (LayerName × Manifest) → List Schema → Answer
restored_by c database ids time made count layers chosen = RestoreDone (length c.jobs + 1) time made count (map span_of (map record_of layers)) (map (restored_as ids (target.Database database)) chosen)
