-- What was true up to a time is kept, also while rows are added to tables that aren't public; and then what a layer that ends by it holds is
-- the same.
use Rattle.std.specs.Prelude.{◌≡◌, ◌≢◌, ℕ, true, List, [], ◌++◌, Some, None, slice_get}
use Rattle.mvcc_keys.specs.Times.{Time, time_le, time_lt, zero_time}
use Rattle.table_descriptors.specs.Descriptors.{Schema}
use Rattle.fact_model.specs.Facts.{date}
use Rattle.list_laws.specs.Members.{Has}
use Rattle.history_model.specs.Rows.{RowFact}
use Rattle.history_model.specs.Histories.{Table}
use Rattle.history_model.specs.Layers.{LayerRecord}
use Rattle.layer_objects.specs.Objects.{objects_of, bare, manifest_of, plan_of, rows_of}
use Rattle.std.specs.List.{AllByRecursion}
use Rattle.table_rows.specs.RowTables.{bytes_of}
use Rattle.span_export.specs.Plans.{plan_entries}
use Rattle.introduced_spans.specs.declared.plans.TablePlan.{TablePlan}
use Rattle.introduced_spans.specs.PlanLaws.{ascend_after}
use Rattle.introduced_spans.specs.Publicity.{IsUntold}

-- a table with more facts, which no layer up to t tells of, and more descriptors, all dated after t; its threshold may be another
pub record IsLonger (t : Time) (old new : Table) : Type 0 where
  pub id_is : new.id ≡ old.id
  pub facts : List RowFact
  pub facts_are : new.facts ≡ old.facts ++ facts
  pub untold : (f : RowFact) → Has f facts → IsUntold old.descriptors t (date f)
  pub schemas : List Schema
  pub schemas_are : new.descriptors ≡ old.descriptors ++ schemas
  pub schemas_after : (d : Schema) → Has d schemas → time_lt t d.modified ≡ true

-- Two lists of tables tell the same of each time up to t: each table is longer at most, and further ones begin after t.
pub record KeepsPast (t : Time) (old new : List Table) : Type 0 where
  pub kept : (i : ℕ) (table : Table) → slice_get old i ≡ Some table → (later : Table) × (slice_get new i ≡ Some later) × IsLonger t table later
  pub added : (i : ℕ) (table : Table) → slice_get old i ≡ None → slice_get new i ≡ Some table → (d : Schema) → Has d table.descriptors → time_lt t d.modified ≡ true

-- a table has a descriptor, and the dates of its descriptors ascend
pub record IsBegun (table : Table) : Type 0 where
  pub some : table.descriptors ≢ []
  pub ascend : ascend_after zero_time table.descriptors ≡ true

abbrev pub AreBegun : List Table → Type 0
AreBegun tables = (i : ℕ) (table : Table) → slice_get tables i ≡ Some table → IsBegun table

-- what was kept stays kept
abbrev pub PastChains : Type 0
PastChains = (s t : Time) (a b c : List Table) → time_le s t ≡ true → KeepsPast s a b → KeepsPast t b c → KeepsPast s a c

-- a layer has the same tables by the same plans, the same entries and descriptors of each, the same manifest, and the same objects
pub record IsFinal (r : LayerRecord) (old new : List Table) : Type 0 where
  pub plan : plan_of new r ≡ plan_of old r
  pub entries : AllByRecursion (λ (p : TablePlan). plan_entries (bytes_of (rows_of new)) p.id p.plan ≡ plan_entries (bytes_of (rows_of old)) p.id p.plan) (plan_of old r).tables
  pub bare : bare new r ≡ bare old r
  pub manifest : manifest_of new r ≡ manifest_of old r
  pub objects : objects_of new r ≡ objects_of old r

-- Finality: from its end on a layer holds the same, with history or without, full or an increment, with tables that it introduces or without,
-- whatever is collected later, and whatever is added to tables that aren't public.
abbrev pub LayersAreFinal : Type 0
LayersAreFinal = (t : Time) (old new : List Table) (r : LayerRecord) → AreBegun old → KeepsPast t old new → time_le r.floor r.end ≡ true → time_le r.end t ≡ true → IsFinal r old new
