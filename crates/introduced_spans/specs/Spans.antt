-- Which tables a layer has, from which floor and by which plan, or why there is no layer.
use Rattle.std.specs.Prelude.{◌≡◌, ℕ, ◌-◌, Bool, true, false, not, ◌&&◌, ◌||◌, ◌==◌, nat_lt, List, [], ◌∷◌, map, filter, fold, length, slice_get, Option, Some, None, option_map, unwrap_or, if◌then◌else◌, ◌++◌, option_to_list}
use Rattle.std.specs.List.{find, range_with_len}
use Rattle.std.specs.Str.{bytes_eq}
use Rattle.mvcc_keys.specs.Times.{Time, zero_time, time_lt}
use Rattle.table_descriptors.specs.declared.scopes.Scope.{Scope}
use Rattle.table_descriptors.specs.declared.scopes.Scope.TheVariants.{Database, Tables}
use Rattle.table_descriptors.specs.Descriptors.{Schema, has_id}
use Rattle.range_tombstones.specs.declared.upto.Upto.TheVariants.{At}
use Rattle.span_export.specs.declared.plan.Plan.{Plan}
use Rattle.span_export.specs.declared.plan.Plan.TheVariants.{Changes, Whole}
use Rattle.introduced_spans.specs.declared.plans.LayerPlan.{LayerPlan}
use Rattle.introduced_spans.specs.declared.plans.TablePlan.{TablePlan}
use Rattle.introduced_spans.specs.declared.plans.Threshold.{Threshold}
use Rattle.introduced_spans.specs.declared.plans.Span.{Span}
use Rattle.introduced_spans.specs.declared.plans.PlanFault.{PlanFault}
use Rattle.introduced_spans.specs.declared.plans.PlanFault.TheVariants.{StartCollected, Collected, Memory}
use Rattle.introduced_spans.specs.Publicity.{public_at, becomes_public_in, is_public_in, later, upto_of}
use Rattle.history_model.specs.Histories.{in_force}
use Rattle.range_tombstones.specs.Intervals.{is_between}

-- ---- the scope's tables

-- the ids of a catalog's tables: their places, from 100 on
abbrev pub table_ids : List (List Schema) → List ℕ
table_ids tables = range_with_len 100 (length tables)

-- the descriptors of a table
abbrev pub descriptors_of : List (List Schema) → ℕ → List Schema
descriptors_of tables id = if nat_lt id 100 then [] else unwrap_or (slice_get tables (id - 100)) []

-- the table is one of a database, which is that of its first descriptor, or one of the list
abbrev pub is_in_scope : List (List Schema) → Scope → ℕ → Bool
is_in_scope tables (Database name) id = unwrap_or (option_map (λ (d : Schema). bytes_eq d.database name) (slice_get (descriptors_of tables id) 0)) false
is_in_scope tables (Tables ids) id = has_id id ids

-- the tables of the catalog that the scope has
unfoldable pub scope_ids : List (List Schema) → Scope → List ℕ
scope_ids tables scope = filter (is_in_scope tables scope) (table_ids tables)

-- ---- introduced tables and the floor

-- the table becomes public after the start, up to the end
abbrev pub is_introduced : List (List Schema) → Time → Time → ℕ → Bool
is_introduced tables start end id = becomes_public_in (descriptors_of tables id) start end

unfoldable pub introduced_ids : List (List Schema) → Scope → Time → Time → List ℕ
introduced_ids tables scope start end = filter (is_introduced tables start end) (scope_ids tables scope)

-- the threshold of a table: that of the first entry with its id, or the clock's first time
abbrev pub threshold_of : List Threshold → ℕ → Time
threshold_of thresholds id = unwrap_or (option_map (λ (t : Threshold). t.at) (find (λ (t : Threshold). t.table == id) thresholds)) zero_time

-- the greatest of the start and the thresholds of some tables
abbrev pub greatest_threshold : (ℕ → Time) → Time → List ℕ → Time
greatest_threshold threshold start ids = fold (λ floor id. later floor (threshold id)) start ids

-- with history the greatest of the start and the thresholds of the introduced tables, otherwise the start
abbrev pub floor_of : List (List Schema) → Scope → Time → Time → Bool → (ℕ → Time) → Time
floor_of tables scope start end history threshold = if history then greatest_threshold threshold start (introduced_ids tables scope start end) else start

-- what a layer covers, with that floor
unfoldable pub span_of : List (List Schema) → Scope → Time → Time → Bool → (ℕ → Time) → Span
span_of tables scope start end history threshold = record { start = start; end = end; floor = floor_of tables scope start end history threshold; history = history }

-- ---- members

-- with history the tables that are public at some time of the layer, an introduced one only if it is
-- public at the floor or becomes so later; without history those that are public at the end
abbrev pub is_member_over : Bool → Span → List Schema → Bool
is_member_over true s ds = is_public_in ds s.start s.end && (not (becomes_public_in ds s.start s.end) || (public_at ds s.floor || becomes_public_in ds s.floor s.end))
is_member_over false s ds = public_at ds s.end

abbrev pub is_member : List (List Schema) → Span → ℕ → Bool
is_member tables s id = is_member_over s.history s (descriptors_of tables id)

unfoldable pub members_of : List (List Schema) → Scope → Span → List ℕ
members_of tables scope s = filter (is_member tables s) (scope_ids tables scope)

-- ---- plans

-- by whether there is history, and whether the table is introduced
abbrev pub plan_by : Bool → Bool → Span → List Schema → Plan
plan_by true true s ds = Whole s.floor (upto_of ds s.end) true
plan_by true false s ds = Changes s.start (upto_of ds s.end) true
plan_by false true s ds = Whole s.end (At s.end) false
plan_by false false s ds = Changes s.start (At s.end) false

-- the time that a running backup protects
abbrev pub protected_by : Bool → Bool → Span → Time
protected_by true true s = s.floor
protected_by false true s = s.end
protected_by history false s = s.start

-- how a member is exported
unfoldable pub table_plan : List (List Schema) → Span → ℕ → TablePlan
table_plan tables s id = record {
  id = id;
  introduced = is_introduced tables s.start s.end id;
  plan = plan_by s.history (is_introduced tables s.start s.end id) s (descriptors_of tables id);
  protected = protected_by s.history (is_introduced tables s.start s.end id) s;
}

-- the plan of a layer with these members
abbrev pub plan_of : List (List Schema) → Span → List ℕ → LayerPlan
plan_of tables s members = record { floor = s.floor; tables = map (table_plan tables s) members }

-- the plan of a layer of which the floor is known
abbrev pub plan_over : List (List Schema) → Scope → Span → LayerPlan
plan_over tables scope s = plan_of tables s (members_of tables scope s)

unfoldable pub layer_plan : List (List Schema) → Scope → Time → Time → Bool → (ℕ → Time) → LayerPlan
layer_plan tables scope start end history threshold = plan_over tables scope (span_of tables scope start end history threshold)

-- ---- refusals

-- the first fault that a list of tests gives
abbrev pub first_fault : List (Option PlanFault) → Option PlanFault
first_fault [] = None
first_fault (None ∷ tests) = first_fault tests
first_fault (Some fault ∷ tests) = Some fault

-- the least id of a member that isn't introduced and of which the start is collected
abbrev pub start_collected : List (List Schema) → Span → (ℕ → Time) → List ℕ → Option PlanFault
start_collected tables s threshold members = option_map (λ id. StartCollected id (threshold id) s.start) (find (λ id. not (is_introduced tables s.start s.end id) && time_lt s.start (threshold id)) members)

-- the least id of an introduced table of which the end is collected
abbrev pub end_collected : Time → (ℕ → Time) → List ℕ → Option PlanFault
end_collected end threshold introduced = option_map (λ id. Collected id (threshold id)) (find (λ id. time_lt end (threshold id)) introduced)

-- the tests of a layer with these members and introduced tables, in their order
abbrev pub fault_of : List (List Schema) → Span → (ℕ → Time) → List ℕ → List ℕ → Option PlanFault
fault_of tables s threshold members introduced = first_fault (start_collected tables s threshold members ∷ end_collected s.end threshold introduced ∷ [])

-- the tests of a layer of which the floor is known
abbrev pub fault_over : List (List Schema) → Scope → Span → (ℕ → Time) → Option PlanFault
fault_over tables scope s threshold = fault_of tables s threshold (members_of tables scope s) (introduced_ids tables scope s.start s.end)

unfoldable pub plan_fault : List (List Schema) → Scope → Time → Time → Bool → (ℕ → Time) → Option PlanFault
plan_fault tables scope start end history threshold = fault_over tables scope (span_of tables scope start end history threshold) threshold

-- a call answers this fault or none, unless memory was wanting
abbrev pub FaultIs : PlanFault → Option PlanFault → Type 0
FaultIs Memory fault = Unit {0}
FaultIs e fault = fault ≡ Some e

-- ---- descriptors

-- the descriptors that a layer lists of a member: with history the one in force at the floor, where there is one, and those dated after it
-- up to the end; without history the one in force at the end
abbrev pub layer_descriptors : Bool → Time → Time → List Schema → List Schema
layer_descriptors true floor end ds = option_to_list (in_force ds floor) ++ filter (λ (d : Schema). is_between floor (At end) d.modified) ds
layer_descriptors false floor end ds = option_to_list (in_force ds end)
