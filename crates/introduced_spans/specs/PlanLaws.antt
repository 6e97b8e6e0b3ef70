-- What holds of every plan of a layer.
use Rattle.std.specs.Prelude.{◌≡◌, ℕ, ◌-◌, ◌<◌, ◌≤◌, Bool, true, false, ◌&&◌, List, [], ◌∷◌, map, filter, length, None}
use Rattle.std.specs.List.{AllByRecursion}
use Rattle.std.specs.List.Sorted.{IsStrictlyIncreasing}
use Rattle.mvcc_keys.specs.Times.{Time, zero_time, time_lt, time_le}
use Rattle.table_descriptors.specs.declared.scopes.Scope.{Scope}
use Rattle.table_descriptors.specs.Descriptors.{Schema}
use Rattle.range_tombstones.specs.declared.upto.Upto.TheVariants.{At}
use Rattle.span_export.specs.declared.plan.Plan.TheVariants.{Whole}
use Rattle.span_export.specs.Plans.{start_of}
use Rattle.introduced_spans.specs.declared.plans.TablePlan.{TablePlan}
use Rattle.introduced_spans.specs.Publicity.{public_at}
use Rattle.introduced_spans.specs.Spans.{descriptors_of, is_in_scope, scope_ids, layer_plan, plan_fault}

-- a table of the catalog that the scope has
pub record IsListed (tables : List (List Schema)) (scope : Scope) (id : ℕ) : Type 0 where
  pub first : 100 ≤ id
  pub there : id - 100 < length tables
  pub scoped : is_in_scope tables scope id ≡ true

-- the time from which on a table is exported isn't before its threshold, nor is the time that is protected
pub record IsKept (threshold : ℕ → Time) (t : TablePlan) : Type 0 where
  pub export : time_le (threshold t.id) (start_of t.plan) ≡ true
  pub protected : time_le (threshold t.id) t.protected ≡ true

-- ids ascend strictly, and are those of tables of the catalog and of the scope; the floor isn't before the start; and where no test
-- refuses the layer, the floor isn't after the end, and what is exported is still kept
pub record PlanStands (tables : List (List Schema)) (scope : Scope) (start end : Time) (history : Bool) (threshold : ℕ → Time) : Type 0 where
  pub ascend : IsStrictlyIncreasing (map (λ (t : TablePlan). t.id) (layer_plan tables scope start end history threshold).tables)
  pub listed : AllByRecursion (λ (t : TablePlan). IsListed tables scope t.id) (layer_plan tables scope start end history threshold).tables
  pub from : time_le start (layer_plan tables scope start end history threshold).floor ≡ true
  pub upto : plan_fault tables scope start end history threshold ≡ None → time_le start end ≡ true → time_le (layer_plan tables scope start end history threshold).floor end ≡ true
  pub kept : plan_fault tables scope start end history threshold ≡ None → AllByRecursion (IsKept threshold) (layer_plan tables scope start end history threshold).tables

abbrev pub PlansStand : Type 0
PlansStand = (tables : List (List Schema)) (scope : Scope) (start end : Time) (history : Bool) (threshold : ℕ → Time) → PlanStands tables scope start end history threshold

-- ---- full layers

-- the dates of a table's descriptors ascend strictly from after a time
abbrev pub ascend_after : Time → List Schema → Bool
ascend_after t [] = true
ascend_after t (d ∷ ds) = time_lt t d.modified && ascend_after d.modified ds

-- an introduced table, whole as of the end
abbrev pub whole_at : Time → ℕ → TablePlan
whole_at end id = record { id = id; introduced = true; plan = Whole end (At end) false; protected = end }

-- a full layer without history has each of the scope's tables that is public at the end whole as of the end, and is refused only
-- where a threshold is after the end
pub record FullIsWhole (tables : List (List Schema)) (scope : Scope) (end : Time) (threshold : ℕ → Time) : Type 0 where
  pub plan : layer_plan tables scope zero_time end false threshold ≡ record { floor = zero_time; tables = map (whole_at end) (filter (λ id. public_at (descriptors_of tables id) end) (scope_ids tables scope)) }
  pub allowed : ((id : ℕ) → time_le (threshold id) end ≡ true) → plan_fault tables scope zero_time end false threshold ≡ None

-- the same, where all dates are after the clock's first time
abbrev pub FullPlansAreWhole : Type 0
FullPlansAreWhole = (tables : List (List Schema)) (scope : Scope) (end : Time) (threshold : ℕ → Time) → AllByRecursion (λ ds. ascend_after zero_time ds ≡ true) tables → FullIsWhole tables scope end threshold
