-- Full layers without history.
use Rattle.std.proofs.Common.{◌≡◌, Bool, true, false, not, ◌&&◌, if◌then◌else◌, refl, ap, ℕ, zero, suc, ◌-◌, nat_lt, List, [], ◌∷◌, map, filter, slice_get, unwrap_or, None}
use Rattle.std.specs.List.{AllByRecursion}
use Rattle.mvcc_keys.specs.Times.{Time, zero_time, time_lt, time_le}
use Rattle.table_descriptors.specs.declared.scopes.Scope.{Scope}
use Rattle.table_descriptors.specs.Descriptors.{Schema}
use Rattle.introduced_spans.specs.declared.plans.TablePlan.{TablePlan}
use Rattle.introduced_spans.specs.declared.plans.Span.{Span}
use Rattle.introduced_spans.specs.Publicity.{public_at}
use Rattle.introduced_spans.specs.Spans.{descriptors_of, scope_ids, is_introduced, introduced_ids, span_of, members_of, plan_by, protected_by, table_plan, layer_plan, plan_fault}
use Rattle.introduced_spans.specs.PlanLaws.{ascend_after, whole_at, FullIsWhole}
use Rattle.introduced_spans.proofs.Lists.{all-filter, all-true, map-same, none-found}
use Rattle.mvcc_keys.proofs.TimeOrder.{le-not_lt}
use Rattle.introduced_spans.proofs.Walks.{became}

got : (tables : List (List Schema)) (i : ℕ) → AllByRecursion (λ ds. ascend_after zero_time ds ≡ true) tables → ascend_after zero_time (unwrap_or (slice_get tables i) []) ≡ true
got [] i h = refl
got (ds ∷ tables) zero h = h.0
got (ds ∷ tables) (suc i) h = got tables i h.1

dated : (tables : List (List Schema)) (id : ℕ) → AllByRecursion (λ ds. ascend_after zero_time ds ≡ true) tables → ascend_after zero_time (descriptors_of tables id) ≡ true
dated tables id h = by (nat_lt id 100)
  where
    by : (b : Bool) → ascend_after zero_time (if b then [] else unwrap_or (slice_get tables (id - 100)) []) ≡ true
    by true = refl
    by false = got tables (id - 100) h

-- a table that is public at the end is introduced
introduced : (tables : List (List Schema)) (end : Time) (id : ℕ) → AllByRecursion (λ ds. ascend_after zero_time ds ≡ true) tables → public_at (descriptors_of tables id) end ≡ true → is_introduced tables zero_time end id ≡ true
introduced tables end id h e = became zero_time end (descriptors_of tables id) (dated tables id h) e

abbrev full : Time → Span
full end = record { start = zero_time; end = end; floor = zero_time; history = false }

whole-one : (tables : List (List Schema)) (end : Time) (id : ℕ) → is_introduced tables zero_time end id ≡ true → table_plan tables (full end) id ≡ whole_at end id
unfolding table_plan
whole-one tables end id e = ap plan e
  where
    plan : Bool → TablePlan
    plan b = record { id = id; introduced = b; plan = plan_by false b (full end) (descriptors_of tables id); protected = protected_by false b (full end) }

abbrev ends-public : List (List Schema) → Time → ℕ → Bool
ends-public tables end id = public_at (descriptors_of tables id) end

-- what holds of each table that is public at the end
each-public : (P : ℕ → Type 0) (tables : List (List Schema)) (scope : Scope) (end : Time) → ((id : ℕ) → ends-public tables end id ≡ true → P id) → AllByRecursion P (filter (ends-public tables end) (scope_ids tables scope))
each-public P tables scope end f = all-filter (λ _. Unit {0}) P (ends-public tables end) (λ id e _. f id e) (scope_ids tables scope) (all-true (λ _. Unit {0}) (λ _. tt) (scope_ids tables scope))

pub full-is-whole : (tables : List (List Schema)) (scope : Scope) (end : Time) (threshold : ℕ → Time) → AllByRecursion (λ ds. ascend_after zero_time ds ≡ true) tables → FullIsWhole tables scope end threshold
unfolding layer_plan plan_fault span_of members_of
full-is-whole tables scope end threshold h = record { plan = whole; allowed = allowed }
  where
    members : List ℕ
    members = filter (ends-public tables end) (scope_ids tables scope)

    whole : layer_plan tables scope zero_time end false threshold ≡ record { floor = zero_time; tables = map (whole_at end) members }
    whole = ap (λ (ts : List TablePlan). record { floor = zero_time; tables = ts }) (map-same (table_plan tables (full end)) (whole_at end) members (each-public _ tables scope end (λ id e. whole-one tables end id (introduced tables end id h e))))

    allowed : ((id : ℕ) → time_le (threshold id) end ≡ true) → plan_fault tables scope zero_time end false threshold ≡ None
    allowed upto = rw (none-found (λ id. not (is_introduced tables zero_time end id) && time_lt zero_time (threshold id)) members (each-public _ tables scope end (λ id e. ap (λ (b : Bool). not b && time_lt zero_time (threshold id)) (introduced tables end id h e))), none-found (λ id. time_lt end (threshold id)) (introduced_ids tables scope zero_time end) (all-true _ (λ id. le-not_lt end (threshold id) (upto id)) (introduced_ids tables scope zero_time end))) refl
