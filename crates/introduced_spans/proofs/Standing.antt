-- What holds of every plan of a layer.
use Rattle.std.proofs.Common.{◌≡◌, Bool, true, false, not, ◌&&◌, sym, refl, ap, subst, ℕ, ◌+◌, ◌<◌, ◌≤◌, arith, List, [], ◌∷◌, length, map, Option, Some, None, option_map}
use Rattle.std.specs.List.{AllByRecursion, range_with_len}
use Rattle.std.specs.List.Sorted.{IsStrictlyIncreasing}
use Rattle.std.proofs.lemmas.List.FromFn.{length-range_with_len, get_or-range_with_len}
use Rattle.std.proofs.lemmas.List.Kept.{IsStrictlyIncreasing-filter}
use Rattle.mvcc_keys.specs.Times.{Time, time_lt, time_le}
use Rattle.table_descriptors.specs.declared.scopes.Scope.{Scope}
use Rattle.table_descriptors.specs.Descriptors.{Schema}
use Rattle.introduced_spans.specs.declared.plans.TablePlan.{TablePlan}
use Rattle.introduced_spans.specs.declared.plans.Span.{Span}
use Rattle.introduced_spans.specs.declared.plans.PlanFault.{PlanFault}
use Rattle.introduced_spans.specs.declared.plans.PlanFault.TheVariants.{StartCollected, Collected}
use Rattle.introduced_spans.specs.Spans.{table_ids, descriptors_of, is_in_scope, scope_ids, is_introduced, introduced_ids, floor_of, span_of, is_member, members_of, plan_by, protected_by, table_plan, plan_over, layer_plan, first_fault, fault_over, plan_fault}
use Rattle.introduced_spans.specs.PlanLaws.{IsListed, IsKept, PlanStands}
use Rattle.list_laws.proofs.Members.{all-weaker}
use Rattle.introduced_spans.proofs.Lists.{all-filter, all-unfilter, all-both, all-true, all-map, find-none, range-all, greatest-from, greatest-all, greatest-upto}
use Rattle.mvcc_keys.proofs.TimeOrder.{le-refl, not_lt-le}

-- ---- ids

table-ids : (tables : List (List Schema)) (s : Span) (ids : List ℕ) → map (λ (t : TablePlan). t.id) (map (table_plan tables s) ids) ≡ ids
unfolding table_plan
table-ids tables s [] = refl
table-ids tables s (id ∷ ids) = ap (λ (xs : List ℕ). id ∷ xs) (table-ids tables s ids)

range-increasing : (a n : ℕ) → IsStrictlyIncreasing (range_with_len a n)
range-increasing a n k h = let few : k + 1 < n = subst (λ (m : ℕ). k + 1 < m) (length-range_with_len a n) h in rw (get_or-range_with_len a n k 0 (omega (arith, few)), get_or-range_with_len a n (k + 1) 0 few) (omega arith)

pub ascending : (tables : List (List Schema)) (scope : Scope) (s : Span) → IsStrictlyIncreasing (map (λ (t : TablePlan). t.id) (plan_over tables scope s).tables)
unfolding members_of scope_ids
ascending tables scope s = subst IsStrictlyIncreasing (sym (table-ids tables s (members_of tables scope s))) (IsStrictlyIncreasing-filter (is_member tables s) (scope_ids tables scope) (IsStrictlyIncreasing-filter (is_in_scope tables scope) (table_ids tables) (range-increasing 100 (length tables))))

pub listed : (tables : List (List Schema)) (scope : Scope) (s : Span) → AllByRecursion (λ (t : TablePlan). IsListed tables scope t.id) (plan_over tables scope s).tables
unfolding members_of scope_ids table_plan
listed tables scope s = all-map (λ (t : TablePlan). IsListed tables scope t.id) (table_plan tables s) (members_of tables scope s) (all-filter (IsListed tables scope) (IsListed tables scope) (is_member tables s) (λ id e h. h) (scope_ids tables scope) (all-filter (λ id. (100 ≤ id) × (id < 100 + length tables)) (IsListed tables scope) (is_in_scope tables scope) (λ id e h. record { first = h.0; there = omega (arith, h.0, h.1); scoped = e }) (table_ids tables) (range-all 100 (length tables))))

-- ---- the floor

-- where no test gives a fault, none finds a table
clear : (f g : ℕ → PlanFault) (x y : Option ℕ) → first_fault (option_map f x ∷ option_map g y ∷ []) ≡ None → (x ≡ None) × (y ≡ None)
clear f g (Some x) y e = cc e
clear f g None (Some y) e = cc e
clear f g None None e = (refl, refl)

clear-tests : (tables : List (List Schema)) (scope : Scope) (s : Span) (threshold : ℕ → Time) → fault_over tables scope s threshold ≡ None → AllByRecursion (λ id. (not (is_introduced tables s.start s.end id) && time_lt s.start (threshold id)) ≡ false) (members_of tables scope s) × AllByRecursion (λ id. time_lt s.end (threshold id) ≡ false) (introduced_ids tables scope s.start s.end)
clear-tests tables scope s threshold e = let found = clear (λ id. StartCollected id (threshold id) s.start) (λ id. Collected id (threshold id)) _ _ e in (find-none (λ id. not (is_introduced tables s.start s.end id) && time_lt s.start (threshold id)) (members_of tables scope s) found.0, find-none (λ id. time_lt s.end (threshold id)) (introduced_ids tables scope s.start s.end) found.1)

floor-from : (tables : List (List Schema)) (scope : Scope) (start end : Time) (history : Bool) (threshold : ℕ → Time) → time_le start (floor_of tables scope start end history threshold) ≡ true
floor-from tables scope start end true threshold = greatest-from threshold start (introduced_ids tables scope start end)
floor-from tables scope start end false threshold = le-refl start

floor-all : (tables : List (List Schema)) (scope : Scope) (start end : Time) (history : Bool) (threshold : ℕ → Time) → AllByRecursion (λ id. history ≡ true → time_le (threshold id) (floor_of tables scope start end history threshold) ≡ true) (introduced_ids tables scope start end)
floor-all tables scope start end true threshold = all-weaker _ _ (λ id h _. h) (introduced_ids tables scope start end) (greatest-all threshold start (introduced_ids tables scope start end))
floor-all tables scope start end false threshold = all-true _ (λ id e. cc e) (introduced_ids tables scope start end)

floor-upto : (tables : List (List Schema)) (scope : Scope) (start end : Time) (history : Bool) (threshold : ℕ → Time) → time_le start end ≡ true → AllByRecursion (λ id. time_lt end (threshold id) ≡ false) (introduced_ids tables scope start end) → time_le (floor_of tables scope start end history threshold) end ≡ true
floor-upto tables scope start end true threshold p h = greatest-upto threshold start end (introduced_ids tables scope start end) p h
floor-upto tables scope start end false threshold p h = p

-- ---- what is kept

kept-one : (tables : List (List Schema)) (s : Span) (threshold : ℕ → Time) (id : ℕ) → (is_introduced tables s.start s.end id ≡ true → time_lt s.end (threshold id) ≡ false) → (is_introduced tables s.start s.end id ≡ true → s.history ≡ true → time_le (threshold id) s.floor ≡ true) → (not (is_introduced tables s.start s.end id) && time_lt s.start (threshold id)) ≡ false → IsKept threshold (table_plan tables s id)
unfolding table_plan
kept-one tables s threshold id = by s.history (is_introduced tables s.start s.end id)
  where
    plan : Bool → Bool → TablePlan
    plan history introduced = record { id = id; introduced = introduced; plan = plan_by history introduced s (descriptors_of tables id); protected = protected_by history introduced s }

    by : (history introduced : Bool) → (introduced ≡ true → time_lt s.end (threshold id) ≡ false) → (introduced ≡ true → history ≡ true → time_le (threshold id) s.floor ≡ true) → (not introduced && time_lt s.start (threshold id)) ≡ false → IsKept threshold (plan history introduced)
    by true true h f g = record { export = f refl refl; protected = f refl refl }
    by true false h f g = record { export = not_lt-le s.start (threshold id) g; protected = not_lt-le s.start (threshold id) g }
    by false true h f g = record { export = not_lt-le s.end (threshold id) (h refl); protected = not_lt-le s.end (threshold id) (h refl) }
    by false false h f g = record { export = not_lt-le s.start (threshold id) g; protected = not_lt-le s.start (threshold id) g }

kept : (tables : List (List Schema)) (scope : Scope) (s : Span) (threshold : ℕ → Time) → AllByRecursion (λ id. s.history ≡ true → time_le (threshold id) s.floor ≡ true) (introduced_ids tables scope s.start s.end) → fault_over tables scope s threshold ≡ None → AllByRecursion (IsKept threshold) (plan_over tables scope s).tables
unfolding members_of introduced_ids
kept tables scope s threshold floored e = all-map (IsKept threshold) (table_plan tables s) (members_of tables scope s) (all-filter Known (λ id. IsKept threshold (table_plan tables s id)) (is_member tables s) (λ id m h. kept-one tables s threshold id h.0 h.1.0 (h.1.1 m)) (scope_ids tables scope) (all-both Ends (λ id. Floors id × Starts id) (scope_ids tables scope) ends (all-both Floors Starts (scope_ids tables scope) floors starts)))
  where
    intro : ℕ → Bool
    intro = is_introduced tables s.start s.end

    Ends : ℕ → Type 0
    Ends id = intro id ≡ true → time_lt s.end (threshold id) ≡ false

    Floors : ℕ → Type 0
    Floors id = intro id ≡ true → s.history ≡ true → time_le (threshold id) s.floor ≡ true

    Starts : ℕ → Type 0
    Starts id = is_member tables s id ≡ true → (not (intro id) && time_lt s.start (threshold id)) ≡ false

    Known : ℕ → Type 0
    Known id = Ends id × (Floors id × Starts id)

    ends : AllByRecursion Ends (scope_ids tables scope)
    ends = all-unfilter (λ id. time_lt s.end (threshold id) ≡ false) intro (scope_ids tables scope) (clear-tests tables scope s threshold e).1

    floors : AllByRecursion Floors (scope_ids tables scope)
    floors = all-unfilter (λ id. s.history ≡ true → time_le (threshold id) s.floor ≡ true) intro (scope_ids tables scope) floored

    starts : AllByRecursion Starts (scope_ids tables scope)
    starts = all-unfilter (λ id. (not (intro id) && time_lt s.start (threshold id)) ≡ false) (is_member tables s) (scope_ids tables scope) (clear-tests tables scope s threshold e).0

pub plan-stands : (tables : List (List Schema)) (scope : Scope) (start end : Time) (history : Bool) (threshold : ℕ → Time) → PlanStands tables scope start end history threshold
unfolding layer_plan plan_fault span_of
plan-stands tables scope start end history threshold = record {
  ascend = ascending tables scope (span_of tables scope start end history threshold);
  listed = listed tables scope (span_of tables scope start end history threshold);
  from = floor-from tables scope start end history threshold;
  upto = λ e p. floor-upto tables scope start end history threshold p (clear-tests tables scope (span_of tables scope start end history threshold) threshold e).1;
  kept = λ e. kept tables scope (span_of tables scope start end history threshold) threshold (floor-all tables scope start end history threshold) e;
}
