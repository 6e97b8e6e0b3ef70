-- Names that belong to tables, thresholds of tables, and the layers of a source.
use Rattle.std.proofs.Common.{◌≡◌, ◌≢◌, inl, inr, ℕ, zero, suc, ◌+◌, ◌-◌, ◌<◌, ◌≤◌, ◌==◌, nat_lt, Bool, true, false, List, [], ◌∷◌, map, length, None, option_map, unwrap_or, slice_get, refl, sym, ap, ◌∙◌, arith}
use Rattle.std.specs.List.{list_any, range_with_len}
use Rattle.std.proofs.Math.Path.{fun_ext}
use Rattle.std.proofs.lemmas.Bool.{cases_Bool}
use Rattle.std.proofs.lemmas.Bool.Decides.{nat_tests}
use Rattle.mvcc_keys.specs.Times.{Time, zero_time}
use Rattle.table_descriptors.specs.Descriptors.{Schema}
use Rattle.history_model.specs.Histories.{Table, has_name, in_force}
use Rattle.introduced_spans.specs.declared.plans.Threshold.{Threshold}
use Rattle.introduced_spans.specs.Spans.{threshold_of}
use Rattle.layer_objects.specs.Objects.{by_id, table_threshold}
use Rattle.machine_model.specs.Backups.{has_one_of}

-- ---- names

no-names : (names : List (List ℕ × List ℕ)) → list_any (λ name. unwrap_or (option_map (has_name name) None) false) names ≡ false
no-names [] = refl
no-names (n ∷ ns) = no-names ns

-- a table without a descriptor in force has none of the names
pub none-named : (names : List (List ℕ × List ℕ)) (t : Time) (ds : List Schema) → in_force ds t ≡ None → false ≡ has_one_of names t ds
none-named names t ds none = sym (ap (λ r. list_any (λ name. unwrap_or (option_map (has_name name) r) false) names) none ∙ no-names names)

-- ---- thresholds

abbrev pub told : (ℕ → Time) → ℕ → Threshold
told threshold id = record { table = id; at = threshold id }

-- the thresholds of n tables from an id on
told-found : (threshold : ℕ → Time) (from n id : ℕ) → from ≤ id → id < from + n → threshold_of (map (told threshold) (range_with_len from n)) id ≡ threshold id
told-found threshold from zero id le lt = absurd (omega (arith, le, lt))
told-found threshold from (suc n) id le lt = elim (cases_Bool (from == id)) [
  | inl is ↦ (let same : from ≡ id = grind (arith, nat_tests, is) in rw is (ap threshold same))
  | inr other ↦ (let ne : from ≢ id = grind (arith, nat_tests, other) in rw other (told-found threshold (from + 1) n id (omega (arith, le, ne)) (omega (arith, lt))))
]

told-none : (threshold : ℕ → Time) (from n id : ℕ) → (id < from → threshold_of (map (told threshold) (range_with_len from n)) id ≡ zero_time) × (from + n ≤ id → threshold_of (map (told threshold) (range_with_len from n)) id ≡ zero_time)
told-none threshold from zero id = (λ low. refl, λ high. refl)
told-none threshold from (suc n) id =
    let more = told-none threshold (from + 1) n id in
    (λ low. (let other : (from == id) ≡ false = grind (arith, nat_tests, low) in rw other (more.0 (omega (arith, low)))), λ high. (let other : (from == id) ≡ false = grind (arith, nat_tests, high) in rw other (more.1 (omega (arith, high)))))

-- those of all tables are the tables' thresholds
pub thresholds-are : (tables : List Table) → threshold_of (map (told (by_id zero_time table_threshold tables)) (range_with_len 100 (length tables))) ≡ by_id zero_time table_threshold tables
thresholds-are tables = fun_ext (λ id. by id (nat_lt id 100) (nat_lt id (100 + length tables)) refl refl)
  where
    T : ℕ → Time
    T = by_id zero_time table_threshold tables

    past : (ts : List Table) (i : ℕ) → length ts ≤ i → unwrap_or (option_map table_threshold (slice_get ts i)) zero_time ≡ zero_time
    past [] i le = refl
    past (t ∷ ts) zero le = absurd (omega (arith, le))
    past (t ∷ ts) (suc i) le = past ts i (omega (arith, le))

    by : (id : ℕ) (low high : Bool) → nat_lt id 100 ≡ low → nat_lt id (100 + length tables) ≡ high → threshold_of (map (told T) (range_with_len 100 (length tables))) id ≡ T id
    by id true high l h = (told-none T 100 (length tables) id).0 (let a : id < 100 = grind (arith, nat_tests, l) in a) ∙ sym (rw l refl)
    by id false true l h = told-found T 100 (length tables) id (let a : 100 ≤ id = grind (arith, nat_tests, l) in a) (let a : id < 100 + length tables = grind (arith, nat_tests, h) in a)
    by id false false l h = (told-none T 100 (length tables) id).1 (let a : 100 + length tables ≤ id = grind (arith, nat_tests, h) in a) ∙ sym (rw l (past tables (id - 100) (let a : 100 + length tables ≤ id = grind (arith, nat_tests, h) in omega (arith, a))))
