-- Which row is named where rows come twice.
use Rattle.std.specs.Prelude.{◌≡◌, ◌↔◌, ℕ, ◌+◌, ◌<◌, true, List, [], Some, None}
use Rattle.std.specs.List.{slice_get}
use Rattle.std.specs.Ordering.{is_eq}
use Rattle.std.specs.declared.cmp.Ordering.{Ordering}
use Rattle.history_model.specs.Rows.{Key}
use Rattle.history_model.specs.RowTests.{repeated_after}

-- the key at this place, counted from 0, ties with an earlier one
pub record ComesAgain (cmp : Key → Key → Ordering) (keys : List Key) (place : ℕ) : Type 0 where
  pub earlier : ℕ
  pub before : earlier < place
  pub first : Key
  pub second : Key
  pub there : slice_get keys earlier ≡ Some first
  pub here : slice_get keys place ≡ Some second
  pub tie : is_eq (cmp first second) ≡ true

-- key number n, counted from 1, is named exactly where it ties with an earlier one and no earlier one does so; none is named exactly
-- where no two keys tie
pub record RepeatsAreNamed (cmp : Key → Key → Ordering) (keys : List Key) : Type 0 where
  pub named : (n : ℕ) → (repeated_after cmp [] keys ≡ Some n) ↔ (place : ℕ) × (n ≡ place + 1) × ComesAgain cmp keys place × ((k : ℕ) → k < place → ComesAgain cmp keys k → ⊥)
  pub unnamed : (repeated_after cmp [] keys ≡ None) ↔ ((place : ℕ) → ComesAgain cmp keys place → ⊥)

abbrev pub FirstRepeatsAreNamed : Type 0
FirstRepeatsAreNamed = (cmp : Key → Key → Ordering) (keys : List Key) → RepeatsAreNamed cmp keys
