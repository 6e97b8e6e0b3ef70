-- Objects as a list of entries by name, and touched names as a list by name. The disk in memory keeps both so.
use Rattle.std.specs.Prelude.{◌≡◌, ◌≢◌, ℕ, Bool, true, not, T, List, [], ◌∷◌, map, filter, Option, Some, if◌then◌else◌}
use Rattle.std.specs.FinMap.{is_sorted, from_sorted}
use Rattle.std.specs.List.{list_any}
use Rattle.std.specs.Cmp.Lexicographic.{slice_cmp}
use Rattle.std.specs.Ordering.{eq_by_cmp, nat_cmp}
use Rattle.outside_world.specs.Objects.{Objects, at}

abbrev pub Entries : Type 0
Entries = List (List ℕ × List ℕ)

-- the names strictly rise
abbrev pub in_order : Entries → Bool
in_order es = is_sorted (slice_cmp nat_cmp) es

abbrev pub objects_of : Entries → Objects
objects_of es = from_sorted es

-- one name is set to a value, or to none
pub record IsSet (name : List ℕ) (value : Option (List ℕ)) (old new : Entries) : Type 0 where
  pub ordered : T (in_order new)
  pub here : at (objects_of new) name ≡ value
  pub others : (n : List ℕ) → n ≢ name → at (objects_of new) n ≡ at (objects_of old) n

-- the value that a list sets a name to at last, or else this
abbrev pub last_value : List ℕ → Entries → Option (List ℕ) → Option (List ℕ)
last_value n [] before = before
last_value n (e ∷ es) before = last_value n es (if eq_by_cmp (slice_cmp nat_cmp) n e.0 then Some e.1 else before)

abbrev pub is_touched : List (List ℕ) → List ℕ → Bool
is_touched names n = list_any (eq_by_cmp (slice_cmp nat_cmp) n) names

-- the names strictly rise
abbrev pub are_in_order : List (List ℕ) → Bool
are_in_order names = is_sorted {X = Unit {0}} (slice_cmp nat_cmp) (map (λ n. (n, tt)) names)

-- those that don't have this name
abbrev pub others : {X : Type 0} → (X → List ℕ) → List ℕ → List X → List X
others name_of n xs = filter (λ x. not (eq_by_cmp (slice_cmp nat_cmp) n (name_of x))) xs

-- one name is touched
pub record IsTouched (name : List ℕ) (old new : List (List ℕ)) : Type 0 where
  pub ordered : T (are_in_order new)
  pub here : is_touched new name ≡ true
  pub others : (n : List ℕ) → n ≢ name → is_touched new n ≡ is_touched old n
