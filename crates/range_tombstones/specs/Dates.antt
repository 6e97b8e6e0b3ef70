-- Dates in ascending order.
use Rattle.std.specs.Prelude.{◌≡◌, Bool, true, false, ◌||◌, cond, List, [], ◌∷◌, ◌++◌, Option, Some, None, filter}
use Rattle.std.specs.List.{AllByRecursion}
use Rattle.mvcc_keys.specs.Times.{Time, time_eq, time_lt, time_le}

-- each comes before all after it
abbrev pub Ascends : {X : Type 0} → (X → X → Bool) → List X → Type 0
Ascends lt [] = Unit {0}
Ascends lt (x ∷ xs) = AllByRecursion (λ y. lt x y ≡ true) xs × Ascends lt xs

-- a date is in the list
abbrev pub has_date : Time → List Time → Bool
has_date t [] = false
has_date t (d ∷ ds) = time_eq t d || has_date t ds

-- a date after the earlier ones and before the later ones
unfoldable pub with_date : Time → List Time → List Time
with_date t ds = filter (λ d. time_lt d t) ds ++ t ∷ filter (λ d. time_lt t d) ds

-- all dates but one
abbrev pub without_date : Time → List Time → List Time
without_date t ds = filter (λ d. cond (time_eq d t) false true) ds

abbrev pub last_after : {X : Type 0} → X → List X → X
last_after x [] = x
last_after x (y ∷ ys) = last_after y ys

abbrev pub last_of : {X : Type 0} → List X → Option X
last_of [] = None
last_of (x ∷ xs) = Some (last_after x xs)

-- the last date up to t
unfoldable pub last_upto : Time → List Time → Option Time
last_upto t ds = last_of (filter (λ d. time_le d t) ds)
