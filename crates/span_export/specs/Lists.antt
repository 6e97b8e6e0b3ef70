-- What the walks over lists of entries compute.
use Rattle.std.specs.Prelude.{Bool, false, cond, List, [], ◌∷◌, ◌++◌}
use Rattle.std.specs.Ordering.{is_lt}
use Rattle.mvcc_keys.specs.declared.entries.Entry.{Entry}
use Rattle.fact_model.specs.Listed.{point_cmp}
use Rattle.version_store.specs.Tables.{bytes_cmp}
use Rattle.version_store.specs.Lists.{fact_of}

-- the first elements, as long as they pass a test
abbrev pub front : {X : Type 0} → (X → Bool) → List X → List X
front p [] = []
front p (x ∷ xs) = cond (p x) (x ∷ front p xs) []

-- what comes after them
abbrev pub rest : {X : Type 0} → (X → Bool) → List X → List X
rest p [] = []
rest p (x ∷ xs) = cond (p x) (rest p xs) (x ∷ xs)

-- a put or deletion comes before e
abbrev pub comes_before : Entry → Entry → Bool
comes_before e d = is_lt (point_cmp bytes_cmp (fact_of d) (fact_of e))

abbrev pub first_passes : {X : Type 0} → (X → Bool) → List X → Bool
first_passes p [] = false
first_passes p (x ∷ xs) = p x

-- two lists as one: each of the first list comes after those of the second that come before it
abbrev pub merged : List Entry → List Entry → List Entry
merged [] ys = ys
merged (x ∷ xs) ys = front (comes_before x) ys ++ x ∷ merged xs (rest (comes_before x) ys)
