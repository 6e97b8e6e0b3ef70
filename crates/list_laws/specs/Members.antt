-- Membership by recursion, which computes where std's Contains names a place.
use Rattle.std.specs.Prelude.{◌≡◌, List, [], ◌∷◌, ◌⊎◌}

-- x is in the list
abbrev pub Has : {X : Type 0} → X → List X → Type 0
Has x [] = ⊥
Has x (y ∷ ys) = (x ≡ y) ⊎ Has x ys

-- each element of xs is in ys
abbrev pub AllIn : {X : Type 0} → List X → List X → Type 0
AllIn {X} xs ys = (x : X) → Has x xs → Has x ys
