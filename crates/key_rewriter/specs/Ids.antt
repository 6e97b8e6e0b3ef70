-- Old ids and new ones.
use Rattle.std.specs.Prelude.{ℕ, ◌+◌, ◌<◌, ◌^◌, Bool, true, ◌&&◌, nat_le, List, [], ◌∷◌}
use Rattle.std.specs.List.{AllByRecursion}

-- each is at least n, and greater than the one before
abbrev pub ascends_from : ℕ → List ℕ → Bool
ascends_from n [] = true
ascends_from n (x ∷ xs) = nat_le n x && ascends_from (x + 1) xs

abbrev pub are_ascending : List ℕ → Bool
are_ascending ids = ascends_from 0 ids

-- ids paired with n, n + 1, and so on
abbrev pub numbered : ℕ → List ℕ → List (ℕ × ℕ)
numbered n [] = []
numbered n (x ∷ xs) = (x, n) ∷ numbered (n + 1) xs

-- old ids and new ones ascend, and the new ones are ids
abbrev pub IsIdMap : List (ℕ × ℕ) → Type 0
IsIdMap [] = Unit {0}
IsIdMap (p ∷ ps) = (p.1 < 2 ^ 32) × AllByRecursion (λ q. (p.0 < q.0) × (p.1 < q.1)) ps × IsIdMap ps
