-- The numbers under which jobs are kept.
use Rattle.std.specs.Prelude.{◌≡◌, ℕ, ◌+◌, List, [], ◌∷◌}

-- n, n + 1, and so on
abbrev pub AreNumbered : ℕ → List ℕ → Type 0
AreNumbered n [] = Unit {0}
AreNumbered n (k ∷ ks) = (k ≡ n) × AreNumbered (n + 1) ks
