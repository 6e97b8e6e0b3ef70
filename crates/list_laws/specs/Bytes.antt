-- Numbers that are bytes.
use Rattle.std.specs.Prelude.{ℕ, ◌<◌, List}
use Rattle.std.specs.List.{AllByRecursion}

abbrev pub AreBytes : List ℕ → Type 0
AreBytes b = AllByRecursion (λ x. x < 256) b
