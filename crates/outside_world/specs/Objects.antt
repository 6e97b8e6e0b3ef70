-- Objects by name, and what a crash may leave of them. Each word about a disk stands on this.
use Rattle.std.specs.Prelude.{◌≡◌, ℕ, Bool, false, List, Option}
use Rattle.std.specs.FinMap.{FinMap, get}
use Rattle.std.specs.Cmp.Lexicographic.{slice_cmp}
use Rattle.std.specs.Ordering.{nat_cmp}

-- names are bytes, in the order of bytes
abbrev pub Objects : Type 0
Objects = FinMap (slice_cmp nat_cmp) (List ℕ)

-- the bytes under a name
abbrev pub at : Objects → List ℕ → Option (List ℕ)
at objects name = get objects name

-- the disk model: an image agrees with the objects on every name that isn't touched; a touched name holds anything or nothing
pub record MayLeave (objects : Objects) (touched : List ℕ → Bool) (image : Objects) : Type 0 where
  pub same : (name : List ℕ) → touched name ≡ false → at image name ≡ at objects name
