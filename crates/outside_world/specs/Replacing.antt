-- What `replace` promises: a gate that is open is open over the new bytes.
use Rattle.std.specs.Prelude.{◌≡◌, ◌≢◌, ℕ, List, [], ◌∷◌, Some}
use Rattle.outside_world.specs.Disk.{View, IsKnown, IsImage}
use Rattle.outside_world.specs.Moments.{InEachImage}
use Rattle.outside_world.specs.Objects.{Objects, at}

-- the gate is open
abbrev pub IsOpen : List ℕ → Objects → Type 0
IsOpen gate c = at c gate ≡ Some (1 ∷ [])

-- a disk on which the gate is shut for good, as far as a crash is concerned
pub record MayReplace (name gate : List ℕ) (v : View) : Type 0 where
  pub known : IsKnown v
  pub apart : name ≢ gate
  pub shut : InEachImage v (λ c. ¬ IsOpen gate c)

-- the gate is open over these bytes
abbrev pub IsNew : List ℕ → List ℕ → List ℕ → Objects → Type 0
IsNew name bytes gate c = IsOpen gate c × (at c name ≡ Some bytes)

-- Where the gate is open, it is open over these bytes; and all but these two names is as in an image from before.
pub record IsOldOrNew (name bytes gate : List ℕ) (first : View) (image : Objects) : Type 0 where
  pub whole : IsOpen gate image → at image name ≡ Some bytes
  pub source : Objects
  pub was : IsImage first source
  pub elsewhere : (n : List ℕ) → n ≢ name → n ≢ gate → at image n ≡ at source n
