-- What a code is: spellings whose order is the order of their values, and a reader of just these.
use Rattle.std.specs.Prelude.{◌≡◌, ℕ, ◌<◌, ◌^◌, ℤ, pos, negsuc, List, ◌++◌, Result, Ok}
use Rattle.std.specs.declared.cmp.Ordering.{Ordering}
use Rattle.std.specs.Ordering.{nat_cmp, ordering_then}
use Rattle.std.specs.Cmp.Lexicographic.{slice_cmp}
use Rattle.list_laws.specs.Bytes.{AreBytes}

-- a number of 64 bits
abbrev pub IsWord : ℕ → Type 0
IsWord v = v < 2 ^ 64

-- a signed number of 64 bits
abbrev pub IsSignedWord : ℤ → Type 0
IsSignedWord (pos v) = v < 2 ^ 63
IsSignedWord (negsuc k) = k < 2 ^ 63

-- The bytes compare as the values do, and whatever follows a value's spelling decides only where the values are equal.
abbrev pub IsOrderedCode : {X : Type 0} → (X → Type 0) → (X → X → Ordering) → (X → List ℕ) → Type 0
IsOrderedCode {X} P cmp code =
    (a b : X) (r s : List ℕ) → P a → P b → slice_cmp nat_cmp (code a ++ r) (code b ++ s) ≡ ordering_then (cmp a b) (slice_cmp nat_cmp r s)

-- the other way round
abbrev pub turned_round : {X : Type 0} → (X → X → Ordering) → X → X → Ordering
turned_round cmp a b = cmp b a

pub record IsCode {X E : Type 0} (P : X → Type 0) (cmp : X → X → Ordering) (code : X → List ℕ) (read : List ℕ → Result (X × List ℕ) E) : Type 0 where
  -- order of bytes is order of values
  pub ordered : IsOrderedCode P cmp code
  -- a spelling in front of any bytes is read as its value and those bytes
  pub found : (v : X) (r : List ℕ) → P v → read (code v ++ r) ≡ Ok (v, r)
  -- and nothing else is read
  pub only : (b : List ℕ) (v : X) (r : List ℕ) → AreBytes b → read b ≡ Ok (v, r) → P v × (b ≡ code v ++ r)
  -- different values have different spellings, and none begins another
  pub apart : (a b : X) (r s : List ℕ) → P a → P b → code a ++ r ≡ code b ++ s → (a ≡ b) × (r ≡ s)
