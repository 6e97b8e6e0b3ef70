-- Where escaped bytes end, or are broken, by the places of their bytes.
use Rattle.std.specs.Prelude.{◌≡◌, ◌↔◌, ℕ, suc, ◌<◌, Bool, true, false, Some, Result, Ok, List, [], ◌∷◌, length, map, take, drop, ◌⊎◌}
use Rattle.std.specs.List.{slice_get}
use Rattle.list_laws.specs.Bytes.{AreBytes}
use Rattle.key_encoding.specs.Spelling.{escaped, turned}
use Rattle.key_encoding.specs.Reading.{refused, read_bytes, read_bytes_down}
use Rattle.key_encoding.specs.declared.fault.KeyFault.{KeyFault}
use Rattle.key_encoding.specs.declared.fault.KeyKind.TheVariants.{Short, Marker, Escape}

-- at this place the byte x stands directly after a 00
pub record IsAfterZero (c : List ℕ) (at x : ℕ) : Type 0 where
  pub before : ℕ
  pub next : at ≡ suc before
  pub zero : slice_get c before ≡ Some 0
  pub there : slice_get c at ≡ Some x

-- at this place stands the first byte that is directly after a 00 and isn't ff: an end if it is 01, else a fault, and neither
-- an end nor a fault is before it
pub record Decides (c : List ℕ) (at x : ℕ) : Type 0 where
  pub after : IsAfterZero c at x
  pub other : x ≡ 255 → ⊥
  pub first : (k y : ℕ) → k < at → IsAfterZero c k y → y ≡ 255

-- each byte that stands directly after a 00 is ff
abbrev pub HasNoEnd : List ℕ → Type 0
HasNoEnd c = (k y : ℕ) → IsAfterZero c k y → y ≡ 255

-- the bytes begin with the marker
abbrev pub IsMarked : ℕ → List ℕ → Type 0
IsMarked marker b = (rest : List ℕ) × (b ≡ marker ∷ rest)

-- What a reader of escaped bytes after a marker answers. Places are counted in the whole input, and bytes are taken as they are or turned.
pub record EscapesAreRead (down : Bool) (marker : ℕ) (read : List ℕ → Result (List ℕ × List ℕ) KeyFault) : Type 0 where
  -- another byte than the marker stands in front
  pub unmarked : (b : List ℕ) (at : ℕ) → (read b ≡ refused Marker at) ↔ (at ≡ 0) × (x : ℕ) × (rest : List ℕ) × (b ≡ x ∷ rest) × (x ≡ marker → ⊥)
  -- there is no end and no fault: the place is the input's length
  pub short : (b : List ℕ) (at : ℕ) → (read b ≡ refused Short at) ↔ (at ≡ length b) × ((b ≡ []) ⊎ IsMarked marker b × HasNoEnd (map (turned down) b))
  -- the first byte directly after a 00 that is neither 01 nor ff, with no end before it
  pub escape : (b : List ℕ) (at : ℕ) → (read b ≡ refused Escape at) ↔ IsMarked marker b × (x : ℕ) × Decides (map (turned down) b) at x × (x ≡ 1 → ⊥)
  -- what is read stands up to the first end, and what follows it is left
  pub ended : (b v r : List ℕ) → AreBytes b → read b ≡ Ok (v, r)
      → (at : ℕ) × Decides (map (turned down) b) at 1 × (take (suc at) b ≡ marker ∷ map (turned down) (escaped v)) × (r ≡ drop (suc at) b)
  -- where there is a first end, the bytes are read
  pub found : (b : List ℕ) (at : ℕ) → IsMarked marker b → Decides (map (turned down) b) at 1 → (v : List ℕ) × (r : List ℕ) × (read b ≡ Ok (v, r))

-- both codes of bytes
abbrev pub EscapeFaultsAreFirst : Type 0
EscapeFaultsAreFirst = EscapesAreRead false 18 read_bytes × EscapesAreRead true 19 read_bytes_down
