-- What holds of dated facts, said of any keys and values.
use Rattle.std.specs.Prelude.{◌≡◌, ◌⊎◌, Bool, true, false, List, Option, map, IsPermutation, option_map}
use Rattle.std.specs.declared.cmp.Ordering.{Ordering}
use Rattle.mvcc_keys.specs.Times.{Time, time_le}
use Rattle.fact_model.specs.Facts.{Fact, Put, Del, DelRange, IsApart, IsKeyOrder, newest, value}
use Rattle.list_laws.specs.Members.{Has}
use Rattle.fact_model.specs.Listed.{date_cmp, point_cmp, points, ranges}
use Rattle.fact_model.specs.Listings.{IsListed, IsListing, RangesDiffer}
use Rattle.fact_model.specs.Newest.{IsNewest}
use Rattle.fact_model.specs.Scans.{Item, scan, IsScan, kept}
use Rattle.fact_model.specs.Mapped.{map_fact, map_version, map_item}

-- The newest fact of a key up to a time is one of the facts that touch the key and are dated up to then, and none of those is later;
-- there is none only where none touches it. Of facts that lie apart no other answer is so.
abbrev pub NewestIsExact : Type 0 → Type 0 → Type 0
NewestIsExact K V = (cmp : K → K → Ordering) (fs : List (Fact K V)) (k : K) (t : Time) → IsNewest cmp k t fs (newest cmp k t fs) × (IsApart cmp fs → (r : Option (Fact K V)) → IsNewest cmp k t fs r → r ≡ newest cmp k t fs)

-- A listing ascends strictly and has exactly the facts that are listed: puts and deletions by key and newest first, where the facts lie
-- apart, and range deletions by date, where no two have one date.
pub record ListingsAreExact (K V : Type 0) : Type 0 where
  pub puts : (cmp : K → K → Ordering) (dated : Time → Bool) (fs : List (Fact K V)) → IsKeyOrder cmp → IsApart cmp fs → IsListing (point_cmp cmp) (IsListed true dated fs) (points cmp dated fs)
  pub deletions : (dated : Time → Bool) (fs : List (Fact K V)) → RangesDiffer fs → IsListing date_cmp (IsListed false dated fs) (ranges dated fs)

-- a scan ascends and has exactly the visible items, and no other list does
abbrev pub ScansAreExact : Type 0 → Type 0 → Type 0
ScansAreExact K V = (cmp : K → K → Ordering) (fs : List (Fact K V)) (t : Time) → IsKeyOrder cmp → IsScan cmp t fs (scan cmp t fs) × ((is : List (Item K V)) → IsScan cmp t fs is → is ≡ scan cmp t fs)

-- from a collection's time on, what is kept says what all facts say
abbrev pub KeptSuffices : Type 0 → Type 0 → Type 0
KeptSuffices K V = (cmp : K → K → Ordering) (fs : List (Fact K V)) (g t : Time) → IsKeyOrder cmp → IsApart cmp fs → time_le g t ≡ true → ((k : K) → value cmp k t (kept cmp g fs) ≡ value cmp k t fs) × (scan cmp t (kept cmp g fs) ≡ scan cmp t fs)

-- a later collection of what is kept keeps what it keeps of all facts
abbrev pub KeptOnceMore : Type 0 → Type 0 → Type 0
KeptOnceMore K V = (cmp : K → K → Ordering) (fs : List (Fact K V)) (g s : Time) → IsKeyOrder cmp → IsApart cmp fs → time_le g s ≡ true → kept cmp s (kept cmp g fs) ≡ kept cmp s fs

-- facts in another order say the same
abbrev pub OrderIsFree : Type 0 → Type 0 → Type 0
OrderIsFree K V = (cmp : K → K → Ordering) (fs gs : List (Fact K V)) (t : Time) → IsKeyOrder cmp → IsApart cmp fs → IsPermutation fs gs → ((k : K) → value cmp k t gs ≡ value cmp k t fs) × (scan cmp t gs ≡ scan cmp t fs)

-- k is a fact's key, or an end of its range
abbrev pub IsKeyOf : {K V : Type 0} → K → Fact K V → Type 0
IsKeyOf k (Put key v at) = k ≡ key
IsKeyOf k (Del key at) = k ≡ key
IsKeyOf k (DelRange lo hi at) = (k ≡ lo) ⊎ (k ≡ hi)

-- k is that of one of the facts
abbrev pub IsKeyIn : {K V : Type 0} → List (Fact K V) → K → Type 0
IsKeyIn {K} {V} fs k = (x : Fact K V) × (Has x fs × IsKeyOf k x)

-- f keeps the order of the keys that meet P
abbrev pub KeepsOrder : {K L : Type 0} → (K → K → Ordering) → (L → L → Ordering) → (K → L) → (K → Type 0) → Type 0
KeepsOrder {K} cmp cmp' f P = (a b : K) → P a → P b → cmp' (f a) (f b) ≡ cmp a b

-- facts whose keys are mapped by f, which keeps their order, and whose values are mapped by w, say the same, mapped
pub record MapsCarry (K L V W : Type 0) : Type 0 where
  pub value : (cmp : K → K → Ordering) (cmp' : L → L → Ordering) (f : K → L) (w : V → W) (fs : List (Fact K V)) (k : K) (t : Time) → KeepsOrder cmp cmp' f (λ a. (a ≡ k) ⊎ IsKeyIn fs a) → value cmp' (f k) t (map (map_fact f w) fs) ≡ option_map (map_version w) (value cmp k t fs)
  pub scan : (cmp : K → K → Ordering) (cmp' : L → L → Ordering) (f : K → L) (w : V → W) (fs : List (Fact K V)) (t : Time) → KeepsOrder cmp cmp' f (IsKeyIn fs) → scan cmp' t (map (map_fact f w) fs) ≡ map (map_item f w) (scan cmp t fs)
  pub kept : (cmp : K → K → Ordering) (cmp' : L → L → Ordering) (f : K → L) (w : V → W) (fs : List (Fact K V)) (g : Time) → KeepsOrder cmp cmp' f (IsKeyIn fs) → kept cmp' g (map (map_fact f w) fs) ≡ map (map_fact f w) (kept cmp g fs)
