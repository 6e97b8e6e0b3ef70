-- Dated facts, and what they say of a key.
use Rattle.std.specs.Prelude.{◌≡◌, Bool, true, cond, ◌&&◌, List, [], ◌∷◌, Option, Some, None, filter, ◌⊎◌}
use Rattle.std.specs.declared.cmp.Ordering.{Ordering}
use Rattle.std.specs.Ordering.{is_eq, is_lt, is_le}
use Rattle.std.specs.Cmp.{IsTotalOrder}
use Rattle.std.specs.declared.cmp.Ordering.TheVariants.{Equal}
use Rattle.mvcc_keys.specs.Times.{Time, time_lt, time_le}
use Rattle.list_laws.specs.Members.{Has}

pub data Fact (K V : Type 0) : Type 0 where
  Put : K → V → Time → Fact K V
  Del : K → Time → Fact K V
  DelRange : K → K → Time → Fact K V

-- an order of keys that tells different keys apart
pub record IsKeyOrder {K : Type 0} (cmp : K → K → Ordering) : Type 0 where
  pub total : IsTotalOrder cmp
  pub same : (x y : K) → cmp x y ≡ Equal → x ≡ y

abbrev pub date : {K V : Type 0} → Fact K V → Time
date (Put key value at) = at
date (Del key at) = at
date (DelRange lo hi at) = at

abbrev pub touches : {K V : Type 0} → (K → K → Ordering) → K → Fact K V → Bool
touches cmp k (Put key value at) = is_eq (cmp key k)
touches cmp k (Del key at) = is_eq (cmp key k)
touches cmp k (DelRange lo hi at) = is_le (cmp lo k) && is_lt (cmp k hi)

-- f, or a later fact that was found among others
abbrev pub later : {K V : Type 0} → Fact K V → Option (Fact K V) → Option (Fact K V)
later f None = Some f
later f (Some g) = cond (time_lt (date f) (date g)) (Some g) (Some f)

-- the fact of the latest date up to t that touches k
unfoldable pub newest : {K V : Type 0} → (K → K → Ordering) → K → Time → List (Fact K V) → Option (Fact K V)
newest cmp k t [] = None
newest cmp k t (f ∷ fs) = cond (touches cmp k f && time_le (date f) t) (later f (newest cmp k t fs)) (newest cmp k t fs)

-- a value and its date
pub record Version (V : Type 0) : Type 0 where
  pub value : V
  pub at : Time

-- what a put holds
abbrev pub version_of : {K V : Type 0} → Option (Fact K V) → Option (Version V)
version_of None = None
version_of (Some (Put key v at)) = Some (record { value = v; at = at })
version_of (Some (Del key at)) = None
version_of (Some (DelRange lo hi at)) = None

-- the value of k as of t
unfoldable pub value : {K V : Type 0} → (K → K → Ordering) → K → Time → List (Fact K V) → Option (Version V)
value cmp k t fs = version_of (newest cmp k t fs)

-- facts of one date that touch one key are the same fact
pub record IsApart {K V : Type 0} (cmp : K → K → Ordering) (fs : List (Fact K V)) : Type 0 where
  pub apart : (k : K) (f g : Fact K V) → Has f fs → Has g fs → touches cmp k f ≡ true → touches cmp k g ≡ true → date f ≡ date g → f ≡ g

-- the facts dated after s
abbrev pub after : {K V : Type 0} → Time → List (Fact K V) → List (Fact K V)
after s fs = filter (λ f. time_lt s (date f)) fs

-- the facts dated up to t
abbrev pub upto : {K V : Type 0} → Time → List (Fact K V) → List (Fact K V)
upto t fs = filter (λ f. time_le (date f) t) fs
