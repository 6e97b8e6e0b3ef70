-- The newest fact of a key up to a time, said of the fact.
use Rattle.std.specs.Prelude.{◌≡◌, true, List, Option, Some, None}
use Rattle.std.specs.declared.cmp.Ordering.{Ordering}
use Rattle.mvcc_keys.specs.Times.{Time, time_le}
use Rattle.list_laws.specs.Members.{Has}
use Rattle.fact_model.specs.Facts.{Fact, date, touches}

-- f is one of the facts, touches k, is dated up to t, and none that does is later
pub record IsNewestFact {K V : Type 0} (cmp : K → K → Ordering) (k : K) (t : Time) (fs : List (Fact K V)) (f : Fact K V) : Type 0 where
  pub among : Has f fs
  pub touching : touches cmp k f ≡ true
  pub dated : time_le (date f) t ≡ true
  pub last : (g : Fact K V) → Has g fs → touches cmp k g ≡ true → time_le (date g) t ≡ true → time_le (date g) (date f) ≡ true

-- no fact dated up to t touches k
abbrev pub IsUntouched : {K V : Type 0} → (K → K → Ordering) → K → Time → List (Fact K V) → Type 0
IsUntouched {K} {V} cmp k t fs = (g : Fact K V) → Has g fs → touches cmp k g ≡ true → time_le (date g) t ≡ true → ⊥

-- the newest fact, or none
abbrev pub IsNewest : {K V : Type 0} → (K → K → Ordering) → K → Time → List (Fact K V) → Option (Fact K V) → Type 0
IsNewest cmp k t fs None = IsUntouched cmp k t fs
IsNewest cmp k t fs (Some f) = IsNewestFact cmp k t fs f
