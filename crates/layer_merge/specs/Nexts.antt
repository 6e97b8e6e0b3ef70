-- What is to come of an image after a key, over facts.
use Rattle.std.specs.Prelude.{◌≡◌, Bool, true, false, ◌&&◌, List, filter, Option, Some, None}
use Rattle.std.specs.declared.cmp.Ordering.{Ordering}
use Rattle.std.specs.Ordering.{is_gt, is_lt}
use Rattle.mvcc_keys.specs.Times.{Time, time_lt, time_le}
use Rattle.fact_model.specs.Facts.{Fact, date, touches}
use Rattle.list_laws.specs.Members.{Has}
use Rattle.fact_model.specs.Scans.{Item}
use Rattle.fact_model.specs.Listed.{is_point, key_of, point_cmp}

-- a key after the last one that was given
abbrev pub is_past : {K : Type 0} → (K → K → Ordering) → Option K → K → Bool
is_past cmp None key = true
is_past cmp (Some last) key = is_lt (cmp last key)

module _ {K V : Type 0} (cmp : K → K → Ordering) where
  -- the items of keys that are asked for and weren't given yet
  abbrev pub to_come : (K → Bool) → Option K → List (Item K V) → List (Item K V)
  to_come asked done is = filter (λ (i : Item K V). is_past cmp done i.key && asked i.key) is

  -- a put or deletion of such a key, of a date that is asked for
  abbrev pub is_due : (K → Bool) → (Time → Bool) → Option K → Fact K V → Bool
  is_due asked dated done f = is_point f && ((is_past cmp done (key_of f) && asked (key_of f)) && dated (date f))

  -- the first of those, by key and newest first
  pub record IsFirstDue (asked : K → Bool) (dated : Time → Bool) (done : Option K) (fs : List (Fact K V)) (f : Fact K V) : Type 0 where
    pub among : Has f fs
    pub due : is_due asked dated done f ≡ true
    pub least : (g : Fact K V) → Has g fs → is_due asked dated done g ≡ true → is_gt (point_cmp cmp f g) ≡ false

  -- the greatest date up to t of a range deletion that covers the key
  pub record IsCoverDate (key : K) (t : Time) (fs : List (Fact K V)) (d : Time) : Type 0 where
    pub range : Fact K V
    pub among : Has range fs
    pub is_range : is_point range ≡ false
    pub covers : touches cmp key range ≡ true
    pub dated : date range ≡ d
    pub within : time_le d t ≡ true
    pub last : (g : Fact K V) → Has g fs → is_point g ≡ false → touches cmp key g ≡ true → time_le (date g) t ≡ true → time_le (date g) d ≡ true

  abbrev pub IsCover : K → Time → List (Fact K V) → Option Time → Type 0
  IsCover key t fs None = (g : Fact K V) → Has g fs → is_point g ≡ false → touches cmp key g ≡ true → time_le (date g) t ≡ true → ⊥
  IsCover key t fs (Some d) = IsCoverDate key t fs d

-- a put of one date is hidden by a range deletion of a later one
abbrev pub is_hidden : Option Time → Time → Bool
is_hidden None at = false
is_hidden (Some d) at = time_lt at d
