-- What a listing of facts has, said of the list.
use Rattle.std.specs.Prelude.{◌≡◌, ◌↔◌, Bool, true, false, List}
use Rattle.std.specs.declared.cmp.Ordering.{Ordering}
use Rattle.std.specs.List.Sorted.{IsStrictlySortedBy}
use Rattle.mvcc_keys.specs.Times.{Time, time_le}
use Rattle.list_laws.specs.Members.{Has}
use Rattle.fact_model.specs.Facts.{Fact, date}
use Rattle.fact_model.specs.Listed.{is_point, key_of}

-- a list ascends and has exactly the elements that meet P
pub record IsListing {X : Type 0} (cmp : X → X → Ordering) (P : X → Type 0) (xs : List X) : Type 0 where
  pub ascends : IsStrictlySortedBy cmp xs
  pub has : (x : X) → Has x xs ↔ P x

-- one of the facts, a put or deletion or else a range deletion, of some dates
abbrev pub IsListed : {K V : Type 0} → Bool → (Time → Bool) → List (Fact K V) → Fact K V → Type 0
IsListed kind dated fs f = Has f fs × (is_point f ≡ kind) × (dated (date f) ≡ true)

-- of the puts and deletions of its key and of some dates, none is later
pub record IsNewestPoint {K V : Type 0} (dated : Time → Bool) (fs : List (Fact K V)) (f : Fact K V) : Type 0 where
  pub listed : IsListed true dated fs f
  pub last : (g : Fact K V) → IsListed true dated fs g → key_of g ≡ key_of f → time_le (date g) (date f) ≡ true

-- no two range deletions have one date
pub record RangesDiffer {K V : Type 0} (fs : List (Fact K V)) : Type 0 where
  pub differ : (f g : Fact K V) → Has f fs → Has g fs → is_point f ≡ false → is_point g ≡ false → date f ≡ date g → f ≡ g
