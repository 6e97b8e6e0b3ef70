-- The visible rows as of a time.
use Rattle.std.specs.Prelude.{◌≡◌, List, [], ◌∷◌, ◌++◌, Option, Some, None, map, ◌↔◌}
use Rattle.std.specs.declared.cmp.Ordering.{Ordering}
use Rattle.std.specs.Ordering.{on}
use Rattle.std.specs.List.Sorted.{IsStrictlySortedBy}
use Rattle.mvcc_keys.specs.Times.{Time}
use Rattle.fact_model.specs.Ordered.{ordered}
use Rattle.fact_model.specs.Facts.{Fact, Put, Del, DelRange, value, Version, after}
use Rattle.list_laws.specs.Members.{Has}

pub record Item (K V : Type 0) : Type 0 where
  pub key : K
  pub value : V
  pub at : Time

-- the keys of the puts, as they come
unfoldable pub keys_put : {K V : Type 0} → List (Fact K V) → List K
keys_put [] = []
keys_put (Put k v at ∷ fs) = k ∷ keys_put fs
keys_put (Del k at ∷ fs) = keys_put fs
keys_put (DelRange lo hi at ∷ fs) = keys_put fs

abbrev pub item : {K V : Type 0} → K → Version V → Item K V
item k v = record { key = k; value = v.value; at = v.at }

abbrev pub version : {K V : Type 0} → Item K V → Version V
version i = record { value = i.value; at = i.at }

abbrev pub with_item : {K V : Type 0} → K → Option (Version V) → List (Item K V) → List (Item K V)
with_item k None is = is
with_item k (Some v) is = item k v ∷ is

-- those of the keys that a function gives a version, with it
unfoldable pub items : {K V : Type 0} → (K → Option (Version V)) → List K → List (Item K V)
items shown [] = []
items shown (k ∷ ks) = with_item k (shown k) (items shown ks)

-- the keys that have a value as of t, in order, each with it
unfoldable pub scan : {K V : Type 0} → (K → K → Ordering) → Time → List (Fact K V) → List (Item K V)
scan cmp t fs = items (λ k. value cmp k t fs) (ordered cmp (keys_put fs))

-- the same, said of the list: it ascends, and has exactly the visible items
pub record IsScan {K V : Type 0} (cmp : K → K → Ordering) (t : Time) (fs : List (Fact K V)) (is : List (Item K V)) : Type 0 where
  pub ascends : IsStrictlySortedBy (on (λ (i : Item K V). i.key) cmp) is
  pub shows : (i : Item K V) → Has i is ↔ (value cmp i.key t fs ≡ Some (version i))

abbrev pub put_of : {K V : Type 0} → Item K V → Fact K V
put_of i = Put i.key i.value i.at

-- the puts that are visible at t
unfoldable pub image : {K V : Type 0} → (K → K → Ordering) → Time → List (Fact K V) → List (Fact K V)
image cmp t fs = map put_of (scan cmp t fs)

-- what a store holds whose history before g was collected
unfoldable pub kept : {K V : Type 0} → (K → K → Ordering) → Time → List (Fact K V) → List (Fact K V)
kept cmp g fs = image cmp g fs ++ after g fs
