-- What holds of subdirectories, of their layers, and of the last full backup.
use Rattle.std.specs.Prelude.{◌≡◌, ◌⊎◌, ℕ, true, List, map, filter, option_map}
use Rattle.std.specs.List.Sorted.{IsPermutation, IsSortedBy, IsStableBy, IsStrictlySortedBy}
use Rattle.std.specs.Ordering.{is_lt}
use Rattle.mvcc_keys.specs.Times.{Time, zero_time, time_le}
use Rattle.list_laws.specs.Members.{Has}
use Rattle.layer_model.specs.declared.names.LayerName.{LayerName}
use Rattle.layer_book.specs.Subdirectories.{is_of, is_in, layer_cmp, layers_of, subdirectory, subdirectory_cmp, subdirectories_of, last_full_of, last_end_of, first_of}

-- y is what f gives of a layer of the collection that is in the list
abbrev pub IsTold : {X Y : Type 0} → (X → LayerName) → List ℕ → (LayerName → Y) → List X → Y → Type 0
IsTold {X} name collection f xs y = (x : X) × Has x xs × (is_of collection (name x) ≡ true) × (y ≡ f (name x))

-- The subdirectories ascend, each is one of a layer of the collection, and that of each such layer is there.
pub record SubdirectoriesAreExact (X : Type 0) : Type 0 where
  pub ascending : (name : X → LayerName) (collection : List ℕ) (xs : List X) → IsStrictlySortedBy subdirectory_cmp (subdirectories_of name collection xs)
  pub there : (name : X → LayerName) (collection : List ℕ) (xs : List X) (x : X) → Has x xs → is_of collection (name x) ≡ true → Has (subdirectory (name x)) (subdirectories_of name collection xs)
  pub only : (name : X → LayerName) (collection : List ℕ) (xs : List X) (s : List ℕ × Time) → Has s (subdirectories_of name collection xs) → IsTold name collection subdirectory xs s

-- The layers of a subdirectory are those of the list that lie in it, each as often as there, by start, end, job; those that tie stand as in the list.
pub record LayersAreExact (X : Type 0) : Type 0 where
  pub sorted : (name : X → LayerName) (collection cluster : List ℕ) (full : Time) (xs : List X) → IsSortedBy (λ x y. is_lt (layer_cmp (name x) (name y))) (layers_of name collection cluster full xs)
  pub same : (name : X → LayerName) (collection cluster : List ℕ) (full : Time) (xs : List X) → IsPermutation (filter (λ x. is_in collection cluster full (name x)) xs) (layers_of name collection cluster full xs)
  pub stable : (name : X → LayerName) (collection cluster : List ℕ) (full : Time) (xs : List X) → IsStableBy (λ x y. is_lt (layer_cmp (name x) (name y))) (filter (λ x. is_in collection cluster full (name x)) xs) (layers_of name collection cluster full xs)

-- The last full time is zero or that of a layer of the collection, and no such layer has a greater one.
pub record LastFullIsGreatest (X : Type 0) : Type 0 where
  pub reached : (name : X → LayerName) (collection : List ℕ) (xs : List X) → (last_full_of name collection xs ≡ zero_time) ⊎ IsTold name collection (λ n. n.full) xs (last_full_of name collection xs)
  pub greatest : (name : X → LayerName) (collection : List ℕ) (xs : List X) (x : X) → Has x xs → is_of collection (name x) ≡ true → time_le (name x).full (last_full_of name collection xs) ≡ true

-- What a list is mapped to has the layers that the map gives, the same subdirectories, last full time and last end, and the first layer of a subdirectory mapped.
pub record MapsCarry (X Y : Type 0) : Type 0 where
  pub layers : (f : X → Y) (name : Y → LayerName) (collection cluster : List ℕ) (full : Time) (xs : List X) → layers_of name collection cluster full (map f xs) ≡ map f (layers_of (λ x. name (f x)) collection cluster full xs)
  pub subdirectories : (f : X → Y) (name : Y → LayerName) (collection : List ℕ) (xs : List X) → subdirectories_of name collection (map f xs) ≡ subdirectories_of (λ x. name (f x)) collection xs
  pub last_full : (f : X → Y) (name : Y → LayerName) (collection : List ℕ) (xs : List X) → last_full_of name collection (map f xs) ≡ last_full_of (λ x. name (f x)) collection xs
  pub last_end : (f : X → Y) (name : Y → LayerName) (collection cluster : List ℕ) (full : Time) (xs : List X) → last_end_of name collection cluster full (map f xs) ≡ last_end_of (λ x. name (f x)) collection cluster full xs
  pub first : (f : X → Y) (name : Y → LayerName) (collection cluster : List ℕ) (full : Time) (xs : List X) → first_of name collection cluster full (map f xs) ≡ option_map f (first_of (λ x. name (f x)) collection cluster full xs)
