-- Lists of elements that tell the names of layers: mapped, and what is in them.
use Rattle.std.proofs.Common.{◌≡◌, ◌∙◌, ℕ, Bool, true, false, cond, refl, ap, List, [], ◌∷◌, Some, option_map, map, filter}
use Rattle.std.proofs.lemmas.Simd.{map-map}
use Rattle.mvcc_keys.specs.Times.{Time}
use Rattle.list_laws.specs.Members.{Has}
use Rattle.fact_model.specs.Ordered.{ordered}
use Rattle.list_laws.proofs.Members as members
use Rattle.fact_model.proofs.Orders as orders
use Rattle.layer_model.specs.declared.names.LayerName.{LayerName}
use Rattle.layer_book.specs.Laws.{IsTold}
use Rattle.layer_book.specs.Subdirectories.{first_of, greatest, is_in, is_of, last_end_of, last_full_of, layers_of, place_cmp, subdirectories_of, subdirectory, subdirectory_cmp}
use Rattle.list_laws.proofs.Filters.{filter-map}

module _ {X Y : Type 0} (f : X → Y) (name : Y → LayerName) (collection : List ℕ) where
  mapped : {Z : Type 0} (g : Y → Z) (p : Y → Bool) (xs : List X) → map g (filter p (map f xs)) ≡ map (λ x. g (f x)) (filter (λ x. p (f x)) xs)
  mapped g p xs = ap (map g) (filter-map p f xs) ∙ map-map g f (filter (λ x. p (f x)) xs)

  pub layers_map : (cluster : List ℕ) (full : Time) (xs : List X) → layers_of name collection cluster full (map f xs) ≡ map f (layers_of (λ x. name (f x)) collection cluster full xs)
  unfolding layers_of
  layers_map cluster full xs =
      ap (ordered (place_cmp name)) (filter-map (λ y. is_in collection cluster full (name y)) f xs)
      ∙ orders.ordered-map (place_cmp (λ x. name (f x))) (place_cmp name) f (λ x. Unit {0}) (λ a b p q. refl) (filter (λ x. is_in collection cluster full (name (f x))) xs) (λ x h. tt)

  pub subdirectories_map : (xs : List X) → subdirectories_of name collection (map f xs) ≡ subdirectories_of (λ x. name (f x)) collection xs
  unfolding subdirectories_of
  subdirectories_map xs = ap (ordered subdirectory_cmp) (mapped (λ y. subdirectory (name y)) (λ y. is_of collection (name y)) xs)

  pub last_full_map : (xs : List X) → last_full_of name collection (map f xs) ≡ last_full_of (λ x. name (f x)) collection xs
  unfolding last_full_of
  last_full_map xs = ap greatest (mapped (λ y. (name y).full) (λ y. is_of collection (name y)) xs)

  pub last_end_map : (cluster : List ℕ) (full : Time) (xs : List X) → last_end_of name collection cluster full (map f xs) ≡ last_end_of (λ x. name (f x)) collection cluster full xs
  unfolding last_end_of
  last_end_map cluster full xs = ap greatest (mapped (λ y. (name y).end) (λ y. is_in collection cluster full (name y)) xs)

  pub first_map : (cluster : List ℕ) (full : Time) (xs : List X) → first_of name collection cluster full (map f xs) ≡ option_map f (first_of (λ x. name (f x)) collection cluster full xs)
  first_map cluster full [] = refl
  first_map cluster full (x ∷ xs) = by (is_in collection cluster full (name (f x))) (first_map cluster full xs)
    where
      by : (b : Bool) → first_of name collection cluster full (map f xs) ≡ option_map f (first_of (λ y. name (f y)) collection cluster full xs)
          → cond b (Some (f x)) (first_of name collection cluster full (map f xs)) ≡ option_map f (cond b (Some x) (first_of (λ y. name (f y)) collection cluster full xs))
      by true more = refl
      by false more = more

module _ {X Y : Type 0} (name : X → LayerName) (collection : List ℕ) (f : LayerName → Y) (xs : List X) where
  pub told_there : (x : X) → Has x xs → is_of collection (name x) ≡ true → Has (f (name x)) (map (λ x. f (name x)) (filter (λ x. is_of collection (name x)) xs))
  told_there x h e = members.has-map (λ x. f (name x)) x (filter (λ x. is_of collection (name x)) xs) (members.has-filter (λ x. is_of collection (name x)) x xs h e)

  pub told_only : (y : Y) → Has y (map (λ x. f (name x)) (filter (λ x. is_of collection (name x)) xs)) → IsTold name collection f xs y
  told_only y h = let m = members.map-has (λ x. f (name x)) y (filter (λ x. is_of collection (name x)) xs) h in (m.0, members.filter-has (λ x. is_of collection (name x)) m.0 xs m.1, members.filter-passes (λ x. is_of collection (name x)) m.0 xs m.1, m.2)
