-- Insertion into a list in order: what the calls that make such a list do one after the other.
use Rattle.std.specs.Prelude.{ℕ, Bool, false, List, [], ◌∷◌, map, filter, Option, Some, None}
use Rattle.std.specs.List.{prefix_len}
use Rattle.std.specs.declared.cmp.Ordering.{Ordering}
use Rattle.std.specs.Ordering.{is_eq, is_gt}
use Rattle.mvcc_keys.specs.Times.{Time}
use Rattle.fact_model.specs.Ordered.{insert_by}
use Rattle.layer_manifest.specs.declared.manifest.Manifest.{Manifest}
use Rattle.layer_model.specs.declared.names.LayerName.{LayerName}
use Rattle.layer_book.specs.Books.{name_in}
use Rattle.layer_book.specs.Subdirectories.{is_in, is_of, place_cmp, subdirectory, subdirectory_cmp}

-- each x put at its place, the last one first
unfoldable pub insert_each : {X : Type 0} → (X → X → Ordering) → List X → List X → List X
insert_each cmp [] ys = ys
insert_each cmp (x ∷ xs) ys = insert_by cmp x (insert_each cmp xs ys)

-- subdirectories in order, with those of the collection's layers added
unfoldable pub with_subdirectories : List ℕ → List (LayerName × Manifest) → List (List ℕ × Time) → List (List ℕ × Time)
with_subdirectories collection xs list = insert_each subdirectory_cmp (map (λ p. subdirectory p.0) (filter (λ p. is_of collection p.0) xs)) list

-- layers in order, with those of a list added that lie in a subdirectory
unfoldable pub with_layers : List ℕ → List ℕ → Time → List (LayerName × Manifest) → List (LayerName × Manifest) → List (LayerName × Manifest)
with_layers collection cluster full xs list = insert_each (place_cmp name_in) (filter (λ p. is_in collection cluster full p.0) xs) list

-- how many elements in front come before x
abbrev pub place_of : {X : Type 0} → (X → X → Ordering) → X → List X → ℕ
place_of cmp x ys = prefix_len (λ y. is_gt (cmp x y)) ys

-- there is an element, and it ties with x
abbrev pub is_tied : {X : Type 0} → (X → X → Ordering) → X → Option X → Bool
is_tied cmp x None = false
is_tied cmp x (Some y) = is_eq (cmp x y)
