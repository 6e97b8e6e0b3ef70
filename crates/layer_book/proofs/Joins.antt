-- Lists that are put in order one element after the other, from the last on.
use Rattle.std.proofs.Common.{◌≡◌, ◌∙◌, ℕ, ◌+◌, ◌<◌, ◌≤◌, Bool, true, false, cond, sym, refl, ap, List, [], ◌∷◌, ◌++◌, length, get_or, drop, map, filter, Ordering}
use Rattle.std.proofs.lemmas.List.{drop_more, drop_all, map-append}
use Rattle.std.proofs.lemmas.List.Elements.{filter-append}
use Rattle.mvcc_keys.specs.Times.{Time}
use Rattle.fact_model.specs.Ordered.{insert_by, ordered}
use Rattle.layer_manifest.specs.declared.manifest.Manifest.{Manifest}
use Rattle.layer_model.specs.declared.names.LayerName.{LayerName}
use Rattle.layer_book.specs.Books.{name_in}
use Rattle.layer_book.specs.Inserts.{insert_each, with_layers, with_subdirectories}
use Rattle.layer_book.specs.Subdirectories.{is_in, is_of, layers_of, place_cmp, subdirectories_of, subdirectory, subdirectory_cmp}

abbrev Entry : Type 0
Entry = LayerName × Manifest

-- ---- one element more, if it passes

pub subdirectories_more : (collection : List ℕ) (xs : List Entry) (list : List (List ℕ × Time)) (i j : ℕ) (d : Entry) → j ≡ i + 1 → i < length xs
    → with_subdirectories collection (drop i xs) list
    ≡ cond (is_of collection (get_or xs i d).0) (insert_by subdirectory_cmp (subdirectory (get_or xs i d).0) (with_subdirectories collection (drop j xs) list)) (with_subdirectories collection (drop j xs) list)
unfolding with_subdirectories insert_each
subdirectories_more collection xs list i j d e inside = rw (e, drop_more xs i d inside) (by (is_of collection x.0))
  where
    x : Entry
    x = get_or xs i d

    rest : List Entry
    rest = filter (λ p. is_of collection p.0) (drop (i + 1) xs)

    f : Entry → List ℕ × Time
    f p = subdirectory p.0

    by : (b : Bool) → insert_each subdirectory_cmp (map f (cond b (x ∷ rest) rest)) list ≡ cond b (insert_by subdirectory_cmp (f x) (insert_each subdirectory_cmp (map f rest) list)) (insert_each subdirectory_cmp (map f rest) list)
    by true = refl
    by false = refl

pub subdirectories_none : (collection : List ℕ) (xs : List Entry) (list : List (List ℕ × Time)) (i : ℕ) → length xs ≤ i → with_subdirectories collection (drop i xs) list ≡ list
unfolding with_subdirectories insert_each
subdirectories_none collection xs list i past = rw (drop_all i xs past)

pub layers_more : (collection cluster : List ℕ) (full : Time) (xs list : List Entry) (i j : ℕ) (d : Entry) → j ≡ i + 1 → i < length xs
    → with_layers collection cluster full (drop i xs) list
    ≡ cond (is_in collection cluster full (get_or xs i d).0) (insert_by (place_cmp name_in) (get_or xs i d) (with_layers collection cluster full (drop j xs) list)) (with_layers collection cluster full (drop j xs) list)
unfolding with_layers insert_each
layers_more collection cluster full xs list i j d e inside = rw (e, drop_more xs i d inside) (by (is_in collection cluster full x.0))
  where
    x : Entry
    x = get_or xs i d

    rest : List Entry
    rest = filter (λ p. is_in collection cluster full p.0) (drop (i + 1) xs)

    by : (b : Bool) → insert_each (place_cmp name_in) (cond b (x ∷ rest) rest) list ≡ cond b (insert_by (place_cmp name_in) x (insert_each (place_cmp name_in) rest list)) (insert_each (place_cmp name_in) rest list)
    by true = refl
    by false = refl

pub layers_none : (collection cluster : List ℕ) (full : Time) (xs list : List Entry) (i : ℕ) → length xs ≤ i → with_layers collection cluster full (drop i xs) list ≡ list
unfolding with_layers insert_each
layers_none collection cluster full xs list i past = rw (drop_all i xs past)

-- ---- two lists of layers

module _ {X : Type 0} (cmp : X → X → Ordering) where
  each-nothing : (xs : List X) → insert_each cmp xs [] ≡ ordered cmp xs
  unfolding insert_each ordered
  each-nothing [] = refl
  each-nothing (x ∷ xs) = ap (insert_by cmp x) (each-nothing xs)

  each-append : (xs ys zs : List X) → insert_each cmp (xs ++ ys) zs ≡ insert_each cmp xs (insert_each cmp ys zs)
  unfolding insert_each
  each-append [] ys zs = refl
  each-append (x ∷ xs) ys zs = ap (insert_by cmp x) (each-append xs ys zs)

  each-joined : (xs ys : List X) → insert_each cmp xs (insert_each cmp ys []) ≡ ordered cmp (xs ++ ys)
  each-joined xs ys = sym (each-append xs ys []) ∙ each-nothing (xs ++ ys)

pub subdirectories_joined : (collection : List ℕ) (xs ys : List Entry) → with_subdirectories collection xs (with_subdirectories collection ys []) ≡ subdirectories_of name_in collection (xs ++ ys)
unfolding with_subdirectories subdirectories_of
subdirectories_joined collection xs ys =
    each-joined subdirectory_cmp (map f (filter p xs)) (map f (filter p ys))
    ∙ ap (ordered subdirectory_cmp) (sym (map-append f (filter p xs) (filter p ys)) ∙ ap (map f) (sym (filter-append p xs ys)))
  where
    f : Entry → List ℕ × Time
    f e = subdirectory e.0

    p : Entry → Bool
    p e = is_of collection e.0

pub layers_joined : (collection cluster : List ℕ) (full : Time) (xs ys : List Entry) → with_layers collection cluster full xs (with_layers collection cluster full ys []) ≡ layers_of name_in collection cluster full (xs ++ ys)
unfolding with_layers layers_of
layers_joined collection cluster full xs ys = each-joined (place_cmp name_in) (filter p xs) (filter p ys) ∙ ap (ordered (place_cmp name_in)) (sym (filter-append p xs ys))
  where
    p : Entry → Bool
    p e = is_in collection cluster full e.0
