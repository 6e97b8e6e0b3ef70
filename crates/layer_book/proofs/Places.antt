-- Where an element goes in a list in order.
use Rattle.std.proofs.Common.{◌≡◌, ◌∙◌, Bool, true, false, cond, sym, refl, ap, List, [], ◌∷◌, ℕ, ◌+◌, suc, arith, insert, Ordering, Less, Equal, Greater}
use Rattle.std.specs.List.{slice_get, prefix_len}
use Rattle.std.specs.Ordering.{is_gt}
use Rattle.fact_model.specs.Ordered.{by_order, insert_by}
use Rattle.layer_model.specs.declared.names.LayerName.{LayerName}
use Rattle.layer_book.specs.Inserts.{is_tied, place_of}
use Rattle.layer_book.specs.Subdirectories.{first_of_ties, layer_cmp, place_cmp}

-- an element goes to its place, unless its like is there
pub insert_placed : {X : Type 0} (cmp : X → X → Ordering) (x : X) (ys : List X)
    → insert_by cmp x ys ≡ cond (is_tied cmp x (slice_get ys (place_of cmp x ys))) ys (insert ys (place_of cmp x ys) x)
unfolding insert_by
insert_placed cmp x [] = refl
insert_placed {X} cmp x (y ∷ ys) = by (1 + place_of cmp x ys) (omega arith) (cmp x y) refl (insert_placed cmp x ys)
  where
    front : (b : Bool) → y ∷ cond b ys (insert ys (place_of cmp x ys) x) ≡ cond b (y ∷ ys) (y ∷ insert ys (place_of cmp x ys) x)
    front true = refl
    front false = refl

    by : (m : ℕ) → m ≡ suc (place_of cmp x ys) → (o : Ordering) → cmp x y ≡ o → insert_by cmp x ys ≡ cond (is_tied cmp x (slice_get ys (place_of cmp x ys))) ys (insert ys (place_of cmp x ys) x)
        → by_order o (x ∷ y ∷ ys) (y ∷ ys) (y ∷ insert_by cmp x ys)
        ≡ cond (is_tied cmp x (slice_get (y ∷ ys) (cond (is_gt o) m 0))) (y ∷ ys) (insert (y ∷ ys) (cond (is_gt o) m 0) x)
    by m i Less e more = rw e refl
    by m i Equal e more = rw e refl
    by m i Greater e more = rw i (ap (λ (zs : List X). y ∷ zs) more ∙ front (is_tied cmp x (slice_get ys (place_of cmp x ys))))

module _ {X : Type 0} (cmp : X → X → Ordering) (x : X) (ys : List X) (i : ℕ) (at : i ≡ place_of cmp x ys) where
  by_place : (b : Bool) → is_tied cmp x (slice_get ys i) ≡ b → insert_by cmp x ys ≡ cond b ys (insert ys i x)
  by_place b e = insert_placed cmp x ys ∙ (ap (λ (n : ℕ). cond (is_tied cmp x (slice_get ys n)) ys (insert ys n x)) (sym at) ∙ ap (λ (t : Bool). cond t ys (insert ys i x)) e)

  pub tied_there : is_tied cmp x (slice_get ys i) ≡ true → insert_by cmp x ys ≡ ys
  tied_there e = by_place true e

  pub untied_placed : is_tied cmp x (slice_get ys i) ≡ false → insert_by cmp x ys ≡ insert ys i x
  untied_placed e = by_place false e

-- a layer goes in front of those that don't come before it
pub layer_placed : {X : Type 0} (name : X → LayerName) (x : X) (ys : List X)
    → insert_by (place_cmp name) x ys ≡ insert ys (prefix_len (λ y. is_gt (layer_cmp (name x) (name y))) ys) x
unfolding insert_by
layer_placed name x [] = refl
layer_placed {X} name x (y ∷ ys) = by (1 + prefix_len p ys) (omega arith) (layer_cmp (name x) (name y)) (layer_placed name x ys)
  where
    p : X → Bool
    p z = is_gt (layer_cmp (name x) (name z))

    by : (m : ℕ) → m ≡ suc (prefix_len p ys) → (o : Ordering) → insert_by (place_cmp name) x ys ≡ insert ys (prefix_len p ys) x
        → by_order (first_of_ties o) (x ∷ y ∷ ys) (y ∷ ys) (y ∷ insert_by (place_cmp name) x ys) ≡ insert (y ∷ ys) (cond (is_gt o) m 0) x
    by m i Less more = refl
    by m i Equal more = refl
    by m i Greater more = rw i (ap (λ (zs : List X). y ∷ zs) more)

pub layer_at : {X : Type 0} (name : X → LayerName) (x : X) (ys : List X) (i : ℕ) → i ≡ prefix_len (λ y. is_gt (layer_cmp (name x) (name y))) ys → insert_by (place_cmp name) x ys ≡ insert ys i x
layer_at name x ys i e = layer_placed name x ys ∙ ap (λ (n : ℕ). insert ys n x) (sym e)
