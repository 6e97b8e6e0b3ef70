-- Lists with one element more, or with another one at a place.
use Rattle.std.proofs.Common.{◌≡◌, ◌≢◌, ◌⊎◌, inl, inr, ℕ, zero, suc, Bool, refl, sym, ap, ◌∙◌, List, [], ◌∷◌, ◌++◌, map, filter_map, length, Option, Some, None, slice_get, slice_set}
use Rattle.std.proofs.lemmas.Bool.{cases_Bool}
use Rattle.std.specs.List.{cons_option, find}
use Rattle.list_laws.specs.Members.{Has}

pub got-set : {X : Type 0} (xs : List X) (i : ℕ) (x y : X) → slice_get xs i ≡ Some x → slice_get (slice_set xs i y) i ≡ Some y
got-set [] i x y e = cc e
got-set (z ∷ zs) zero x y e = refl
got-set (z ∷ zs) (suc i) x y e = got-set zs i x y e

pub got-set_other : {X : Type 0} (xs : List X) (i j : ℕ) (y : X) → j ≢ i → slice_get (slice_set xs i y) j ≡ slice_get xs j
got-set_other [] i j y other = refl
got-set_other (z ∷ zs) zero zero y other = absurd (other refl)
got-set_other (z ∷ zs) zero (suc j) y other = refl
got-set_other (z ∷ zs) (suc i) zero y other = refl
got-set_other (z ∷ zs) (suc i) (suc j) y other = got-set_other zs i j y (λ e. other (ap suc e))

pub map-set : {X Y : Type 0} (f : X → Y) (xs : List X) (i : ℕ) (y : X) → map f (slice_set xs i y) ≡ slice_set (map f xs) i (f y)
map-set f [] i y = refl
map-set f (z ∷ zs) zero y = refl
map-set f (z ∷ zs) (suc i) y = ap (λ ws. f z ∷ ws) (map-set f zs i y)

pub set-same : {X : Type 0} (xs : List X) (i : ℕ) (x : X) → slice_get xs i ≡ Some x → slice_set xs i x ≡ xs
set-same [] i x e = cc e
set-same (z ∷ zs) zero x e = let same : z ≡ x = cc e in ap (λ w. w ∷ zs) (sym same)
set-same (z ∷ zs) (suc i) x e = ap (λ ws. z ∷ ws) (set-same zs i x e)

pub got-push : {X : Type 0} (xs : List X) (y : X) (j : ℕ) (x : X) → slice_get (xs ++ y ∷ []) j ≡ Some x → (slice_get xs j ≡ Some x) ⊎ (j ≡ length xs) × (y ≡ x)
got-push [] y zero x e = inr (refl, cc e)
got-push [] y (suc j) x e = cc e
got-push (z ∷ zs) y zero x e = inl e
got-push (z ∷ zs) y (suc j) x e = elim (got-push zs y j x e) [ inl there ↦ inl there | inr last ↦ inr (ap suc last.0, last.1) ]

pub got-front : {X : Type 0} (xs : List X) (y : X) (j : ℕ) (x : X) → slice_get xs j ≡ Some x → slice_get (xs ++ y ∷ []) j ≡ Some x
got-front [] y j x e = cc e
got-front (z ∷ zs) y zero x e = e
got-front (z ∷ zs) y (suc j) x e = got-front zs y j x e

pub got-has : {X : Type 0} (xs : List X) (j : ℕ) (x : X) → slice_get xs j ≡ Some x → Has x xs
got-has [] j x e = cc e
got-has (z ∷ zs) zero x e = let same : z ≡ x = cc e in inl (sym same)
got-has (z ∷ zs) (suc j) x e = inr (got-has zs j x e)

pub find-has : {X : Type 0} (p : X → Bool) (xs : List X) (x : X) → find p xs ≡ Some x → Has x xs
find-has p [] x e = cc e
find-has p (z ∷ zs) x e = elim (cases_Bool (p z)) [
  | inl t ↦ (let l : Some z ≡ Some x = rw t at e in let same : z ≡ x = cc l in inl (sym same))
  | inr f ↦ (let l : find p zs ≡ Some x = rw f at e in inr (find-has p zs x l))
]

pub got-left : {X : Type 0} (xs ys : List X) (j : ℕ) (x : X) → slice_get xs j ≡ Some x → slice_get (xs ++ ys) j ≡ Some x
got-left [] ys j x e = cc e
got-left (z ∷ zs) ys zero x e = e
got-left (z ∷ zs) ys (suc j) x e = got-left zs ys j x e

pub got-either : {X : Type 0} (xs ys : List X) (j : ℕ) (x : X) → slice_get (xs ++ ys) j ≡ Some x → (slice_get xs j ≡ Some x) ⊎ Has x ys
got-either [] ys j x e = inr (got-has ys j x e)
got-either (z ∷ zs) ys zero x e = inl e
got-either (z ∷ zs) ys (suc j) x e = got-either zs ys j x e

pub filter_map-has : {X Y : Type 0} (f : X → Option Y) (y : Y) (xs : List X) → Has y (filter_map f xs) → (x : X) × Has x xs × (f x ≡ Some y)
filter_map-has f y [] has = absurd has
filter_map-has {X} {Y} f y (x ∷ xs) has = by (f x) refl has (filter_map-has f y xs)
  where
    by : (o : Option Y) → f x ≡ o → Has y (cons_option o (filter_map f xs)) → (Has y (filter_map f xs) → (z : X) × Has z xs × (f z ≡ Some y)) → (z : X) × Has z (x ∷ xs) × (f z ≡ Some y)
    by None e h more = let w = more h in (w.0, inr w.1, w.2)
    by (Some z) e (inl same) more = (x, inl refl, e ∙ ap (λ w. Some w) (sym same))
    by (Some z) e (inr h) more = let w = more h in (w.0, inr w.1, w.2)
