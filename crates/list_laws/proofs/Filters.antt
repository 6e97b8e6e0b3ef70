-- What a filter leaves.
use Rattle.std.proofs.Common.{◌≡◌, ◌≤◌, Bool, true, false, cond, List, [], ◌∷◌, length, map, filter, refl, ap, ap₂, ◌∙◌, arith, inl, inr}
use Rattle.std.proofs.lemmas.Bool.{cases_Bool}
use Rattle.std.specs.List.{list_any}
use Rattle.list_laws.specs.Members.{Has}
use Rattle.list_laws.proofs.Bools.{or-neither}

pub filter-same : {X : Type 0} (p q : X → Bool) (xs : List X) → ((x : X) → Has x xs → p x ≡ q x) → filter p xs ≡ filter q xs
filter-same p q [] e = refl
filter-same p q (x ∷ xs) e = ap₂ (λ (b : Bool) ys. cond b (x ∷ ys) ys) (e x (inl refl)) (filter-same p q xs (λ y h. e y (inr h)))

pub filter-all : {X : Type 0} (p : X → Bool) (xs : List X) → ((x : X) → Has x xs → p x ≡ true) → filter p xs ≡ xs
filter-all p [] e = refl
filter-all p (x ∷ xs) e = rw (e x (inl refl)) (ap (λ ys. x ∷ ys) (filter-all p xs (λ y h. e y (inr h))))

pub filter-none : {X : Type 0} (p : X → Bool) (xs : List X) → ((x : X) → Has x xs → p x ≡ false) → filter p xs ≡ []
filter-none p [] e = refl
filter-none p (x ∷ xs) e = rw (e x (inl refl)) (filter-none p xs (λ y h. e y (inr h)))

pub filter-filter : {X : Type 0} (p q : X → Bool) (xs : List X) → filter p (filter q xs) ≡ filter q (filter p xs)
filter-filter p q [] = refl
filter-filter p q (x ∷ xs) = by (p x) refl (q x) refl (filter-filter p q xs)
  where
    by : (a : Bool) → p x ≡ a → (b : Bool) → q x ≡ b → filter p (filter q xs) ≡ filter q (filter p xs) → filter p (cond b (x ∷ filter q xs) (filter q xs)) ≡ filter q (cond a (x ∷ filter p xs) (filter p xs))
    by true e true f h = rw (e, f) (ap (λ ys. x ∷ ys) h)
    by true e false f h = rw (f) h
    by false e true f h = rw (e) h
    by false e false f h = h

pub filter-map : {X Y : Type 0} (p : Y → Bool) (f : X → Y) (xs : List X) → filter p (map f xs) ≡ map f (filter (λ x. p (f x)) xs)
filter-map p f [] = refl
filter-map p f (x ∷ xs) = by (p (f x)) (filter-map p f xs)
  where
    by : (b : Bool) → filter p (map f xs) ≡ map f (filter (λ y. p (f y)) xs) → cond b (f x ∷ filter p (map f xs)) (filter p (map f xs)) ≡ map f (cond b (x ∷ filter (λ y. p (f y)) xs) (filter (λ y. p (f y)) xs))
    by true h = ap (λ ys. f x ∷ ys) h
    by false h = h

pub filter-fewer : {X : Type 0} (p : X → Bool) (xs : List X) → length (filter p xs) ≤ length xs
filter-fewer p [] = omega arith
filter-fewer p (x ∷ xs) = let rest = filter-fewer p xs in elim (cases_Bool (p x)) [ inl t ↦ rw t (omega arith) | inr n ↦ rw n (omega arith) ]

-- ---- tests that something passes

pub any-none : {X : Type 0} (p : X → Bool) (xs : List X) (x : X) → list_any p xs ≡ false → Has x xs → p x ≡ false
any-none p [] x e h = absurd h
any-none p (y ∷ ys) x e (inl i) = ap p i ∙ (or-neither (p y) (list_any p ys) e).0
any-none p (y ∷ ys) x e (inr i) = any-none p ys x (or-neither (p y) (list_any p ys) e).1 i

pub none-any : {X : Type 0} (p : X → Bool) (xs : List X) → ((x : X) → Has x xs → p x ≡ false) → list_any p xs ≡ false
none-any p [] all = refl
none-any p (y ∷ ys) all = rw (all y (inl refl)) (none-any p ys (λ x i. all x (inr i)))
