-- What is in a list, and what holds of each element.
use Rattle.std.proofs.Common.{ℕ, take, drop, reverse, ◌≡◌, Bool, true, false, cond, sym, refl, ap, ◌∙◌, subst, List, [], ◌∷◌, ◌++◌, ◌⊎◌, inl, inr, filter, map, Contains, IsPermutation, suc, zero, ◌<◌, arith}
use Rattle.std.specs.List.{AllByRecursion}
use Rattle.std.proofs.lemmas.List.Sorted.{Contains-permutation}
use Rattle.std.proofs.lemmas.List.{reverse-append}
use Rattle.list_laws.specs.Members.{Has, AllIn}

module _ {X : Type 0} where
  pub has-append_left : (x : X) (xs ys : List X) → Has x xs → Has x (xs ++ ys)
  has-append_left x [] ys h = absurd h
  has-append_left x (z ∷ xs) ys (inl e) = inl e
  has-append_left x (z ∷ xs) ys (inr i) = inr (has-append_left x xs ys i)

  pub has-append_right : (x : X) (xs ys : List X) → Has x ys → Has x (xs ++ ys)
  has-append_right x [] ys h = h
  has-append_right x (z ∷ xs) ys h = inr (has-append_right x xs ys h)

  pub has-append_cases : (x : X) (xs ys : List X) → Has x (xs ++ ys) → Has x xs ⊎ Has x ys
  has-append_cases x [] ys h = inr h
  has-append_cases x (z ∷ xs) ys (inl e) = inl (inl e)
  has-append_cases x (z ∷ xs) ys (inr i) = elim (has-append_cases x xs ys i) [ inl a ↦ inl (inr a) | inr b ↦ inr b ]

  pub has-filter : (p : X → Bool) (x : X) (xs : List X) → Has x xs → p x ≡ true → Has x (filter p xs)
  has-filter p x [] h e = absurd h
  has-filter p x (z ∷ xs) (inl i) e = subst (λ (b : Bool). Has x (cond b (z ∷ filter p xs) (filter p xs))) (sym (sym (ap p i) ∙ e)) (inl i)
  has-filter p x (z ∷ xs) (inr i) e = go (p z) (has-filter p x xs i e)
    where
      go : (b : Bool) → Has x (filter p xs) → Has x (cond b (z ∷ filter p xs) (filter p xs))
      go true j = inr j
      go false j = j

  pub filter-has : (p : X → Bool) (x : X) (xs : List X) → Has x (filter p xs) → Has x xs
  filter-has p x [] h = h
  filter-has p x (z ∷ xs) h = go (filter-has p x xs) (p z) h
    where
      go : (Has x (filter p xs) → Has x xs) → (b : Bool) → Has x (cond b (z ∷ filter p xs) (filter p xs)) → (x ≡ z) ⊎ Has x xs
      go more true (inl e) = inl e
      go more true (inr i) = inr (more i)
      go more false i = inr (more i)

  pub filter-passes : (p : X → Bool) (x : X) (xs : List X) → Has x (filter p xs) → p x ≡ true
  filter-passes p x [] h = absurd h
  filter-passes p x (z ∷ xs) h = go (filter-passes p x xs) (p z) refl h
    where
      go : (Has x (filter p xs) → p x ≡ true) → (b : Bool) → p z ≡ b → Has x (cond b (z ∷ filter p xs) (filter p xs)) → p x ≡ true
      go more true e (inl i) = ap p i ∙ e
      go more true e (inr i) = more i
      go more false e i = more i

  pub has-AllByRecursion : (P : X → Type 0) (x : X) (xs : List X) → AllByRecursion P xs → Has x xs → P x
  has-AllByRecursion P x [] a h = absurd h
  has-AllByRecursion P x (z ∷ xs) a (inl e) = subst P (sym e) a.0
  has-AllByRecursion P x (z ∷ xs) a (inr i) = has-AllByRecursion P x xs a.1 i

  pub AllByRecursion-has : (P : X → Type 0) (xs : List X) → ((x : X) → Has x xs → P x) → AllByRecursion P xs
  AllByRecursion-has P [] h = tt
  AllByRecursion-has P (z ∷ xs) h = (h z (inl refl), AllByRecursion-has P xs (λ x i. h x (inr i)))

  pub has-Contains : (x : X) (xs : List X) → Has x xs → Contains xs x
  has-Contains x [] h = absurd h
  has-Contains x (z ∷ xs) (inl e) = (0, grind arith, sym e)
  has-Contains x (z ∷ xs) (inr i) = let c = has-Contains x xs i in (suc c.0, grind arith, c.2)

  pub Contains-has : (x : X) (xs : List X) → Contains xs x → Has x xs
  Contains-has x [] c = absurd (let l : c.0 < 0 = c.1 in omega arith)
  Contains-has x (z ∷ xs) (zero, l, e) = inl (sym e)
  Contains-has x (z ∷ xs) (suc n, l, e) = inr (Contains-has x xs (n, omega arith, e))

  pub permuted-in : (xs ys : List X) → IsPermutation xs ys → AllIn xs ys
  permuted-in xs ys p = λ x h. Contains-has x ys (Contains-permutation xs ys x p (has-Contains x xs h))

module _ {X Y : Type 0} (f : X → Y) where
  pub has-map : (x : X) (xs : List X) → Has x xs → Has (f x) (map f xs)
  has-map x [] h = h
  has-map x (z ∷ xs) (inl e) = inl (ap f e)
  has-map x (z ∷ xs) (inr i) = inr (has-map x xs i)

  pub map-has : (y : Y) (xs : List X) → Has y (map f xs) → (x : X) × Has x xs × (y ≡ f x)
  map-has y [] h = absurd h
  map-has y (z ∷ xs) (inl e) = (z, inl refl, e)
  map-has y (z ∷ xs) (inr i) = let r = map-has y xs i in (r.0, inr r.1, r.2)

pub reverse-has : {X : Type 0} (xs : List X) (x : X) → Has x (reverse xs) → Has x xs
reverse-has [] x h = h
reverse-has (y ∷ ys) x h = elim (has-append_cases x (reverse ys) (y ∷ []) (subst (λ (zs : List _). Has x zs) (reverse-append (y ∷ []) ys) h)) [
  | inl front ↦ inr (reverse-has ys x front)
  | inr last ↦ first last
]
  where
    first : Has x (y ∷ []) → Has x (y ∷ ys)
    first (inl e) = inl e
    first (inr none) = absurd none

-- ---- what holds of each element

pub all-append : {X : Type 0} (P : X → Type 0) (xs ys : List X) → AllByRecursion P xs → AllByRecursion P ys → AllByRecursion P (xs ++ ys)
all-append P [] ys a b = b
all-append P (x ∷ xs) ys a b = (a.0, all-append P xs ys a.1 b)

pub all-front : {X : Type 0} (P : X → Type 0) (xs ys : List X) → AllByRecursion P (xs ++ ys) → AllByRecursion P xs
all-front P [] ys a = tt
all-front P (x ∷ xs) ys a = (a.0, all-front P xs ys a.1)

pub all-back : {X : Type 0} (P : X → Type 0) (xs ys : List X) → AllByRecursion P (xs ++ ys) → AllByRecursion P ys
all-back P [] ys a = a
all-back P (x ∷ xs) ys a = all-back P xs ys a.1

pub all-take : {X : Type 0} (P : X → Type 0) (n : ℕ) (xs : List X) → AllByRecursion P xs → AllByRecursion P (take n xs)
all-take P zero xs a = tt
all-take P (suc n) [] a = tt
all-take P (suc n) (x ∷ xs) a = (a.0, all-take P n xs a.1)

pub all-drop : {X : Type 0} (P : X → Type 0) (n : ℕ) (xs : List X) → AllByRecursion P xs → AllByRecursion P (drop n xs)
all-drop P zero xs a = a
all-drop P (suc n) [] a = tt
all-drop P (suc n) (x ∷ xs) a = all-drop P n xs a.1

pub all-weaker : {X : Type 0} (P Q : X → Type 0) → ((x : X) → P x → Q x) → (xs : List X) → AllByRecursion P xs → AllByRecursion Q xs
all-weaker P Q f [] a = tt
all-weaker P Q f (x ∷ xs) a = (f x a.0, all-weaker P Q f xs a.1)

pub all-filter : {X : Type 0} (P : X → Type 0) (p : X → Bool) (xs : List X) → AllByRecursion P xs → AllByRecursion P (filter p xs)
all-filter P p xs a = AllByRecursion-has P (filter p xs) (λ x h. has-AllByRecursion P x xs a (filter-has p x xs h))
