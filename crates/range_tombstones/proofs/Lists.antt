-- Lists that ascend, filters, and last elements.
use Rattle.std.proofs.Common.{◌≡◌, ℕ, ◌<◌, ◌≤◌, ◌+◌, zero, suc, ◌-◌, Bool, true, false, not, cond, List, [], ◌∷◌, ◌++◌, length, get_or, set, take, drop, Some, map, filter, refl, sym, ap, ◌∙◌, subst, arith, inl, inr}
use Rattle.std.specs.List.{AllByRecursion, slice_get}
use Rattle.std.proofs.lemmas.Grind.{common_steps}
use Rattle.std.proofs.lemmas.List.Edits.{map_over_more}
use Rattle.range_tombstones.specs.Dates.{Ascends, last_after, last_of}
use Rattle.list_laws.proofs.Members.{filter-has, AllByRecursion-has}
use Rattle.list_laws.specs.Members.{Has}

pub all-has : {X : Type 0} (P : X → Type 0) (xs : List X) → AllByRecursion P xs → (x : X) → Has x xs → P x
all-has P [] a x h = absurd h
all-has P (y ∷ ys) a x (inl e) = subst P (sym e) a.0
all-has P (y ∷ ys) a x (inr h) = all-has P ys a.1 x h

-- ---- filters

-- where a test passes up to a place and at none after it
pub front : {X : Type 0} (p : X → Bool) (xs : List X) (i : ℕ) → i ≤ length xs → ((k : ℕ) (d : X) → k < i → p (get_or xs k d) ≡ true) → ((k : ℕ) (d : X) → i ≤ k → k < length xs → p (get_or xs k d) ≡ false) → take i xs ≡ filter p xs
front p [] zero l a b = refl
front p [] (suc i) l a b = refl
front p (x ∷ xs) zero l a b = rw (b 0 x (omega arith) (omega arith)) (front p xs zero (omega arith) (λ k d h. absurd (omega arith)) (λ k d h g. b (suc k) d (omega arith) (omega arith)))
front p (x ∷ xs) (suc i) l a b = rw (a 0 x (omega arith)) (ap (λ ys. x ∷ ys) (front p xs i (omega arith) (λ k d h. a (suc k) d (omega arith)) (λ k d h g. b (suc k) d (omega arith) (omega arith))))

pub back : {X : Type 0} (p : X → Bool) (xs : List X) (i : ℕ) → i ≤ length xs → ((k : ℕ) (d : X) → k < i → p (get_or xs k d) ≡ true) → ((k : ℕ) (d : X) → i ≤ k → k < length xs → p (get_or xs k d) ≡ false) → drop i xs ≡ filter (λ x. not (p x)) xs
back p [] zero l a b = refl
back p [] (suc i) l a b = refl
back p (x ∷ xs) zero l a b = rw (b 0 x (omega arith) (omega arith)) (ap (λ ys. x ∷ ys) (back p xs zero (omega arith) (λ k d h. absurd (omega arith)) (λ k d h g. b (suc k) d (omega arith) (omega arith))))
back p (x ∷ xs) (suc i) l a b = rw (a 0 x (omega arith)) (back p xs i (omega arith) (λ k d h. a (suc k) d (omega arith)) (λ k d h g. b (suc k) d (omega arith) (omega arith)))

-- ---- last elements

pub last-get : {X : Type 0} (xs : List X) → slice_get xs (length xs - 1) ≡ last_of xs
last-get [] = refl
last-get {X = X} (x ∷ xs) = ap (λ n. slice_get (x ∷ xs) n) past ∙ at x xs
  where
    past : suc (length xs) - 1 ≡ length xs
    past = omega arith

    at : (x : X) (xs : List X) → slice_get (x ∷ xs) (length xs) ≡ Some (last_after x xs)
    at x [] = refl
    at x (y ∷ ys) = at y ys

pub last-has : {X : Type 0} (x : X) (xs : List X) → Has (last_after x xs) (x ∷ xs)
last-has x [] = inl refl
last-has x (y ∷ ys) = inr (last-has y ys)

-- ---- ascending lists

module _ {X : Type 0} (lt : X → X → Bool) where
  pub ascends-filter : (p : X → Bool) (xs : List X) → Ascends lt xs → Ascends lt (filter p xs)
  ascends-filter p [] a = tt
  ascends-filter p (x ∷ xs) a = by (p x) (ascends-filter p xs a.1)
    where
      by : (b : Bool) → Ascends lt (filter p xs) → Ascends lt (cond b (x ∷ filter p xs) (filter p xs))
      by true h = (AllByRecursion-has (λ y. lt x y ≡ true) (filter p xs) (λ y i. all-has (λ z. lt x z ≡ true) xs a.0 y (filter-has p y xs i)), h)
      by false h = h

  pub ascends-put : ((x y z : X) → lt x y ≡ true → lt y z ≡ true → lt x z ≡ true) → (x : X) (xs ys : List X) → Ascends lt xs → Ascends lt ys → ((y : X) → Has y xs → lt y x ≡ true) → ((y : X) → Has y ys → lt x y ≡ true) → Ascends lt (xs ++ x ∷ ys)
  ascends-put trans x [] ys a b f g = (AllByRecursion-has (λ y. lt x y ≡ true) ys g, b)
  ascends-put trans x (y ∷ xs) ys a b f g = (AllByRecursion-has (λ z. lt y z ≡ true) (xs ++ x ∷ ys) (λ z h. below z xs h a.0), ascends-put trans x xs ys a.1 b (λ z h. f z (inr h)) g)
    where
      yx : lt y x ≡ true
      yx = f y (inl refl)

      below : (z : X) (zs : List X) → Has z (zs ++ x ∷ ys) → AllByRecursion (λ w. lt y w ≡ true) zs → lt y z ≡ true
      below z [] (inl e) h = subst (λ w. lt y w ≡ true) (sym e) yx
      below z [] (inr i) h = trans y x z yx (g z i)
      below z (w ∷ zs) (inl e) h = subst (λ v. lt y v ≡ true) (sym e) h.0
      below z (w ∷ zs) (inr i) h = below z zs i h.1

  -- a test that holds of all before an element that passes it
  pub partitioned : (p : X → Bool) → ((x y : X) → lt x y ≡ true → p y ≡ true → p x ≡ true) → (xs : List X) → Ascends lt xs → (i j : ℕ) (d : X) → i ≤ j → j < length xs → p (get_or xs j d) ≡ true → p (get_or xs i d) ≡ true
  partitioned p down [] a i j d le l h = absurd (omega arith)
  partitioned p down (x ∷ xs) a zero j d le l h = first j l h
    where
      at : (k : ℕ) (ys : List X) → k < length ys → AllByRecursion (λ y. lt x y ≡ true) ys → lt x (get_or ys k d) ≡ true
      at k [] m h = absurd (omega arith)
      at zero (y ∷ ys) m h = h.0
      at (suc k) (y ∷ ys) m h = at k ys (omega arith) h.1

      first : (j : ℕ) → j < length (x ∷ xs) → p (get_or (x ∷ xs) j d) ≡ true → p x ≡ true
      first zero m h = h
      first (suc k) m h = down x (get_or xs k d) (at k xs (omega arith) a.0) h
  partitioned p down (x ∷ xs) a (suc i) j d le l h = rest j le l h (λ k m n. partitioned p down xs a.1 i k d m n)
    where
      rest : (j : ℕ) → suc i ≤ j → j < length (x ∷ xs) → p (get_or (x ∷ xs) j d) ≡ true → ((k : ℕ) → i ≤ k → k < length xs → p (get_or xs k d) ≡ true → p (get_or xs i d) ≡ true) → p (get_or xs i d) ≡ true
      rest zero le l h more = absurd (omega arith)
      rest (suc k) le l h more = more k (omega arith) (omega arith) h

-- the branch that was taken
pub taken : {X : Type 0} (b r : Bool) (s xs ys : List X) → r ≡ false → b ≡ not r → s ≡ cond b xs ys → s ≡ xs
taken b r s xs ys f n e = rw (n, f) at e

-- one element more of a map in place
pub map-more : {X : Type 0} (f : X → X) (xs ys : List X) (i : ℕ) (x y : X) → i < length xs → ys ≡ map f (take i xs) ++ drop i xs → x ≡ get_or ys i x → y ≡ f x → set ys i y ≡ map f (take (i + 1) xs) ++ drop (i + 1) xs
map-more f xs ys i x y l m at e = ap (set ys i) e ∙ map_over_more f xs ys i x l m at

-- ---- answers of calls

-- a list as it was written through a slice
pub written : {X : Type 0} (n : ℕ) (new old : List X) → length new ≡ n → take n (new ++ drop (length new) old) ≡ new
written n new old e = ap (λ m. take m (new ++ drop (length new) old)) (sym e) ∙ front new (drop (length new) old)
  where
    front : {X : Type 0} (xs ys : List X) → take (length xs) (xs ++ ys) ≡ xs
    front xs ys = grind (arith, common_steps)
