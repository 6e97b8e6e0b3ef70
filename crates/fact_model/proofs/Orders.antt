-- Lists in order without repeats.
use Rattle.std.proofs.Common.{◌≡◌, sym, refl, ap, ap₂, ◌∙◌, subst, List, [], ◌∷◌, ◌⊎◌, inl, inr, map, Ordering, Less, Equal, Greater, is_eq, true, true≢false}
use Rattle.std.specs.Cmp.{IsTotalOrder}
use Rattle.std.specs.List.{AllByRecursion}
use Rattle.std.specs.List.Sorted.{IsStrictlySortedBy}
use Rattle.std.proofs.lemmas.Cmp.{tied_itself}
use Rattle.std.specs.Ordering.{ordering_reverse}
use Rattle.fact_model.specs.Facts.{IsKeyOrder}
use Rattle.list_laws.specs.Members.{Has, AllIn}
use Rattle.fact_model.specs.Ordered.{by_order, insert_by, ordered}
use Rattle.list_laws.proofs.Members as members

-- each element meets P
abbrev pub Each : {X : Type 0} → (X → Type 0) → List X → Type 0
Each {X} P xs = (x : X) → Has x xs → P x

-- keys that the order ties are one key
pub tied : {K : Type 0} (cmp : K → K → Ordering) → IsKeyOrder cmp → (q k : K) → is_eq (cmp q k) ≡ true → q ≡ k
tied {K} cmp o q k p = by (cmp q k) refl p
  where
    by : (r : Ordering) → cmp q k ≡ r → is_eq r ≡ true → q ≡ k
    by Less i j = absurd (true≢false (sym j))
    by Equal i j = o.same q k i
    by Greater i j = absurd (true≢false (sym j))

module _ {X : Type 0} (cmp : X → X → Ordering) where
  -- an element that an insertion leaves was put in, or was there
  pub insert-has : (x z : X) (ys : List X) → Has z (insert_by cmp x ys) → (z ≡ x) ⊎ Has z ys
  unfolding insert_by
  insert-has x z [] (inl e) = inl e
  insert-has x z [] (inr i) = inr i
  insert-has x z (y ∷ ys) h = go (insert-has x z ys) (cmp x y) h
    where
      go : (Has z (insert_by cmp x ys) → (z ≡ x) ⊎ Has z ys) → (o : Ordering) → Has z (by_order o (x ∷ y ∷ ys) (y ∷ ys) (y ∷ insert_by cmp x ys)) → (z ≡ x) ⊎ Has z (y ∷ ys)
      go more Less (inl e) = inl e
      go more Less (inr i) = inr i
      go more Equal i = inr i
      go more Greater (inl e) = inr (inl e)
      go more Greater (inr i) = elim (more i) [ inl e ↦ inl e | inr j ↦ inr (inr j) ]

  pub has-insert : (x z : X) (ys : List X) → Has z ys → Has z (insert_by cmp x ys)
  unfolding insert_by
  has-insert x z [] h = absurd h
  has-insert x z (y ∷ ys) h = go (has-insert x z ys) (cmp x y) h
    where
      go : (Has z ys → Has z (insert_by cmp x ys)) → (o : Ordering) → Has z (y ∷ ys) → Has z (by_order o (x ∷ y ∷ ys) (y ∷ ys) (y ∷ insert_by cmp x ys))
      go more Less i = inr i
      go more Equal i = i
      go more Greater (inl e) = inl e
      go more Greater (inr i) = inr (more i)

  pub ordered-has : (z : X) (xs : List X) → Has z (ordered cmp xs) → Has z xs
  unfolding ordered
  ordered-has z [] h = h
  ordered-has z (x ∷ xs) h = elim (insert-has x z (ordered cmp xs) h) [ inl e ↦ inl e | inr i ↦ inr (ordered-has z xs i) ]

  module _ (o : IsTotalOrder cmp) where
    asym : (x y : X) → cmp x y ≡ Less → cmp y x ≡ Less → ⊥
    asym x y p q = let r : Less ≡ Greater = sym p ∙ (o.antisymm x y ∙ ap ordering_reverse q) in cc

    -- below one that is not above another
    pub ascending-insert : (x : X) (ys : List X) → IsStrictlySortedBy cmp ys → IsStrictlySortedBy cmp (insert_by cmp x ys)
    unfolding insert_by IsStrictlySortedBy
    ascending-insert x [] s = (tt, tt)
    ascending-insert x (y ∷ ys) s = go (ascending-insert x ys s.1) (cmp x y) refl
      where
        go : IsStrictlySortedBy cmp (insert_by cmp x ys) → (r : Ordering) → cmp x y ≡ r → IsStrictlySortedBy cmp (by_order r (x ∷ y ∷ ys) (y ∷ ys) (y ∷ insert_by cmp x ys))
        go more Less e = (members.AllByRecursion-has (λ z. cmp x z ≡ Less) (y ∷ ys) (λ z. elim [ inl i ↦ subst (λ (w : X). cmp x w ≡ Less) (sym i) e | inr i ↦ o.trans x y z e (members.has-AllByRecursion (λ w. cmp y w ≡ Less) z ys s.0 i) ]), s)
        go more Equal e = s
        go more Greater e = (members.AllByRecursion-has (λ z. cmp y z ≡ Less) (insert_by cmp x ys) (λ z h. elim (insert-has x z ys h) [ inl i ↦ subst (λ (w : X). cmp y w ≡ Less) (sym i) (o.antisymm y x ∙ ap ordering_reverse e) | inr i ↦ members.has-AllByRecursion (λ w. cmp y w ≡ Less) z ys s.0 i ]), more)

    pub ascending-ordered : (xs : List X) → IsStrictlySortedBy cmp (ordered cmp xs)
    unfolding ordered IsStrictlySortedBy
    ascending-ordered [] = tt
    ascending-ordered (x ∷ xs) = ascending-insert x (ordered cmp xs) (ascending-ordered xs)

    -- two lists that ascend and have the same elements are one
    pub ascending-same : (xs ys : List X) → IsStrictlySortedBy cmp xs → IsStrictlySortedBy cmp ys → AllIn xs ys → AllIn ys xs → xs ≡ ys
    unfolding IsStrictlySortedBy
    ascending-same [] [] s t p q = refl
    ascending-same [] (y ∷ ys) s t p q = absurd (q y (inl refl))
    ascending-same (x ∷ xs) [] s t p q = absurd (p x (inl refl))
    ascending-same (x ∷ xs) (y ∷ ys) s t p q = ap₂ (λ (a : X) (as' : List X). a ∷ as') heads (ascending-same xs ys s.1 t.1 (λ z i. elim (p z (inr i)) [ inl e ↦ absurd (lone x z xs s.0 i (e ∙ sym heads)) | inr j ↦ j ]) (λ z i. elim (q z (inr i)) [ inl e ↦ absurd (lone y z ys t.0 i (e ∙ heads)) | inr j ↦ j ]))
      where
        heads : x ≡ y
        heads = elim (p x (inl refl)) [ inl e ↦ e | inr i ↦ elim (q y (inl refl)) [ inl e ↦ sym e | inr j ↦ absurd (asym x y (members.has-AllByRecursion (λ w. cmp x w ≡ Less) y xs s.0 j) (members.has-AllByRecursion (λ w. cmp y w ≡ Less) x ys t.0 i)) ] ]

        lone : (a z : X) (as' : List X) → AllByRecursion (λ w. cmp a w ≡ Less) as' → Has z as' → z ≡ a → ⊥
        lone a z as' all i e = let l = members.has-AllByRecursion (λ w. cmp a w ≡ Less) z as' all i in let r : Less ≡ Equal = sym (subst (λ (w : X). cmp a w ≡ Less) e l) ∙ tied_itself o a in cc

  module _ (o : IsKeyOrder cmp) where
    -- what is put in is there
    pub has-inserted : (x : X) (ys : List X) → Has x (insert_by cmp x ys)
    unfolding insert_by
    has-inserted x [] = inl refl
    has-inserted x (y ∷ ys) = go (has-inserted x ys) (cmp x y) refl
      where
        go : Has x (insert_by cmp x ys) → (r : Ordering) → cmp x y ≡ r → Has x (by_order r (x ∷ y ∷ ys) (y ∷ ys) (y ∷ insert_by cmp x ys))
        go more Less e = inl refl
        go more Equal e = inl (o.same x y e)
        go more Greater e = inr more

    pub has-ordered : (z : X) (xs : List X) → Has z xs → Has z (ordered cmp xs)
    unfolding ordered
    has-ordered z [] h = h
    has-ordered z (x ∷ xs) (inl e) = subst (λ (w : X). Has w (insert_by cmp x (ordered cmp xs))) (sym e) (has-inserted x (ordered cmp xs))
    has-ordered z (x ∷ xs) (inr i) = has-insert x z (ordered cmp xs) (has-ordered z xs i)

-- an order that a map keeps, on elements that meet P
module _ {X Y : Type 0} (cmp : X → X → Ordering) (cmp' : Y → Y → Ordering) (f : X → Y) (P : X → Type 0) (same : (a b : X) → P a → P b → cmp' (f a) (f b) ≡ cmp a b) where
  pub insert-map : (x : X) (ys : List X) → P x → Each P ys → insert_by cmp' (f x) (map f ys) ≡ map f (insert_by cmp x ys)
  unfolding insert_by
  insert-map x [] p all = refl
  insert-map x (y ∷ ys) p all = rw (same x y p (all y (inl refl))) (go (insert-map x ys p (λ z i. all z (inr i))) (cmp x y))
    where
      go : insert_by cmp' (f x) (map f ys) ≡ map f (insert_by cmp x ys) → (o : Ordering) → by_order o (f x ∷ f y ∷ map f ys) (f y ∷ map f ys) (f y ∷ insert_by cmp' (f x) (map f ys)) ≡ map f (by_order o (x ∷ y ∷ ys) (y ∷ ys) (y ∷ insert_by cmp x ys))
      go more Less = refl
      go more Equal = refl
      go more Greater = ap (λ (zs : List Y). f y ∷ zs) more

  pub ordered-map : (xs : List X) → Each P xs → ordered cmp' (map f xs) ≡ map f (ordered cmp xs)
  unfolding ordered
  ordered-map [] all = refl
  ordered-map (x ∷ xs) all = ap (insert_by cmp' (f x)) (ordered-map xs (λ z i. all z (inr i))) ∙ insert-map x (ordered cmp xs) (all x (inl refl)) (λ z i. all z (inr (ordered-has cmp z xs i)))

-- ---- what is put in order is there, where no two elements tie

pub inserted-there : {X : Type 0} (cmp : X → X → Ordering) (x : X) (ys : List X) → ((y : X) → Has y ys → cmp x y ≡ Equal → x ≡ y) → Has x (insert_by cmp x ys)
unfolding insert_by
inserted-there cmp x [] same = inl refl
inserted-there cmp x (y ∷ ys) same = by (cmp x y) refl (inserted-there cmp x ys (λ z h. same z (inr h)))
  where
    by : (o : Ordering) → cmp x y ≡ o → Has x (insert_by cmp x ys) → Has x (by_order o (x ∷ y ∷ ys) (y ∷ ys) (y ∷ insert_by cmp x ys))
    by Less e more = inl refl
    by Equal e more = inl (same y (inl refl) e)
    by Greater e more = inr more

pub ordered-there : {X : Type 0} (cmp : X → X → Ordering) (z : X) (xs : List X) → ((x y : X) → Has x xs → Has y xs → cmp x y ≡ Equal → x ≡ y) → Has z xs → Has z (ordered cmp xs)
unfolding ordered
ordered-there cmp z [] same h = h
ordered-there cmp z (x ∷ xs) same (inl e) = subst (λ w. Has w (insert_by cmp x (ordered cmp xs))) (sym e) (inserted-there cmp x (ordered cmp xs) (λ y h. same x y (inl refl) (inr (ordered-has cmp y xs h))))
ordered-there cmp z (x ∷ xs) same (inr i) = has-insert cmp x z (ordered cmp xs) (ordered-there cmp z xs (λ y w h j. same y w (inr h) (inr j)) i)

-- a list that ascends is the other put in order, where they have the same elements
pub in-order : {X : Type 0} (cmp : X → X → Ordering) (xs ys : List X) → IsTotalOrder cmp → IsStrictlySortedBy cmp xs → ((x y : X) → Has x ys → Has y ys → cmp x y ≡ Equal → x ≡ y) → AllIn xs ys → AllIn ys xs → xs ≡ ordered cmp ys
in-order cmp xs ys total up same f g = ascending-same cmp total xs (ordered cmp ys) up (ascending-ordered cmp total ys) (λ x h. ordered-there cmp x ys same (f x h)) (λ x h. g x (ordered-has cmp x ys h))

-- elements of a list that ascends that tie are one
pub sorted-tied : {X : Type 0} (cmp : X → X → Ordering) (xs : List X) → IsTotalOrder cmp → IsStrictlySortedBy cmp xs → (x y : X) → Has x xs → Has y xs → cmp x y ≡ Equal → x ≡ y
unfolding IsStrictlySortedBy
sorted-tied cmp [] total up x y h i e = absurd h
sorted-tied cmp (z ∷ zs) total up x y (inl a) (inl b) e = a ∙ sym b
sorted-tied cmp (z ∷ zs) total up x y (inl a) (inr j) e = let l = members.has-AllByRecursion (λ w. cmp z w ≡ Less) y zs up.0 j in let c : Less ≡ Equal = sym l ∙ (ap (λ w. cmp w y) (sym a) ∙ e) in cc
sorted-tied cmp (z ∷ zs) total up x y (inr i) (inl b) e = let l = members.has-AllByRecursion (λ w. cmp z w ≡ Less) x zs up.0 i in let c : Less ≡ Equal = sym l ∙ (total.antisymm z x ∙ ap ordering_reverse (ap (cmp x) (sym b) ∙ e)) in cc
sorted-tied cmp (z ∷ zs) total up x y (inr i) (inr j) e = sorted-tied cmp zs total up.1 x y i j e
