-- The layers of a subdirectory stand in order, each as often as before.
use Rattle.std.proofs.Common.{◌≡◌, ◌∙◌, ℕ, ◌+◌, ◌<◌, Bool, true, false, cond, sym, refl, ap, ap₂, subst, List, [], ◌∷◌, length, get_or, filter, inl, inr, Ordering, Less, Equal, Greater, suc, zero, arith, IsPermutation, true≢false, ◌&&◌}
use Rattle.std.specs.Prelude.{not}
use Rattle.std.specs.List.{AllByRecursion, prefix_len}
use Rattle.std.specs.List.Sorted.{IsSortedBy, ties}
use Rattle.std.specs.Ordering.{is_gt, is_lt, ordering_reverse}
use Rattle.std.specs.Cmp.{IsTotalOrder}
use Rattle.std.proofs.lemmas.Cmp.{nat_cmp_total, on_total, then_total, upto}
use Rattle.std.proofs.lemmas.List.Sorted.{IsPermutation-refl, IsPermutation-cons, IsPermutation-trans, IsPermutation-insert}
use Rattle.mvcc_keys.specs.Times.{Time}
use Rattle.mvcc_keys.specs.Codes.{time_cmp}
use Rattle.fact_model.specs.Ordered.{by_order, insert_by, ordered}
use Rattle.list_laws.proofs.Members as members
use Rattle.fact_model.proofs.Orders as orders
use Rattle.layer_model.specs.declared.names.LayerName.{LayerName}
use Rattle.layer_book.specs.Subdirectories.{first_of_ties, layer_cmp, place_cmp}
use Rattle.layer_book.proofs.Places.{layer_placed}

pub times_total : IsTotalOrder time_cmp
times_total = then_total (on_total (λ (t : Time). t.wall) nat_cmp_total) (on_total (λ (t : Time). t.logical) nat_cmp_total)

pub layers_total : IsTotalOrder layer_cmp
layers_total = then_total (on_total (λ (n : LayerName). n.start) times_total) (then_total (on_total (λ (n : LayerName). n.end) times_total) (on_total (λ (n : LayerName). n.job) nat_cmp_total))

-- each element is not above those after it
abbrev Rises : {X : Type 0} → (X → X → Ordering) → List X → Type 0
Rises cmp [] = Unit {0}
Rises cmp (x ∷ xs) = AllByRecursion (λ y. is_gt (cmp x y) ≡ false) xs × Rises cmp xs

less-turned : (o : Ordering) → is_gt o ≡ false → is_lt (ordering_reverse o) ≡ false
less-turned Less e = refl
less-turned Equal e = refl
less-turned Greater e = absurd (true≢false e)

module _ {X : Type 0} (cmp : X → X → Ordering) (o : IsTotalOrder cmp) where
  rises-sorted : (xs : List X) → Rises cmp xs → (k : ℕ) (d : X) → suc k < length xs → is_lt (cmp (get_or xs (suc k) d) (get_or xs k d)) ≡ false
  rises-sorted [] s k d l = absurd (omega arith)
  rises-sorted (x ∷ []) s k d l = absurd (omega arith)
  rises-sorted (x ∷ y ∷ ys) s zero d l = ap is_lt (o.antisymm y x) ∙ less-turned (cmp x y) s.0.0
  rises-sorted (x ∷ y ∷ ys) s (suc k) d l = rises-sorted (y ∷ ys) s.1 k d (omega arith)

module _ {X : Type 0} (name : X → LayerName) where
  abbrev R : X → X → Ordering
  R x y = layer_cmp (name x) (name y)

  total : IsTotalOrder R
  total = on_total name layers_total

  abbrev lt : X → X → Bool
  lt x y = is_lt (R x y)

  rises-insert : (x : X) (ys : List X) → Rises R ys → Rises R (insert_by (place_cmp name) x ys)
  unfolding insert_by
  rises-insert x [] s = (tt, tt)
  rises-insert x (y ∷ ys) s = by (R x y) refl (rises-insert x ys s.1)
    where
      front : is_gt (R x y) ≡ false → Rises R (x ∷ y ∷ ys)
      front e = (members.AllByRecursion-has (λ z. is_gt (R x z) ≡ false) (y ∷ ys) (λ z. elim [ inl i ↦ subst (λ (w : X). is_gt (R x w) ≡ false) (sym i) e | inr i ↦ upto total x y z e (members.has-AllByRecursion (λ w. is_gt (R y w) ≡ false) z ys s.0 i) ]), s)

      by : (r : Ordering) → R x y ≡ r → Rises R (insert_by (place_cmp name) x ys) → Rises R (by_order (first_of_ties r) (x ∷ y ∷ ys) (y ∷ ys) (y ∷ insert_by (place_cmp name) x ys))
      by Less e more = front (ap is_gt e)
      by Equal e more = front (ap is_gt e)
      by Greater e more = (members.AllByRecursion-has (λ z. is_gt (R y z) ≡ false) (insert_by (place_cmp name) x ys) (λ z h. elim (orders.insert-has (place_cmp name) x z ys h) [ inl i ↦ subst (λ (w : X). is_gt (R y w) ≡ false) (sym i) (ap is_gt (total.antisymm y x ∙ ap ordering_reverse e)) | inr i ↦ members.has-AllByRecursion (λ w. is_gt (R y w) ≡ false) z ys s.0 i ]), more)

  rises-ordered : (xs : List X) → Rises R (ordered (place_cmp name) xs)
  unfolding ordered
  rises-ordered [] = tt
  rises-ordered (x ∷ xs) = rises-insert x (ordered (place_cmp name) xs) (rises-ordered xs)

  pub ordered_sorted : (xs : List X) → IsSortedBy lt (ordered (place_cmp name) xs)
  ordered_sorted xs = λ k d low l. let e : suc k ≡ k + 1 = omega arith in subst (λ (j : ℕ). is_lt (R (get_or (ordered (place_cmp name) xs) j d) (get_or (ordered (place_cmp name) xs) k d)) ≡ false) e (rises-sorted R total (ordered (place_cmp name) xs) (rises-ordered xs) k d (omega arith))

  pub ordered_permuted : (xs : List X) → IsPermutation xs (ordered (place_cmp name) xs)
  unfolding ordered
  ordered_permuted [] = IsPermutation-refl []
  ordered_permuted (x ∷ xs) = IsPermutation-trans (x ∷ xs) (x ∷ rest) (insert_by (place_cmp name) x rest) (IsPermutation-cons x xs rest (ordered_permuted xs)) (subst (λ (zs : List X). IsPermutation (x ∷ rest) zs) (sym (layer_placed name x rest)) (IsPermutation-insert rest (prefix_len (λ y. is_gt (R x y)) rest) x))
    where
      rest : List X
      rest = ordered (place_cmp name) xs

  -- neither comes first, by what the order says both ways
  abbrev neither : Ordering → Ordering → Bool
  neither a b = not (is_lt a) && not (is_lt b)

  -- what comes before an element that ties doesn't tie
  apart : (w x y : X) → ties lt w x ≡ true → R x y ≡ Greater → ties lt w y ≡ false
  apart w x y t e = by (R w x) refl
    where
      turned : (a b : X) → R a b ≡ Greater → ties lt a b ≡ false
      turned a b g = ap₂ neither g (total.antisymm b a ∙ ap ordering_reverse g)

      by : (r : Ordering) → R w x ≡ r → ties lt w y ≡ false
      by Less i = absurd (true≢false (sym t ∙ ap (λ (r : Ordering). neither r (R x w)) i))
      by Equal i = turned w y (total.congr w x y i ∙ e)
      by Greater i = absurd (true≢false (sym t ∙ turned w x i))

  stable-insert : (w x : X) (ys : List X) → filter (ties lt w) (insert_by (place_cmp name) x ys) ≡ filter (ties lt w) (x ∷ ys)
  unfolding insert_by
  stable-insert w x [] = refl
  stable-insert w x (y ∷ ys) = by (R x y) refl (stable-insert w x ys)
    where
      q : X → Bool
      q = ties lt w

      past : (a b : Bool) → (a ≡ true → b ≡ false) → (fs : List X) → cond b (y ∷ cond a (x ∷ fs) fs) (cond a (x ∷ fs) fs) ≡ cond a (x ∷ cond b (y ∷ fs) fs) (cond b (y ∷ fs) fs)
      past true true h fs = absurd (true≢false (h refl))
      past true false h fs = refl
      past false true h fs = refl
      past false false h fs = refl

      by : (r : Ordering) → R x y ≡ r → filter q (insert_by (place_cmp name) x ys) ≡ filter q (x ∷ ys) → filter q (by_order (first_of_ties r) (x ∷ y ∷ ys) (y ∷ ys) (y ∷ insert_by (place_cmp name) x ys)) ≡ filter q (x ∷ y ∷ ys)
      by Less e more = refl
      by Equal e more = refl
      by Greater e more = ap (λ (zs : List X). cond (q y) (y ∷ zs) zs) more ∙ past (q x) (q y) (λ t. apart w x y t e) (filter q ys)

  pub ordered_stable : (xs : List X) (w : X) → filter (ties lt w) (ordered (place_cmp name) xs) ≡ filter (ties lt w) xs
  unfolding ordered
  ordered_stable [] w = refl
  ordered_stable (x ∷ xs) w = stable-insert w x (ordered (place_cmp name) xs) ∙ ap (λ (zs : List X). cond (ties lt w x) (x ∷ zs) zs) (ordered_stable xs w)
