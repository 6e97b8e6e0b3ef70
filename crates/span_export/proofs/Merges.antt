-- Two lists that ascend, merged, are both put in order.
use Rattle.std.proofs.Common.{◌≡◌, ◌∙◌, ℕ, zero, suc, ◌≤◌, Bool, true, false, cond, sym, refl, ap, ap₂, subst, List, [], ◌∷◌, ◌++◌, take, drop, filter, length, ◌<◌, Option, append_assoc, append-nil, arith, inl, inr, ◌⊎◌, true≢false, Ordering, Less, Equal, Greater, is_lt}
use Rattle.std.specs.Cmp.{IsTotalOrder}
use Rattle.std.specs.List.Sorted.{IsStrictlySortedBy}
use Rattle.std.specs.Ordering.{ordering_reverse}
use Rattle.std.proofs.lemmas.Cmp.{on_total}
use Rattle.std.proofs.lemmas.List.{map-append, take-take}
use Rattle.std.proofs.lemmas.List.Kept.{IsStrictlySortedBy-filter}
use Rattle.mvcc_keys.specs.Times.{Time, time_lt}
use Rattle.mvcc_keys.specs.Codes.{time_cmp}
use Rattle.list_laws.specs.Members.{AllIn, Has}
use Rattle.mvcc_keys.specs.declared.entries.Entry.{Entry}
use Rattle.range_tombstones.specs.declared.upto.Upto.{Upto}
use Rattle.range_tombstones.specs.Intervals.{is_between, within}
use Rattle.fact_model.specs.Facts.{date}
use Rattle.fact_model.specs.Listed.{key_of, point_cmp, points}
use Rattle.fact_model.specs.Ordered.{ordered}
use Rattle.fact_model.specs.Scans.{image}
use Rattle.mvcc_keys.proofs.TimeOrder as times
use Rattle.list_laws.proofs.Members as members
use Rattle.fact_model.proofs.Orders as orders
use Rattle.version_store.specs.Tables.{ByteFact, Bytes, bytes_cmp, entry_of, entries_of, is_past}
use Rattle.version_store.specs.Lists.{fact_of}
use Rattle.version_store.proofs.Bytes.{fact-entry}
use Rattle.version_store.proofs.Held.{cut}
use Rattle.list_laws.proofs.Bools.{and-parts}
use Rattle.list_laws.proofs.Orders.{sorted-append}
use Rattle.span_export.specs.Lists.{comes_before, first_passes, front, merged, rest}
use Rattle.span_export.specs.Plans.{whole_points}
use Rattle.version_store.proofs.FactOrder.{equal-lt, image-has, image-sorted, point-has, points-sorted, points-total, sorted-map}
use Rattle.list_laws.proofs.Orderings.{lt-Less, then-Equal}

-- ---- fronts

pub front-rest : {X : Type 0} (p : X → Bool) (xs : List X) → front p xs ++ rest p xs ≡ xs
front-rest p [] = refl
front-rest {X} p (x ∷ xs) = by (p x) (front-rest p xs)
  where
    by : (b : Bool) → front p xs ++ rest p xs ≡ xs → cond b (x ∷ front p xs) [] ++ cond b (rest p xs) (x ∷ xs) ≡ x ∷ xs
    by true more = ap (λ (ys : List X). x ∷ ys) more
    by false more = refl

front-passes : {X : Type 0} (p : X → Bool) (x : X) (xs : List X) → Has x (front p xs) → p x ≡ true
front-passes p x [] h = absurd h
front-passes {X} p x (y ∷ ys) h = by (front-passes p x ys) (p y) refl h
  where
    by : (Has x (front p ys) → p x ≡ true) → (b : Bool) → p y ≡ b → Has x (cond b (y ∷ front p ys) []) → p x ≡ true
    by more true e (inl i) = ap p i ∙ e
    by more true e (inr i) = more i
    by more false e i = absurd i

module _ {X : Type 0} (cmp : X → X → Ordering) where
  sorted-front : (p : X → Bool) (xs : List X) → IsStrictlySortedBy cmp xs → IsStrictlySortedBy cmp (front p xs)
  unfolding IsStrictlySortedBy
  sorted-front p [] up = tt
  sorted-front p (x ∷ xs) up = by (p x) (sorted-front p xs up.1)
    where
      by : (b : Bool) → IsStrictlySortedBy cmp (front p xs) → IsStrictlySortedBy cmp (cond b (x ∷ front p xs) [])
      by true more = (members.AllByRecursion-has (λ z. cmp x z ≡ Less) (front p xs) (λ z h. members.has-AllByRecursion (λ w. cmp x w ≡ Less) z xs up.0 (subst (Has z) (front-rest p xs) (members.has-append_left z (front p xs) (rest p xs) h))), more)
      by false more = tt

  sorted-rest : (p : X → Bool) (xs : List X) → IsStrictlySortedBy cmp xs → IsStrictlySortedBy cmp (rest p xs)
  unfolding IsStrictlySortedBy
  sorted-rest p [] up = tt
  sorted-rest p (x ∷ xs) up = by (p x) (sorted-rest p xs up.1)
    where
      by : (b : Bool) → IsStrictlySortedBy cmp (rest p xs) → IsStrictlySortedBy cmp (cond b (rest p xs) (x ∷ xs))
      by true more = more
      by false more = up

  above : (o : Ordering) → is_lt o ≡ false → (o ≡ Equal → ⊥) → o ≡ Greater
  above Less e apart = absurd (true≢false e)
  above Equal e apart = absurd (apart refl)
  above Greater e apart = refl

  -- what comes after a front is after x, where none ties with it
  rest-above : (total : IsTotalOrder cmp) (x : X) (xs : List X) → IsStrictlySortedBy cmp xs → ((y : X) → Has y xs → cmp y x ≡ Equal → ⊥) → (y : X) → Has y (rest (λ d. is_lt (cmp d x)) xs) → cmp x y ≡ Less
  unfolding IsStrictlySortedBy
  rest-above total x [] up apart y h = absurd h
  rest-above total x (z ∷ xs) up apart y h = by (rest-above total x xs up.1 (λ w i. apart w (inr i)) y) (is_lt (cmp z x)) refl h
    where
      by : (Has y (rest (λ d. is_lt (cmp d x)) xs) → cmp x y ≡ Less) → (b : Bool) → is_lt (cmp z x) ≡ b → Has y (cond b (rest (λ d. is_lt (cmp d x)) xs) (z ∷ xs)) → cmp x y ≡ Less
      by more true e i = more i
      by more false e (inl i) = subst (λ (w : X). cmp x w ≡ Less) (sym i) (total.antisymm x z ∙ ap ordering_reverse (above (cmp z x) e (apart z (inl refl))))
      by more false e (inr i) = total.trans x z y (total.antisymm x z ∙ ap ordering_reverse (above (cmp z x) e (apart z (inl refl)))) (members.has-AllByRecursion (λ w. cmp z w ≡ Less) y xs up.0 i)

-- ---- merges

abbrev entry_cmp : Entry → Entry → Ordering
entry_cmp d e = point_cmp bytes_cmp (fact_of d) (fact_of e)

entries-total : IsTotalOrder entry_cmp
entries-total = on_total fact_of points-total

merged-has : (z : Entry) (xs ys : List Entry) → Has z (merged xs ys) → Has z xs ⊎ Has z ys
merged-has z [] ys h = inr h
merged-has z (x ∷ xs) ys h = elim (members.has-append_cases z (front (comes_before x) ys) (x ∷ merged xs (rest (comes_before x) ys)) h) [ inl i ↦ inr (subst (Has z) (front-rest (comes_before x) ys) (members.has-append_left z (front (comes_before x) ys) (rest (comes_before x) ys) i)) | inr j ↦ elim j [ inl e ↦ inl (inl e) | inr k ↦ elim (merged-has z xs (rest (comes_before x) ys) k) [ inl a ↦ inl (inr a) | inr b ↦ inr (subst (Has z) (front-rest (comes_before x) ys) (members.has-append_right z (front (comes_before x) ys) (rest (comes_before x) ys) b)) ] ] ]

has-merged_first : (z : Entry) (xs ys : List Entry) → Has z xs → Has z (merged xs ys)
has-merged_first z [] ys h = absurd h
has-merged_first z (x ∷ xs) ys (inl e) = members.has-append_right z (front (comes_before x) ys) (x ∷ merged xs (rest (comes_before x) ys)) (inl e)
has-merged_first z (x ∷ xs) ys (inr i) = members.has-append_right z (front (comes_before x) ys) (x ∷ merged xs (rest (comes_before x) ys)) (inr (has-merged_first z xs (rest (comes_before x) ys) i))

has-merged_second : (z : Entry) (xs ys : List Entry) → Has z ys → Has z (merged xs ys)
has-merged_second z [] ys h = h
has-merged_second z (x ∷ xs) ys h = elim (members.has-append_cases z (front (comes_before x) ys) (rest (comes_before x) ys) (subst (Has z) (sym (front-rest (comes_before x) ys)) h)) [ inl i ↦ members.has-append_left z (front (comes_before x) ys) (x ∷ merged xs (rest (comes_before x) ys)) i | inr j ↦ members.has-append_right z (front (comes_before x) ys) (x ∷ merged xs (rest (comes_before x) ys)) (inr (has-merged_second z xs (rest (comes_before x) ys) j)) ]

-- no element of one list ties with one of the other
abbrev AreApart : List Entry → List Entry → Type 0
AreApart xs ys = (x y : Entry) → Has x xs → Has y ys → entry_cmp y x ≡ Equal → ⊥

merged-sorted : (xs ys : List Entry) → IsStrictlySortedBy entry_cmp xs → IsStrictlySortedBy entry_cmp ys → AreApart xs ys → IsStrictlySortedBy entry_cmp (merged xs ys)
unfolding IsStrictlySortedBy
merged-sorted [] ys up on apart = on
merged-sorted (x ∷ xs) ys up on apart = sorted-append entry_cmp (front (comes_before x) ys) (x ∷ merged xs left) (sorted-front entry_cmp (comes_before x) ys on) (members.AllByRecursion-has (λ z. entry_cmp x z ≡ Less) (merged xs left) above-x, merged-sorted xs left up.1 (sorted-rest entry_cmp (comes_before x) ys on) (λ a b i j. apart a b (inr i) (among b j))) (λ a b i j. below-x a i b j)
  where
    left : List Entry
    left = rest (comes_before x) ys

    among : (b : Entry) → Has b left → Has b ys
    among b j = subst (Has b) (front-rest (comes_before x) ys) (members.has-append_right b (front (comes_before x) ys) left j)

    above-x : (z : Entry) → Has z (merged xs left) → entry_cmp x z ≡ Less
    above-x z h = elim (merged-has z xs left h) [ inl i ↦ members.has-AllByRecursion (λ w. entry_cmp x w ≡ Less) z xs up.0 i | inr j ↦ rest-above entry_cmp entries-total x ys on (λ y k. apart x y (inl refl) k) z j ]

    below-x : (a : Entry) → Has a (front (comes_before x) ys) → (b : Entry) → Has b (x ∷ merged xs left) → entry_cmp a b ≡ Less
    below-x a i b (inl e) = subst (λ (w : Entry). entry_cmp a w ≡ Less) (sym e) (lt-Less (entry_cmp a x) (front-passes (comes_before x) a ys i))
    below-x a i b (inr j) = entries-total.trans a x b (lt-Less (entry_cmp a x) (front-passes (comes_before x) a ys i)) (above-x b j)

-- what passes of a merge is the merge of what passes
filter-merged : (p : Entry → Bool) (xs ys : List Entry) → IsStrictlySortedBy entry_cmp xs → IsStrictlySortedBy entry_cmp ys → AreApart xs ys → filter p (merged xs ys) ≡ merged (filter p xs) (filter p ys)
filter-merged p xs ys up on apart = orders.ascending-same entry_cmp entries-total (filter p (merged xs ys)) (merged (filter p xs) (filter p ys)) (IsStrictlySortedBy-filter entry_cmp p (merged xs ys) (merged-sorted xs ys up on apart)) (merged-sorted (filter p xs) (filter p ys) (IsStrictlySortedBy-filter entry_cmp p xs up) (IsStrictlySortedBy-filter entry_cmp p ys on) (λ x y h i. apart x y (members.filter-has p x xs h) (members.filter-has p y ys i))) there here
  where
    there : AllIn (filter p (merged xs ys)) (merged (filter p xs) (filter p ys))
    there z h = let e = members.filter-passes p z (merged xs ys) h in elim (merged-has z xs ys (members.filter-has p z (merged xs ys) h)) [ inl i ↦ has-merged_first z (filter p xs) (filter p ys) (members.has-filter p z xs i e) | inr j ↦ has-merged_second z (filter p xs) (filter p ys) (members.has-filter p z ys j e) ]

    here : AllIn (merged (filter p xs) (filter p ys)) (filter p (merged xs ys))
    here z h = elim (merged-has z (filter p xs) (filter p ys) h) [ inl i ↦ members.has-filter p z (merged xs ys) (has-merged_first z xs ys (members.filter-has p z xs i)) (members.filter-passes p z xs i) | inr j ↦ members.has-filter p z (merged xs ys) (has-merged_second z xs ys (members.filter-has p z ys j)) (members.filter-passes p z ys j) ]

-- the first n of a merge are among the first n of each list
taken-merged : (n m o : ℕ) (xs ys : List Entry) → n ≤ m → n ≤ o → take n (merged (take m xs) (take o ys)) ≡ take n (merged xs ys)
taken-merged zero m o xs ys a b = refl
taken-merged (suc n) zero o xs ys a b = absurd (omega arith)
taken-merged (suc n) (suc m) zero xs ys a b = absurd (omega arith)
taken-merged (suc n) (suc m) (suc o) [] ys a b = take-take (suc n) (suc o) ys b
taken-merged (suc n) (suc m) (suc o) (x ∷ xs) [] a b = ap (λ (zs : List Entry). x ∷ zs) (taken-merged n m (suc o) xs [] (omega arith) (omega arith))
taken-merged (suc n) (suc m) (suc o) (x ∷ xs) (y ∷ ys) a b = by (comes_before x y) (taken-merged n (suc m) o (x ∷ xs) ys (omega arith) (omega arith)) (taken-merged n m (suc o) xs (y ∷ ys) (omega arith) (omega arith))
  where
    p : Entry → Bool
    p = comes_before x

    by : (c : Bool) → take n (merged (x ∷ take m xs) (take o ys)) ≡ take n (merged (x ∷ xs) ys) → take n (merged (take m xs) (y ∷ take o ys)) ≡ take n (merged xs (y ∷ ys)) → take (suc n) (cond c (y ∷ front p (take o ys)) [] ++ x ∷ merged (take m xs) (cond c (rest p (take o ys)) (y ∷ take o ys))) ≡ take (suc n) (cond c (y ∷ front p ys) [] ++ x ∷ merged xs (cond c (rest p ys) (y ∷ ys)))
    by true second first = ap (λ (zs : List Entry). y ∷ zs) second
    by false second first = ap (λ (zs : List Entry). x ∷ zs) first

-- ---- the image at a floor and the points after it

apart-at : (floor : Time) (upto : Upto) (fs : List ByteFact) (f g : ByteFact) → Has f (image bytes_cmp floor fs) → Has g (points bytes_cmp (is_between floor upto) fs) → point_cmp bytes_cmp g f ≡ Equal → ⊥
apart-at floor upto fs f g i j e = true≢false (sym (times.le-lt-lt (date f) floor (date g) (image-has floor fs f i).1 (and-parts (time_lt floor (date g)) (within upto (date g)) (point-has (is_between floor upto) fs g j).1).0) ∙ equal-lt (date f) (date g) (then-Equal (bytes_cmp (key_of g) (key_of f)) (time_cmp (date f) (date g)) e).1)

same-order : (f g : ByteFact) → entry_cmp (entry_of f) (entry_of g) ≡ point_cmp bytes_cmp f g
same-order f g = ap₂ (point_cmp bytes_cmp) (fact-entry f) (fact-entry g)

entries-sorted : (fs : List ByteFact) → IsStrictlySortedBy (point_cmp bytes_cmp) fs → IsStrictlySortedBy entry_cmp (entries_of fs)
entries-sorted fs up = sorted-map (point_cmp bytes_cmp) entry_cmp entry_of fs (λ a b i j e. same-order a b ∙ e) up

module _ (floor : Time) (upto : Upto) (fs : List ByteFact) where
  abbrev older : List Entry
  older = entries_of (image bytes_cmp floor fs)

  abbrev newer : List Entry
  newer = entries_of (points bytes_cmp (is_between floor upto) fs)

  older-apart : AreApart older newer
  older-apart x y h i e = let m = members.map-has entry_of x (image bytes_cmp floor fs) h in let n = members.map-has entry_of y (points bytes_cmp (is_between floor upto) fs) i in apart-at floor upto fs m.0 n.0 m.1 n.1 (sym (same-order n.0 m.0) ∙ (sym (ap₂ entry_cmp n.2 m.2) ∙ e))

  older-sorted : IsStrictlySortedBy entry_cmp older
  older-sorted = entries-sorted (image bytes_cmp floor fs) (image-sorted floor fs)

  newer-sorted : IsStrictlySortedBy entry_cmp newer
  newer-sorted = entries-sorted (points bytes_cmp (is_between floor upto) fs) (points-sorted (is_between floor upto) fs)

  whole-merged : merged older newer ≡ entries_of (whole_points floor (is_between floor upto) fs)
  unfolding whole_points
  whole-merged = orders.in-order entry_cmp (merged older newer) (older ++ newer) entries-total up (λ a b i j e. orders.sorted-tied entry_cmp (merged older newer) entries-total up a b (here a i) (here b j) e) there here ∙ (ap (ordered entry_cmp) (sym (map-append entry_of (image bytes_cmp floor fs) (points bytes_cmp (is_between floor upto) fs))) ∙ orders.ordered-map (point_cmp bytes_cmp) entry_cmp entry_of (λ f. Unit {0}) (λ a b p q. same-order a b) (image bytes_cmp floor fs ++ points bytes_cmp (is_between floor upto) fs) (λ f h. tt))
    where
      up : IsStrictlySortedBy entry_cmp (merged older newer)
      up = merged-sorted older newer older-sorted newer-sorted older-apart

      there : AllIn (merged older newer) (older ++ newer)
      there z h = elim (merged-has z older newer h) [ inl i ↦ members.has-append_left z older newer i | inr j ↦ members.has-append_right z older newer j ]

      here : AllIn (older ++ newer) (merged older newer)
      here z h = elim (members.has-append_cases z older newer h) [ inl i ↦ has-merged_first z older newer i | inr j ↦ has-merged_second z older newer j ]

  -- the first of both after a place, merged, begin with the first of the merge after it
  pub whole-after : (place : Option (Bytes × Time)) (n : ℕ) → take n (merged (entries_of (take n (filter (is_past place) (image bytes_cmp floor fs)))) (entries_of (take n (filter (is_past place) (points bytes_cmp (is_between floor upto) fs))))) ≡ entries_of (take n (filter (is_past place) (whole_points floor (is_between floor upto) fs)))
  whole-after place n =
      ap₂ (λ (xs ys : List Entry). take n (merged xs ys)) (sym (cut place n (image bytes_cmp floor fs))) (sym (cut place n (points bytes_cmp (is_between floor upto) fs)))
      ∙ (taken-merged n n n (filter past older) (filter past newer) (omega arith) (omega arith)
      ∙ (ap (take n) (sym (filter-merged past older newer older-sorted newer-sorted older-apart) ∙ ap (filter past) whole-merged)
      ∙ cut place n (whole_points floor (is_between floor upto) fs)))
    where
      past : Entry → Bool
      past e = is_past place (fact_of e)

-- ---- the walk

first-moved : {X : Type 0} (p : X → Bool) (old new xs : List X) → first_passes p xs ≡ true → new ≡ old ++ take 1 xs → new ++ front p (drop 1 xs) ≡ old ++ front p xs
first-moved p old new [] e pushed = absurd (true≢false (sym e))
first-moved {X} p old new (x ∷ xs) e pushed = rw (e, pushed) (append_assoc old (x ∷ []) (front p xs))

pub front-more : {X : Type 0} (p : X → Bool) (old new xs ys whole : List X) → first_passes p xs ≡ true → new ≡ old ++ take 1 xs → ys ≡ drop 1 xs → old ++ front p xs ≡ whole → new ++ front p ys ≡ whole
front-more p old new xs ys whole e pushed left kept = ap (λ (zs : List _). new ++ front p zs) left ∙ (first-moved p old new xs e pushed ∙ kept)

first-left : {X : Type 0} (p : X → Bool) (xs : List X) → first_passes p xs ≡ true → rest p (drop 1 xs) ≡ rest p xs
first-left p [] e = refl
first-left p (x ∷ xs) e = rw e refl

pub rest-more : {X : Type 0} (p : X → Bool) (xs ys whole : List X) → first_passes p xs ≡ true → ys ≡ drop 1 xs → rest p xs ≡ whole → rest p ys ≡ whole
rest-more p xs ys whole e left kept = ap (rest p) left ∙ (first-left p xs e ∙ kept)

pub front-none : {X : Type 0} (p : X → Bool) (xs new whole : List X) → first_passes p xs ≡ false → new ++ front p xs ≡ whole → new ≡ whole
front-none p [] new whole e kept = sym (append-nil new) ∙ kept
front-none {X} p (x ∷ xs) new whole e kept = sym (append-nil new) ∙ (ap (λ (b : Bool). new ++ cond b (x ∷ front p xs) []) (sym e) ∙ kept)

pub fewer-left : {X : Type 0} (p : X → Bool) (xs ys : List X) → first_passes p xs ≡ true → ys ≡ drop 1 xs → length ys < length xs
fewer-left p [] ys e left = absurd (true≢false (sym e))
fewer-left p (x ∷ xs) ys e left = let l : length ys ≡ length xs = ap length left in omega arith

pub rest-all : {X : Type 0} (p : X → Bool) (xs : List X) → first_passes p xs ≡ false → rest p xs ≡ xs
rest-all p [] e = refl
rest-all p (x ∷ xs) e = rw e refl

pub merged-more : (x : Entry) (old new xs ys zs whole : List Entry) → new ≡ old ++ (front (comes_before x) ys ++ x ∷ []) → zs ≡ rest (comes_before x) ys → old ++ merged (x ∷ xs) ys ≡ whole → new ++ merged xs zs ≡ whole
merged-more x old new xs ys zs whole pushed left kept = ap₂ (λ (as' bs : List Entry). as' ++ merged xs bs) pushed left ∙ (append_assoc old (front (comes_before x) ys ++ x ∷ []) (merged xs (rest (comes_before x) ys)) ∙ (ap (λ (as' : List Entry). old ++ as') (append_assoc (front (comes_before x) ys) (x ∷ []) (merged xs (rest (comes_before x) ys))) ∙ kept))

pub merged-all : (old xs ys zs whole : List Entry) → length xs ≡ 0 → zs ≡ ys → old ++ merged xs ys ≡ whole → old ++ zs ≡ whole
merged-all old [] ys zs whole e same is = ap (λ (as' : List Entry). old ++ as') same ∙ is
merged-all old (x ∷ xs) ys zs whole e same is = absurd (omega arith)
