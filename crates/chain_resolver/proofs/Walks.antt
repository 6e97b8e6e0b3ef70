-- Walks that take the best next layer are best ways.
use Rattle.std.proofs.Common.{◌≡◌, ℕ, zero, suc, Bool, true, false, ◌&&◌, ◌≤◌, ◌<◌, ◌+◌, sym, refl, ap, ◌∙◌, subst, List, [], ◌∷◌, Option, Some, None, length, cond, Ordering, Less, Equal, Greater, true≢false, arith, ◌⊎◌, inl, inr}
use Rattle.std.specs.List.{slice_get, list_any}
use Rattle.std.specs.Ordering.{nat_cmp, is_le, ordering_then}
use Rattle.std.specs.Cmp.Lexicographic.{slice_cmp}
use Rattle.std.proofs.lemmas.Bool.Decides.{nat_tests}
use Rattle.chain_resolver.specs.declared.layer.Layer.{Layer}
use Rattle.mvcc_keys.specs.Times.{time_lt}
use Rattle.mvcc_keys.specs.Codes.{time_cmp}
use Rattle.chain_resolver.specs.Ways.{Route, GoesOn, IsWay, IsBestWay, way_cmp, ends, end_of}
use Rattle.std.proofs.lemmas.Bool.{cases_lt}
use Rattle.chain_resolver.specs.Steps.{can, Walks, IsByEnd, IsForward}
use Rattle.mvcc_keys.proofs.TimeOrder as times
use Rattle.list_laws.proofs.Bools.{and-left, or-left, or-right, and-both, and-right}
use Rattle.list_laws.proofs.Options.{some-is}

pub list_any-at : {X : Type 0} (f : X → Bool) (xs : List X) (i : ℕ) (x : X) → slice_get xs i ≡ Some x → f x ≡ true → list_any f xs ≡ true
list_any-at f [] i x e p = cc
list_any-at f (y ∷ ys) zero x e p = or-left (f y) (list_any f ys) (subst (λ z. f z ≡ true) (sym (some-is y x e)) p)
list_any-at f (y ∷ ys) (suc i) x e p = or-right (f y) (list_any f ys) (list_any-at f ys i x e p)

abbrev passing : (Layer → Bool) → List Layer → ℕ
passing f [] = 0
passing f (x ∷ xs) = cond (f x) 1 0 + passing f xs

one : (b : Bool) → cond b 1 0 ≤ 1
one true = omega arith
one false = omega arith

passing-le : (f : Layer → Bool) (xs : List Layer) → passing f xs ≤ length xs
passing-le f [] = omega arith
passing-le f (x ∷ xs) = let h = one (f x) in let t = passing-le f xs in omega arith

module _ (r : Route) (ls : List Layer) where
  -- a way that goes on shows that one can
  pub can-from : (l : Layer) (qs : List ℕ) → GoesOn r ls (Some l) qs → can r ls (length qs) l ≡ true
  can-from l [] h = h
  can-from l (q ∷ qs) (m, at, goes, rest) = list_any-at (λ m. r.follows (Some l) m && can r ls (length qs) m) ls q m at (and-both (r.follows (Some l) m) (can r ls (length qs) m) goes (can-from m qs rest))

  pub walks-goes : (before : Option Layer) (p : ℕ) (ps : List ℕ) → Walks r ls before (p ∷ ps) → GoesOn r ls before (p ∷ ps)
  walks-goes before p [] (m, c, w) = (m, c.there, and-left (r.follows before m) (can r ls zero m) c.fits, and-right (r.follows before m) (can r ls zero m) c.fits)
  walks-goes before p (q ∷ qs) (m, c, w) = (m, c.there, and-left (r.follows before m) (can r ls (length (q ∷ qs)) m) c.fits, walks-goes (Some m) q qs w)

  joined : (a e b f : Ordering) → is_le a ≡ true → (a ≡ Equal → is_le b ≡ true) → (a ≡ Equal → is_le (ordering_then e f) ≡ true) → is_le (ordering_then (ordering_then a e) (ordering_then b f)) ≡ true
  joined Less e b f p q h = refl
  joined Equal Less b f p q h = refl
  joined Equal Equal Less f p q h = refl
  joined Equal Equal Equal f p q h = h refl
  joined Equal Equal Greater f p q h = absurd (true≢false (sym (q refl)))
  joined Equal Greater b f p q h = h refl
  joined Greater e b f p q h = absurd (true≢false (sym p))

  low : (p q : ℕ) → p ≤ q → is_le (nat_cmp p q) ≡ true
  low p q h = grind (arith, nat_tests)

  -- of ways with as many layers a walk is the best
  pub walks-best : IsByEnd r → (before : Option Layer) (ps qs : List ℕ) → Walks r ls before ps → GoesOn r ls before qs → length ps ≡ length qs → is_le (ordering_then (slice_cmp time_cmp (ends ls qs) (ends ls ps)) (slice_cmp nat_cmp ps qs)) ≡ true
  walks-best by before [] [] w g e = refl
  walks-best by before [] (q ∷ qs) w g e = absurd (omega arith)
  walks-best by before (p ∷ ps) [] w g e = absurd (omega arith)
  walks-best by before (p ∷ ps) (q ∷ qs) (m, c, w) (l, at, goes, on) e =
      let same : length ps ≡ length qs = omega arith in
      let left : can r ls (length ps) l ≡ true = subst (λ (n : ℕ). can r ls n l ≡ true) (sym same) (can-from l qs on) in
      let passes : (r.follows before l && can r ls (length ps) l) ≡ true = and-both (r.follows before l) (can r ls (length ps) l) goes left in
      let le : is_le (time_cmp (end_of (slice_get ls q)) (end_of (slice_get ls p))) ≡ true = rw (at, c.there) (times.cmp-le l.end m.end (c.greatest q l at passes)) in
      let alike : time_cmp (end_of (slice_get ls q)) (end_of (slice_get ls p)) ≡ Equal → l.end ≡ m.end = λ x. times.cmp-Equal l.end m.end (rw (at, c.there) at x) in
      joined (time_cmp (end_of (slice_get ls q)) (end_of (slice_get ls p))) (slice_cmp time_cmp (ends ls qs) (ends ls ps)) (nat_cmp p q) (slice_cmp nat_cmp ps qs) le
      (λ x. low p q (c.lowest q l at passes (alike x)))
      (λ x. again m l qs same on (alike x) (λ zs g d. walks-best by (Some m) ps zs w g d))
    where
      none : (ps : List ℕ) → length ps ≡ 0 → is_le (ordering_then (slice_cmp time_cmp (ends ls []) (ends ls ps)) (slice_cmp nat_cmp ps [])) ≡ true
      none [] e = refl
      none (p ∷ ps) e = absurd (omega arith)

      again : (m l : Layer) (qs : List ℕ) → length ps ≡ length qs → GoesOn r ls (Some l) qs → l.end ≡ m.end → ((zs : List ℕ) → GoesOn r ls (Some m) zs → length ps ≡ length zs → is_le (ordering_then (slice_cmp time_cmp (ends ls zs) (ends ls ps)) (slice_cmp nat_cmp ps zs)) ≡ true) → is_le (ordering_then (slice_cmp time_cmp (ends ls qs) (ends ls ps)) (slice_cmp nat_cmp ps qs)) ≡ true
      again m l [] same on x ih = none ps same
      again m l (q ∷ qs) same (n, at, goes, on) x ih = ih (q ∷ qs) (n, at, sym (by l m n x) ∙ goes, on) same

  -- where no layer may start with fewer to go, no way is shorter
  pub none-shorter : (k : ℕ) → ((j : ℕ) → j < k → list_any (λ l. r.follows None l && can r ls j l) ls ≡ false) → (qs : List ℕ) → IsWay r ls qs → k < length qs
  none-shorter k none [] h = absurd h
  none-shorter k none (q ∷ qs) (l, at, goes, on) = elim (cases_le k (length qs)) [ inl h ↦ omega arith | inr h ↦ absurd (true≢false (sym (list_any-at (λ l. r.follows None l && can r ls (length qs) l) ls q l at (and-both (r.follows None l) (can r ls (length qs) l) goes (can-from l qs on))) ∙ none (length qs) h)) ]
    where
      cases_le : (k n : ℕ) → (k ≤ n) ⊎ (n < k)
      cases_le k n = elim (cases_lt n k) [ inl h ↦ inr h | inr h ↦ inl h ]

  -- a walk from the start with the fewest layers is the best way
  pub walks-IsBestWay : IsByEnd r → (p : ℕ) (ps : List ℕ) → Walks r ls None (p ∷ ps) → ((j : ℕ) → j < length ps → list_any (λ l. r.follows None l && can r ls j l) ls ≡ false) → IsBestWay r ls (p ∷ ps)
  walks-IsBestWay by p ps w none = record { way = walks-goes None p ps w; best = λ qs h. shorter qs h (none-shorter (length ps) none qs h) }
    where
      by_length : (a b : ℕ) (o : Ordering) → a ≤ b → (a ≡ b → is_le o ≡ true) → is_le (ordering_then (nat_cmp a b) o) ≡ true
      by_length a b Less h same = grind (arith, nat_tests)
      by_length a b Equal h same = grind (arith, nat_tests)
      by_length a b Greater h same = grind (arith, nat_tests)

      shorter : (qs : List ℕ) → IsWay r ls qs → length ps < length qs → is_le (way_cmp ls (p ∷ ps) qs) ≡ true
      shorter qs h lt = by_length (length (p ∷ ps)) (length qs) (ordering_then (slice_cmp time_cmp (ends ls qs) (ends ls (p ∷ ps))) (slice_cmp nat_cmp (p ∷ ps) qs)) (omega arith) (λ e. walks-best by None (p ∷ ps) qs w h e)

  -- no way has more layers than the list
  one_le : (a b : Bool) → (a ≡ true → b ≡ true) → cond a 1 0 ≤ cond b 1 0
  one_le true b h = rw (h refl) (omega arith)
  one_le false b h = omega arith

  count-le : (f g : Layer → Bool) → ((l : Layer) → f l ≡ true → g l ≡ true) → (xs : List Layer) → passing f xs ≤ passing g xs
  count-le f g sub [] = omega arith
  count-le f g sub (x ∷ xs) = let h = one_le (f x) (g x) (sub x) in let t = count-le f g sub xs in omega arith

  count-less : (f g : Layer → Bool) → ((l : Layer) → f l ≡ true → g l ≡ true) → (xs : List Layer) (i : ℕ) (l : Layer) → slice_get xs i ≡ Some l → f l ≡ false → g l ≡ true → passing f xs < passing g xs
  count-less f g sub [] i l at off on = cc
  count-less f g sub (x ∷ xs) zero l at off on =
      let e = some-is x l at in
      let off' : f x ≡ false = ap f e ∙ off in
      let on' : g x ≡ true = ap g e ∙ on in
      let t = count-le f g sub xs in
      rw (off', on') (omega arith)
  count-less f g sub (x ∷ xs) (suc i) l at off on = let h = one_le (f x) (g x) (sub x) in let t = count-less f g sub xs i l at off on in omega arith

  above : IsForward r ls → (p : ℕ) (l : Layer) (qs : List ℕ) → slice_get ls p ≡ Some l → GoesOn r ls (Some l) qs → length qs ≤ passing (λ m. time_lt l.start m.start) ls
  above fwd p l [] at h = omega arith
  above fwd p l (q ∷ qs) at (m, there, goes, on) =
      let later : time_lt l.start m.start ≡ true = fwd p l m at goes in
      let t = above fwd q m qs there on in
      let s = count-less (λ n. time_lt m.start n.start) (λ n. time_lt l.start n.start) (λ n h. times.lt-trans l.start m.start n.start later h) ls q m there (times.lt-irrefl m.start) later in
      omega arith

  pub way-length : IsForward r ls → (qs : List ℕ) → IsWay r ls qs → length qs ≤ length ls
  way-length fwd [] h = absurd h
  way-length fwd (q ∷ qs) (m, there, goes, on) =
      let t = above fwd q m qs there on in
      let s = count-less (λ n. time_lt m.start n.start) (λ _. true) (λ n h. refl) ls q m there (times.lt-irrefl m.start) refl in
      let u = passing-le (λ _. true) ls in
      omega arith
