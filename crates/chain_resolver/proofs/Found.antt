-- What is found among all lists of places is the best way.
use Rattle.std.proofs.Common.{◌≡◌, ℕ, zero, suc, Bool, true, false, not, ◌&&◌, ◌||◌, ◌≤◌, ◌<◌, ◌+◌, sym, refl, ap, ◌∙◌, subst, List, [], ◌∷◌, ◌++◌, Option, Some, None, length, map, cond, true≢false, arith, ◌⊎◌, inl, inr}
use Rattle.std.specs.List.{slice_get, list_all, find, flat_map, range_with_len}
use Rattle.std.specs.Ordering.{is_le}
use Rattle.std.proofs.lemmas.Bool.{cases_lt, and_from, and_parts}
use Rattle.std.proofs.lemmas.Option.{slice_get_within}
use Rattle.mvcc_keys.specs.Times.{Time, zero_time}
use Rattle.chain_resolver.specs.declared.layer.Layer.{Layer}
use Rattle.chain_resolver.specs.declared.task.Task.TheVariants.{Chain as ChainTask, Join}
use Rattle.chain_resolver.specs.declared.faults.CoverFault.{CoverFault}
use Rattle.chain_resolver.specs.declared.faults.CoverFault.TheVariants.{NotCovered, HistoryCollected, NeedsHistory, Gap, Memory}
use Rattle.chain_resolver.specs.Ways.{AreOrdered, Route, GoesOn, IsBestWay, NoWay, chain_to, way_cmp}
use Rattle.chain_resolver.specs.Steps.{IsForward}
use Rattle.chain_resolver.specs.Cover.{IsReason, CoverFaultIs, reason}
use Rattle.chain_resolver.specs.Best.{is_passing, goes_on, is_way, lists_below, candidates, is_best, best_way, Chain, Uncovered, cover_of, reached, cover, UncoveredBy, CoversAreFound}
use Rattle.list_laws.proofs.Bools.{not-or}
use Rattle.chain_resolver.proofs.Best.{unique, reason-unique}
use Rattle.chain_resolver.proofs.Covers.{route-IsForward}
use Rattle.chain_resolver.proofs.Reach.{Among, reached-is}
use Rattle.chain_resolver.proofs.Walks.{way-length}

-- ---- lists

all-true : {X : Type 0} (f : X → Bool) → ((x : X) → f x ≡ true) → (xs : List X) → list_all f xs ≡ true
all-true f h [] = refl
all-true f h (x ∷ xs) = and_from (f x) (list_all f xs) (h x) (all-true f h xs)

all-at : {X : Type 0} (f : X → Bool) (xs : List X) (x : X) → Among x xs → list_all f xs ≡ true → f x ≡ true
all-at f [] x a h = absurd a
all-at f (y ∷ ys) x (inl e) h = ap f e ∙ (and_parts (f y) (list_all f ys) h).0
all-at f (y ∷ ys) x (inr a) h = all-at f ys x a (and_parts (f y) (list_all f ys) h).1

find-some : {X : Type 0} (f : X → Bool) (xs : List X) (x : X) → Among x xs → f x ≡ true → (y : X) × (find f xs ≡ Some y) × (f y ≡ true)
find-some f [] x a h = absurd a
find-some {X = X} f (y ∷ ys) x a h = by (f y) refl a (λ b. find-some f ys x b h)
  where
    by : (b : Bool) → f y ≡ b → (x ≡ y) ⊎ Among x ys → (Among x ys → (z : X) × (find f ys ≡ Some z) × (f z ≡ true)) → (z : X) × (cond b (Some y) (find f ys) ≡ Some z) × (f z ≡ true)
    by true e a more = (y, refl, e)
    by false e (inl s) more = absurd (true≢false (sym h ∙ ap f s ∙ e))
    by false e (inr a) more = more a

find-none : {X : Type 0} (f : X → Bool) → ((x : X) → f x ≡ false) → (xs : List X) → find f xs ≡ None
find-none f h [] = refl
find-none f h (x ∷ xs) = ap (λ (b : Bool). cond b (Some x) (find f xs)) (h x) ∙ find-none f h xs

among-left : {X : Type 0} (xs ys : List X) (x : X) → Among x xs → Among x (xs ++ ys)
among-left [] ys x a = absurd a
among-left (z ∷ zs) ys x (inl e) = inl e
among-left (z ∷ zs) ys x (inr a) = inr (among-left zs ys x a)

among-right : {X : Type 0} (xs ys : List X) (x : X) → Among x ys → Among x (xs ++ ys)
among-right [] ys x a = a
among-right (z ∷ zs) ys x a = inr (among-right zs ys x a)

among-flat : {X Y : Type 0} (f : X → List Y) (xs : List X) (x : X) (y : Y) → Among x xs → Among y (f x) → Among y (flat_map f xs)
among-flat f [] x y a b = absurd a
among-flat f (z ∷ zs) x y (inl e) b = among-left (f z) (flat_map f zs) y (subst (λ w. Among y (f w)) e b)
among-flat f (z ∷ zs) x y (inr a) b = among-right (f z) (flat_map f zs) y (among-flat f zs x y a b)

among-map : (p : ℕ) (pss : List (List ℕ)) (ps : List ℕ) → Among ps pss → Among (p ∷ ps) (map (λ qs. p ∷ qs) pss)
among-map p [] ps a = absurd a
among-map p (qs ∷ pss) ps (inl e) = inl (ap (λ (rs : List ℕ). p ∷ rs) e)
among-map p (qs ∷ pss) ps (inr a) = inr (among-map p pss ps a)

among-range : (a n p : ℕ) → a ≤ p → p < a + n → Among p (range_with_len a n)
among-range a zero p le lt = absurd (omega arith)
among-range a (suc n) p le lt = elim (cases_lt a p) [ inl h ↦ inr (among-range (a + 1) n p (omega arith) (omega arith)) | inr h ↦ inl (omega arith) ]

-- ---- ways

module _ (r : Route) (ls : List Layer) where
  goes-is : (before : Option Layer) (ps : List ℕ) → goes_on r ls before ps ≡ true → GoesOn r ls before ps
  goes-is None [] h = absurd (true≢false (sym h))
  goes-is (Some l) [] h = h
  goes-is before (p ∷ ps) h = at (slice_get ls p) refl h (λ l. goes-is (Some l) ps)
    where
      at : (o : Option Layer) → slice_get ls p ≡ o → is_passing (λ l. r.follows before l && goes_on r ls (Some l) ps) o ≡ true → ((l : Layer) → goes_on r ls (Some l) ps ≡ true → GoesOn r ls (Some l) ps) → GoesOn r ls before (p ∷ ps)
      at None e h more = absurd (true≢false (sym h))
      at (Some l) e h more = let both = and_parts (r.follows before l) (goes_on r ls (Some l) ps) h in (l, e, both.0, more l both.1)

  is-goes : (before : Option Layer) (ps : List ℕ) → GoesOn r ls before ps → goes_on r ls before ps ≡ true
  is-goes None [] h = absurd h
  is-goes (Some l) [] h = h
  is-goes before (p ∷ ps) (l, at, follows, on) =
      ap (is_passing (λ l. r.follows before l && goes_on r ls (Some l) ps)) at ∙ and_from (r.follows before l) (goes_on r ls (Some l) ps) follows (is-goes (Some l) ps on)

  listed : (k : ℕ) (before : Option Layer) (ps : List ℕ) → length ps ≤ k → GoesOn r ls before ps → Among ps (lists_below (length ls) k)
  listed zero before [] le h = inl refl
  listed (suc k) before [] le h = inl refl
  listed zero before (p ∷ ps) le h = absurd (omega arith)
  listed (suc k) before (p ∷ ps) le (l, at, follows, on) =
      let within = slice_get_within ls p l at in
      inr (among-flat (λ q. map (λ qs. q ∷ qs) (lists_below (length ls) k)) (range_with_len 0 (length ls)) p (p ∷ ps) (among-range 0 (length ls) p (omega arith) (omega arith))
      (among-map p (lists_below (length ls) k) ps (listed k (Some l) ps (omega arith) on)))

  among-candidates : IsForward r ls → (ps : List ℕ) → GoesOn r ls None ps → Among ps (candidates ls)
  among-candidates fwd ps h = listed (length ls) None ps (way-length r ls fwd ps h) h

  test-best : (ps : List ℕ) → IsBestWay r ls ps → is_best r ls ps ≡ true
  test-best ps h = and_from (is_way r ls ps) (list_all (λ qs. not (is_way r ls qs) || is_le (way_cmp ls ps qs)) (candidates ls)) (is-goes None ps h.way)
      (all-true (λ qs. not (is_way r ls qs) || is_le (way_cmp ls ps qs)) (λ qs. by qs (is_way r ls qs) refl) (candidates ls))
    where
      by : (qs : List ℕ) (b : Bool) → is_way r ls qs ≡ b → (not b || is_le (way_cmp ls ps qs)) ≡ true
      by qs true e = h.best qs (goes-is None qs e)
      by qs false e = refl

  best-test : IsForward r ls → (ps : List ℕ) → is_best r ls ps ≡ true → IsBestWay r ls ps
  best-test fwd ps h =
      let both = and_parts (is_way r ls ps) (list_all (λ qs. not (is_way r ls qs) || is_le (way_cmp ls ps qs)) (candidates ls)) h in
      record {
        way = goes-is None ps both.0;
        best = λ qs way. not-or (is_way r ls qs) (is_le (way_cmp ls ps qs)) (is-goes None qs way) (all-at (λ qs. not (is_way r ls qs) || is_le (way_cmp ls ps qs)) (candidates ls) qs (among-candidates fwd qs way) both.1);
      }

  found : IsForward r ls → (ps : List ℕ) → IsBestWay r ls ps → best_way r ls ≡ Some ps
  unfolding best_way
  found fwd ps h = same (find-some (is_best r ls) (candidates ls) ps (among-candidates fwd ps h.way) (test-best ps h))
    where
      same : (qs : List ℕ) × (find (is_best r ls) (candidates ls) ≡ Some qs) × (is_best r ls qs ≡ true) → find (is_best r ls) (candidates ls) ≡ Some ps
      same (qs, e, is) = e ∙ ap Some (unique r ls qs ps (best-test fwd qs is) h)

  not-found : NoWay r ls → best_way r ls ≡ None
  unfolding best_way
  not-found none = find-none (is_best r ls) (λ ps. by ps (is_way r ls ps) (list_all (λ qs. not (is_way r ls qs) || is_le (way_cmp ls ps qs)) (candidates ls)) refl) (candidates ls)
    where
      by : (ps : List ℕ) (b c : Bool) → is_way r ls ps ≡ b → (b && c) ≡ false
      by ps true c e = absurd (none ps (goes-is None ps e))
      by ps false c e = refl

-- ---- covers

pub chain-found : (ls : List Layer) (t : Time) (ps : List ℕ) → AreOrdered ls → IsBestWay (chain_to t) ls ps → cover ls t ≡ Chain ps
unfolding cover
chain-found ls t ps ordered h = ap (λ (o : Option (List ℕ)). cover_of o (reason ls t (reached ls t))) (found (chain_to t) ls (route-IsForward (ChainTask t) ls ordered) ps h)

reason-found : (ls : List Layer) (t : Time) (f : CoverFault) → AreOrdered ls → IsReason ls t f → cover ls t ≡ Uncovered f
unfolding cover
reason-found ls t f ordered h =
    let is : IsReason ls t (reason ls t (reached ls t)) = record { none = h.none; reached = reached ls t; reach = reached-is ls t (λ y. route-IsForward (Join zero_time y) ls ordered); first = refl } in
    ap (λ (o : Option (List ℕ)). cover_of o (reason ls t (reached ls t))) (not-found (chain_to t) ls h.none) ∙ ap Uncovered (reason-unique ls t (reason ls t (reached ls t)) f is h)

pub fault-found : (ls : List Layer) (t : Time) (f : CoverFault) → AreOrdered ls → CoverFaultIs ls t f → UncoveredBy f (cover ls t)
fault-found ls t Memory ordered h = tt
fault-found ls t (NotCovered a b) ordered h = reason-found ls t (NotCovered a b) ordered h
fault-found ls t (HistoryCollected a) ordered h = reason-found ls t (HistoryCollected a) ordered h
fault-found ls t (NeedsHistory a b) ordered h = reason-found ls t (NeedsHistory a b) ordered h
fault-found ls t (Gap a b) ordered h = reason-found ls t (Gap a b) ordered h

pub covers-found : CoversAreFound
covers-found = record {
  best = λ ls t ps ordered h. found (chain_to t) ls (route-IsForward (ChainTask t) ls ordered) ps h;
  none = λ ls t ordered h. not-found (chain_to t) ls h;
  chain = chain-found;
  fault = fault-found;
}
