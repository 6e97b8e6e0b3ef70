-- Which layers adjoining layers from zero reach.
use Rattle.std.proofs.Common.{◌≡◌, ℕ, zero, suc, Bool, true, false, ◌&&◌, ◌≤◌, ◌+◌, ◌-◌, sym, refl, ap, ◌∙◌, subst, List, [], ◌∷◌, ◌++◌, Option, Some, None, length, map, filter, cond, true≢false, arith, ◌⊎◌, inl, inr}
use Rattle.std.specs.List.{slice_get, list_any, fold}
use Rattle.std.proofs.lemmas.Bool.{or_cases, and_from, and_parts}
use Rattle.chain_resolver.specs.declared.layer.Layer.{Layer}
use Rattle.mvcc_keys.specs.Times.{Time, zero_time, time_lt, time_le, time_eq, later, latest, or_zero}
use Rattle.chain_resolver.specs.Ways.{GoesOn, IsWay, join_between}
use Rattle.chain_resolver.specs.Steps.{IsForward}
use Rattle.chain_resolver.specs.Cover.{IsReached}
use Rattle.chain_resolver.specs.Reaching.{reach, reached_times}
use Rattle.mvcc_keys.proofs.TimeOrder as times
use Rattle.chain_resolver.proofs.Walks as walks
use Rattle.list_laws.proofs.Bools as bools
use Rattle.list_laws.proofs.Options as options
use Rattle.chain_resolver.proofs.Choices.{list_any-found}

list_any-mono : (f g : Layer → Bool) → ((l : Layer) → f l ≡ true → g l ≡ true) → (xs : List Layer) → list_any f xs ≡ true → list_any g xs ≡ true
list_any-mono f g sub [] h = h
list_any-mono f g sub (x ∷ xs) h = elim (or_cases (f x) (list_any f xs) h) [ inl a ↦ bools.or-left (g x) (list_any g xs) (sub x a) | inr a ↦ bools.or-right (g x) (list_any g xs) (list_any-mono f g sub xs a) ]

module _ (ls : List Layer) where
  reach-more : (k : ℕ) (l : Layer) → reach ls k l ≡ true → reach ls (suc k) l ≡ true
  reach-more zero l h = absurd (true≢false (sym h))
  reach-more (suc k) l h = elim (or_cases (time_eq zero_time l.start) (list_any (λ m. time_eq m.end l.start && reach ls k m) ls) h) [
    | inl a ↦ bools.or-left (time_eq zero_time l.start) (list_any (λ m. time_eq m.end l.start && reach ls (suc k) m) ls) a
    | inr a ↦ bools.or-right (time_eq zero_time l.start) (list_any (λ m. time_eq m.end l.start && reach ls (suc k) m) ls) (list_any-mono (λ m. time_eq m.end l.start && reach ls k m) (λ m. time_eq m.end l.start && reach ls (suc k) m) (λ m e. let p = and_parts (time_eq m.end l.start) (reach ls k m) e in and_from (time_eq m.end l.start) (reach ls (suc k) m) p.0 (reach-more k m p.1)) ls a)
  ]

  reach-upto : (j k : ℕ) (l : Layer) → reach ls k l ≡ true → reach ls (j + k) l ≡ true
  reach-upto zero k l h = subst (λ (n : ℕ). reach ls n l ≡ true) (let e : k ≡ zero + k = omega arith in e) h
  reach-upto (suc j) k l h = subst (λ (n : ℕ). reach ls n l ≡ true) (let e : suc (j + k) ≡ suc j + k = omega arith in e) (reach-more (j + k) l (reach-upto j k l h))

  reach-at_most : (k n : ℕ) (l : Layer) → k ≤ n → reach ls k l ≡ true → reach ls n l ≡ true
  reach-at_most k n l h r = subst (λ (m : ℕ). reach ls m l ≡ true) (let e : (n - k) + k ≡ n = omega arith in e) (reach-upto (n - k) k l r)

  -- where a way from zero to y ends
  pub record Arrives (y : Time) (k : ℕ) : Type 0 where
    pub layer : Layer
    pub place : ℕ
    pub there : slice_get ls place ≡ Some layer
    pub ends : layer.end ≡ y
    pub reached : reach ls k layer ≡ true

  along : (y : Time) (k p : ℕ) (l : Layer) (qs : List ℕ) → slice_get ls p ≡ Some l → reach ls k l ≡ true → GoesOn (join_between zero_time y) ls (Some l) qs → Arrives y (k + length qs)
  along y k p l [] at r h = record { layer = l; place = p; there = at; ends = times.eq-is l.end y h; reached = subst (λ (n : ℕ). reach ls n l ≡ true) (let e : k ≡ k + 0 = omega arith in e) r }
  along y k p l (q ∷ qs) at r (m, there, goes, on) =
      let next : reach ls (suc k) m ≡ true = bools.or-right (time_eq zero_time m.start) (list_any (λ n. time_eq n.end m.start && reach ls k n) ls) (walks.list_any-at (λ n. time_eq n.end m.start && reach ls k n) ls p l at (and_from (time_eq l.end m.start) (reach ls k l) goes r)) in
      subst (λ (n : ℕ). Arrives y n) (let e : suc k + length qs ≡ k + length (q ∷ qs) = omega arith in e) (along y (suc k) q m qs there next on)

  way-Arrives : (y : Time) (ps : List ℕ) → IsWay (join_between zero_time y) ls ps → Arrives y (length ps)
  way-Arrives y [] h = absurd h
  way-Arrives y (p ∷ ps) (l, at, goes, on) = subst (λ (n : ℕ). Arrives y n) (let e : 1 + length ps ≡ length (p ∷ ps) = omega arith in e) (along y 1 p l ps at (bools.or-left (time_eq zero_time l.start) (list_any (λ n. time_eq n.end l.start && reach ls 0 n) ls) goes) on)

  -- one more layer at the end
  snoc : (x y : Time) (before : Option Layer) (ps : List ℕ) (p : ℕ) (l : Layer) → slice_get ls p ≡ Some l → time_eq x l.start ≡ true → time_eq l.end y ≡ true → GoesOn (join_between zero_time x) ls before ps → GoesOn (join_between zero_time y) ls before (ps ++ (p ∷ []))
  snoc x y None [] p l at follows ends h = absurd h
  snoc x y (Some k) [] p l at follows ends h = (l, at, subst (λ (t : Time). time_eq t l.start ≡ true) (sym (times.eq-is k.end x h)) follows, ends)
  snoc x y before (q ∷ qs) p l at follows ends (m, there, goes, on) = (m, there, goes, snoc x y (Some m) qs p l at follows ends on)

  reach-way : (k p : ℕ) (l : Layer) → slice_get ls p ≡ Some l → reach ls k l ≡ true → (ps : List ℕ) × IsWay (join_between zero_time l.end) ls ps
  reach-way zero p l at h = absurd (true≢false (sym h))
  reach-way (suc k) p l at h = elim (or_cases (time_eq zero_time l.start) (list_any (λ m. time_eq m.end l.start && reach ls k m) ls) h) [
    | inl a ↦ (p ∷ [], (l, at, a, times.eq-refl l.end))
    | inr a ↦ more (list_any-found (λ m. time_eq m.end l.start && reach ls k m) ls a) (λ q m there r. reach-way k q m there r)
  ]
    where
      more : (q : ℕ) × (m : Layer) × (slice_get ls q ≡ Some m) × ((time_eq m.end l.start && reach ls k m) ≡ true) → ((q : ℕ) (m : Layer) → slice_get ls q ≡ Some m → reach ls k m ≡ true → (ps : List ℕ) × IsWay (join_between zero_time m.end) ls ps) → (ps : List ℕ) × IsWay (join_between zero_time l.end) ls ps
      more (q, m, there, e) ih = let parts = and_parts (time_eq m.end l.start) (reach ls k m) e in last (ih q m there parts.1) parts.0
        where
          last : (ps : List ℕ) × IsWay (join_between zero_time m.end) ls ps → time_eq m.end l.start ≡ true → (ps : List ℕ) × IsWay (join_between zero_time l.end) ls ps
          last (ps, way) f = (ps ++ (p ∷ []), snoc m.end l.end None ps p l at f (times.eq-refl l.end) way)

abbrev pub Among : {X : Type 0} → X → List X → Type 0
Among x [] = ⊥
Among x (y ∷ ys) = (x ≡ y) ⊎ Among x ys

abbrev IsLatest : Option Time → List Time → Option Time → Type 0
IsLatest best ts None = (best ≡ None) × ((y : Time) → Among y ts → ⊥)
IsLatest best ts (Some x) = ((best ≡ Some x) ⊎ Among x ts) × ((y : Time) → (best ≡ Some y) ⊎ Among y ts → time_le y x ≡ true)

latest-is : (best : Option Time) (ts : List Time) → IsLatest best ts (fold later best ts)
latest-is None [] = (refl, λ y h. h)
latest-is (Some x) [] = (inl refl, λ y. elim [ inl e ↦ subst (λ (z : Time). time_le z x ≡ true) (options.some-is x y e) (times.le-refl x) | inr h ↦ absurd h ])
latest-is None (t ∷ ts) = first (fold later (Some t) ts) (latest-is (Some t) ts)
  where
    first : (o : Option Time) → IsLatest (Some t) ts o → IsLatest None (t ∷ ts) o
    first None (e, h) = absurd (no e)
      where
        no : Some t ≡ None → ⊥
        no e = cc
    first (Some x) (is, most) = (elim is [ inl e ↦ inr (inl (sym (options.some-is t x e))) | inr a ↦ inr (inr a) ], λ y. elim [ inl e ↦ absurd (no e) | inr a ↦ most y (elim a [ inl e ↦ inl (ap Some (sym e)) | inr b ↦ inr b ]) ])
      where
        no : {y : Time} → None ≡ Some y → ⊥
        no e = cc
latest-is (Some s) (t ∷ ts) = by (time_lt s t) refl (latest-is (Some t) ts) (latest-is (Some s) ts)
  where
    keep : (a b : Time) (o : Option Time) → time_le b a ≡ true → (a ≡ s) ⊎ (a ≡ t) → ((y : Time) → (y ≡ s) ⊎ (y ≡ t) → (y ≡ a) ⊎ (y ≡ b)) → IsLatest (Some a) ts o → IsLatest (Some s) (t ∷ ts) o
    keep a b None le one two (e, h) = absurd (no e)
      where
        no : Some a ≡ None → ⊥
        no e = cc
    keep a b (Some x) le one two (is, most) = (
      elim is [ inl e ↦ elim one [ inl f ↦ inl (ap Some (sym f) ∙ e) | inr f ↦ inr (inl (sym (options.some-is a x e) ∙ f)) ] | inr h ↦ inr (inr h) ],
      λ y. elim [ inl e ↦ early y (two y (inl (sym (options.some-is s y e)))) | inr h ↦ elim h [ inl e ↦ early y (two y (inr e)) | inr k ↦ most y (inr k) ] ],
    )
      where
        early : (y : Time) → (y ≡ a) ⊎ (y ≡ b) → time_le y x ≡ true
        early y (inl e) = most y (inl (ap Some (sym e)))
        early y (inr e) = times.le-trans y a x (subst (λ (z : Time). time_le z a ≡ true) (sym e) le) (most a (inl refl))

    by : (c : Bool) → time_lt s t ≡ c → IsLatest (Some t) ts (fold later (Some t) ts) → IsLatest (Some s) ts (fold later (Some s) ts) → IsLatest (Some s) (t ∷ ts) (fold later (cond c (Some t) (Some s)) ts)
    by true lt ht hs = keep t s (fold later (Some t) ts) (times.lt-le s t lt) (inr refl) (λ y. elim [ inl e ↦ inr e | inr e ↦ inl e ]) ht
    by false ge ht hs = keep s t (fold later (Some s) ts) (times.not_lt-le s t ge) (inl refl) (λ y. elim [ inl e ↦ inl e | inr e ↦ inr e ]) hs

module _ (ls : List Layer) (t : Time) (n : ℕ) where
  passes : Layer → Bool
  passes l = time_lt l.end t && reach ls n l

  among-there : (xs : List Layer) (q : ℕ) (l : Layer) → slice_get xs q ≡ Some l → (time_lt l.end t && reach ls n l) ≡ true → Among l.end (map (λ l. l.end) (filter (λ l. time_lt l.end t && reach ls n l) xs))
  among-there [] q l at h = cc
  among-there (x ∷ xs) zero l at h = rw (ap (λ (y : Layer). time_lt y.end t && reach ls n y) (options.some-is x l at) ∙ h) (inl (ap (λ (y : Layer). y.end) (sym (options.some-is x l at))))
  among-there (x ∷ xs) (suc q) l at h = by (time_lt x.end t && reach ls n x) (among-there xs q l at h)
    where
      by : (b : Bool) → Among l.end (map (λ l. l.end) (filter (λ l. time_lt l.end t && reach ls n l) xs)) → Among l.end (map (λ l. l.end) (cond b (x ∷ filter (λ l. time_lt l.end t && reach ls n l) xs) (filter (λ l. time_lt l.end t && reach ls n l) xs)))
      by true k = inr k
      by false k = k

  there-among : (xs : List Layer) (y : Time) → Among y (map (λ l. l.end) (filter (λ l. time_lt l.end t && reach ls n l) xs)) → (q : ℕ) × (l : Layer) × (slice_get xs q ≡ Some l) × (y ≡ l.end) × ((time_lt l.end t && reach ls n l) ≡ true)
  there-among [] y h = absurd h
  there-among (x ∷ xs) y h = by (time_lt x.end t && reach ls n x) refl h (λ k. there-among xs y k)
    where
      later-place : (q : ℕ) × (l : Layer) × (slice_get xs q ≡ Some l) × (y ≡ l.end) × ((time_lt l.end t && reach ls n l) ≡ true) → (q : ℕ) × (l : Layer) × (slice_get (x ∷ xs) q ≡ Some l) × (y ≡ l.end) × ((time_lt l.end t && reach ls n l) ≡ true)
      later-place (q, l, at, e, p) = (suc q, l, at, e, p)

      by : (b : Bool) → (time_lt x.end t && reach ls n x) ≡ b → Among y (map (λ l. l.end) (cond b (x ∷ filter (λ l. time_lt l.end t && reach ls n l) xs) (filter (λ l. time_lt l.end t && reach ls n l) xs))) → (Among y (map (λ l. l.end) (filter (λ l. time_lt l.end t && reach ls n l) xs)) → (q : ℕ) × (l : Layer) × (slice_get xs q ≡ Some l) × (y ≡ l.end) × ((time_lt l.end t && reach ls n l) ≡ true)) → (q : ℕ) × (l : Layer) × (slice_get (x ∷ xs) q ≡ Some l) × (y ≡ l.end) × ((time_lt l.end t && reach ls n l) ≡ true)
      by true e (inl k) ih = (0, x, refl, k, e)
      by true e (inr k) ih = later-place (ih k)
      by false e k ih = later-place (ih k)

-- what the last row of the table says is what is reached
pub reached-is : (ls : List Layer) (t : Time) → ((y : Time) → IsForward (join_between zero_time y) ls) → IsReached ls t (or_zero (latest (reached_times ls t (length ls))))
reached-is ls t fwd = by (latest (reached_times ls t (length ls))) (latest-is None (reached_times ls t (length ls)))
  where
    arrives : (y : Time) (ps : List ℕ) → time_lt y t ≡ true → IsWay (join_between zero_time y) ls ps → Among y (reached_times ls t (length ls))
    arrives y ps lt way =
        let a = way-Arrives ls y ps way in
        let short : length ps ≤ length ls = walks.way-length (join_between zero_time y) ls (fwd y) ps way in
        subst (λ (z : Time). Among z (reached_times ls t (length ls))) a.ends (among-there ls t (length ls) ls a.place a.layer a.there (and_from (time_lt a.layer.end t) (reach ls (length ls) a.layer) (subst (λ (z : Time). time_lt z t ≡ true) (sym a.ends) lt) (reach-at_most ls (length ps) (length ls) a.layer short a.reached)))

    way-to : (x : Time) → (q : ℕ) × (l : Layer) × (slice_get ls q ≡ Some l) × (x ≡ l.end) × ((time_lt l.end t && reach ls (length ls) l) ≡ true) → (time_lt x t ≡ true) × (ps : List ℕ) × IsWay (join_between zero_time x) ls ps
    way-to x (q, l, at, e, p) = let parts = and_parts (time_lt l.end t) (reach ls (length ls) l) p in end (reach-way ls (length ls) q l at parts.1) parts.0
      where
        end : (ps : List ℕ) × IsWay (join_between zero_time l.end) ls ps → time_lt l.end t ≡ true → (time_lt x t ≡ true) × (ps : List ℕ) × IsWay (join_between zero_time x) ls ps
        end (ps, way) lt = (subst (λ (z : Time). time_lt z t ≡ true) (sym e) lt, ps, subst (λ (z : Time). IsWay (join_between zero_time z) ls ps) (sym e) way)

    no : {y : Time} → None ≡ Some y → ⊥
    no e = cc

    by : (o : Option Time) → IsLatest None (reached_times ls t (length ls)) o → IsReached ls t (or_zero o)
    by None (e, h) = record { is = inl refl; greatest = λ y ps lt way. absurd (h y (arrives y ps lt way)) }
    by (Some x) (is, most) = record {
      is = inr (way-to x (there-among ls t (length ls) ls x (elim is [ inl e ↦ absurd (no e) | inr a ↦ a ])));
      greatest = λ y ps lt way. most y (inr (arrives y ps lt way));
    }
