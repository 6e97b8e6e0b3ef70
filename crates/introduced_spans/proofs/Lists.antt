-- Lists that are filtered and mapped, and the order of times.
use Rattle.std.proofs.Common.{◌≡◌, Bool, true, false, cond, refl, ap, ◌∙◌, ℕ, zero, suc, ◌+◌, ◌<◌, ◌≤◌, arith, List, [], ◌∷◌, map, filter, Some, None}
use Rattle.std.specs.List.{AllByRecursion, find, range_with_len}
use Rattle.std.proofs.lemmas.Bool.Decides.{nat_tests}
use Rattle.mvcc_keys.specs.Times.{Time, time_lt, time_le}
use Rattle.introduced_spans.specs.Publicity.{later}
use Rattle.introduced_spans.specs.Spans.{greatest_threshold}
use Rattle.list_laws.proofs.Members.{all-weaker}
use Rattle.mvcc_keys.proofs.TimeOrder.{le-trans, le-refl, le-later, le-later_second, not_lt-le}

-- ---- lists

module _ {X : Type 0} where
  -- what holds of each element that passes
  pub all-filter : (P Q : X → Type 0) (p : X → Bool) → ((x : X) → p x ≡ true → P x → Q x) → (xs : List X) → AllByRecursion P xs → AllByRecursion Q (filter p xs)
  all-filter P Q p f [] h = tt
  all-filter P Q p f (x ∷ xs) h = by (p x) refl (all-filter P Q p f xs h.1)
    where
      by : (b : Bool) → p x ≡ b → AllByRecursion Q (filter p xs) → AllByRecursion Q (cond b (x ∷ filter p xs) (filter p xs))
      by true e more = (f x e h.0, more)
      by false e more = more

  pub all-unfilter : (P : X → Type 0) (p : X → Bool) (xs : List X) → AllByRecursion P (filter p xs) → AllByRecursion (λ x. p x ≡ true → P x) xs
  all-unfilter P p [] h = tt
  all-unfilter P p (x ∷ xs) h = by (p x) (all-unfilter P p xs) h
    where
      by : (b : Bool) → (AllByRecursion P (filter p xs) → AllByRecursion (λ x. p x ≡ true → P x) xs) → AllByRecursion P (cond b (x ∷ filter p xs) (filter p xs)) → (b ≡ true → P x) × AllByRecursion (λ x. p x ≡ true → P x) xs
      by true more h = (λ _. h.0, more h.1)
      by false more h = (λ e. cc e, more h)

  pub all-both : (P Q : X → Type 0) (xs : List X) → AllByRecursion P xs → AllByRecursion Q xs → AllByRecursion (λ x. P x × Q x) xs
  all-both P Q [] h i = tt
  all-both P Q (x ∷ xs) h i = ((h.0, i.0), all-both P Q xs h.1 i.1)

  pub all-true : (Q : X → Type 0) → ((x : X) → Q x) → (xs : List X) → AllByRecursion Q xs
  all-true Q f [] = tt
  all-true Q f (x ∷ xs) = (f x, all-true Q f xs)

  pub all-map : {Y : Type 0} (P : Y → Type 0) (f : X → Y) (xs : List X) → AllByRecursion (λ x. P (f x)) xs → AllByRecursion P (map f xs)
  all-map P f [] h = tt
  all-map P f (x ∷ xs) h = (h.0, all-map P f xs h.1)

  pub map-same : {Y : Type 0} (f g : X → Y) (xs : List X) → AllByRecursion (λ x. f x ≡ g x) xs → map f xs ≡ map g xs
  map-same f g [] h = refl
  map-same f g (x ∷ xs) h = rw (h.0, map-same f g xs h.1) refl

  pub find-none : (p : X → Bool) (xs : List X) → find p xs ≡ None → AllByRecursion (λ x. p x ≡ false) xs
  find-none p [] e = tt
  find-none p (x ∷ xs) e = by (p x) refl (find-none p xs) e
    where
      by : (b : Bool) → p x ≡ b → (find p xs ≡ None → AllByRecursion (λ x. p x ≡ false) xs) → cond b (Some x) (find p xs) ≡ None → AllByRecursion (λ x. p x ≡ false) (x ∷ xs)
      by true i more e = cc e
      by false i more e = (i, more e)

  pub none-found : (p : X → Bool) (xs : List X) → AllByRecursion (λ x. p x ≡ false) xs → find p xs ≡ None
  none-found p [] h = refl
  none-found p (x ∷ xs) h = ap (λ (b : Bool). cond b (Some x) (find p xs)) h.0 ∙ none-found p xs h.1

pub range-all : (a n : ℕ) → AllByRecursion (λ i. (a ≤ i) × (i < a + n)) (range_with_len a n)
range-all a zero = tt
range-all a (suc n) = ((omega arith, omega arith), all-weaker (λ i. (a + 1 ≤ i) × (i < (a + 1) + n)) (λ i. (a ≤ i) × (i < a + suc n)) (λ i h. (omega (arith, h.0), omega (arith, h.1))) (range_with_len (a + 1) n) (range-all (a + 1) n))

-- ---- times

pub lt-past : (r s t : Time) → time_lt r s ≡ true → time_le r t ≡ false → time_le s t ≡ false
lt-past r s t p q = grind (arith, nat_tests)

pub later-left : (s t : Time) → time_le s (later s t) ≡ true
later-left s t = le-later s t

pub later-right : (s t : Time) → time_le t (later s t) ≡ true
later-right s t = le-later_second s t

pub later-upto : (s t e : Time) → time_le s e ≡ true → time_le t e ≡ true → time_le (later s t) e ≡ true
later-upto s t e p q = by (time_lt s t)
  where
    by : (b : Bool) → time_le (cond b t s) e ≡ true
    by true = q
    by false = p

-- ---- the greatest threshold

pub greatest-from : (threshold : ℕ → Time) (start : Time) (ids : List ℕ) → time_le start (greatest_threshold threshold start ids) ≡ true
greatest-from threshold start [] = le-refl start
greatest-from threshold start (id ∷ ids) = le-trans start (later start (threshold id)) (greatest_threshold threshold (later start (threshold id)) ids) (later-left start (threshold id)) (greatest-from threshold (later start (threshold id)) ids)

pub greatest-all : (threshold : ℕ → Time) (start : Time) (ids : List ℕ) → AllByRecursion (λ id. time_le (threshold id) (greatest_threshold threshold start ids) ≡ true) ids
greatest-all threshold start [] = tt
greatest-all threshold start (id ∷ ids) = (le-trans (threshold id) (later start (threshold id)) (greatest_threshold threshold (later start (threshold id)) ids) (later-right start (threshold id)) (greatest-from threshold (later start (threshold id)) ids), greatest-all threshold (later start (threshold id)) ids)

pub greatest-upto : (threshold : ℕ → Time) (start end : Time) (ids : List ℕ) → time_le start end ≡ true → AllByRecursion (λ id. time_lt end (threshold id) ≡ false) ids → time_le (greatest_threshold threshold start ids) end ≡ true
greatest-upto threshold start end [] p h = p
greatest-upto threshold start end (id ∷ ids) p h = greatest-upto threshold (later start (threshold id)) end ids (later-upto start (threshold id) end p (not_lt-le end (threshold id) h.0)) h.1
