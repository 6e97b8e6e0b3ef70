-- The loop over keys finds the first that came before.
use Rattle.std.proofs.Common.{◌≡◌, ℕ, zero, suc, ◌+◌, ◌<◌, Bool, true, false, List, [], ◌∷◌, ◌++◌, length, Option, Some, None, inl, inr, arith, refl, sym, ap, ◌∙◌, append_assoc, length-append, nat_lt, nat_eq, slice_get}
use Rattle.std.specs.List.{list_any}
use Rattle.std.specs.Ordering.{is_eq}
use Rattle.std.specs.declared.cmp.Ordering.{Ordering}
use Rattle.std.proofs.lemmas.Bool.{cases_Bool}
use Rattle.std.proofs.lemmas.Bool.Decides.{nat_tests}
use Rattle.history_model.specs.Rows.{Key}
use Rattle.history_model.specs.RowTests.{repeated_after}
use Rattle.history_model.specs.RepeatLaws.{ComesAgain, FirstRepeatsAreNamed}

-- ---- places

got-front : {X : Type 0} (xs ys : List X) (i : ℕ) → i < length xs → slice_get (xs ++ ys) i ≡ slice_get xs i
got-front [] ys i l = absurd (omega (arith, l))
got-front (x ∷ xs) ys zero l = refl
got-front (x ∷ xs) ys (suc i) l = got-front xs ys i (omega (arith, l))

got-next : {X : Type 0} (xs : List X) (y : X) (ys : List X) → slice_get (xs ++ y ∷ ys) (length xs) ≡ Some y
got-next [] y ys = refl
got-next (x ∷ xs) y ys = got-next xs y ys

-- some element passes a test, at a place
any-place : {X : Type 0} (test : X → Bool) (xs : List X) → list_any test xs ≡ true → (i : ℕ) × (x : X) × (i < length xs) × (slice_get xs i ≡ Some x) × (test x ≡ true)
any-place test [] h = absurd (cc)
any-place test (x ∷ xs) h =
    elim (cases_Bool (test x)) [
      | inl t ↦ (0, x, omega arith, refl, t)
      | inr f ↦
          let h' : list_any test xs ≡ true = rw f at h in
          let p = any-place test xs h' in
          let l = p.2 in
          (suc p.0, p.1, omega (arith, l), p.3, p.4)
    ]

some_is : {X : Type 0} (x y : X) → (let u : Option X = Some x in u) ≡ Some y → x ≡ y
some_is x y e = cc

place-any : {X : Type 0} (test : X → Bool) (xs : List X) (i : ℕ) (x : X) → slice_get xs i ≡ Some x → test x ≡ true → list_any test xs ≡ true
place-any test [] i x g t = absurd (cc)
place-any test (y ∷ xs) zero x g t = let is : test y ≡ true = rw (some_is y x g) t in rw is refl
place-any test (y ∷ xs) (suc i) x g t =
    let rest = place-any test xs i x g t in
    elim (cases_Bool (test y)) [ inl a ↦ rw a refl | inr a ↦ rw a rest ]

within : {X : Type 0} (xs : List X) (i : ℕ) (x : X) → slice_get xs i ≡ Some x → i < length xs
within [] i x g = absurd (cc)
within (y ∷ xs) zero x g = omega arith
within (y ∷ xs) (suc i) x g = let l = within xs i x g in omega (arith, l)

-- ---- the loop

-- no key up to a place ties with an earlier one
abbrev NoneUpTo : (Key → Key → Ordering) → List Key → ℕ → Type 0
NoneUpTo cmp keys place = (k : ℕ) → k < place → ComesAgain cmp keys k → ⊥

abbrev Found : (Key → Key → Ordering) → List Key → Option ℕ → Type 0
Found cmp keys (Some n) = (place : ℕ) × (n ≡ place + 1) × ComesAgain cmp keys place × NoneUpTo cmp keys place
Found cmp keys None = (place : ℕ) → ComesAgain cmp keys place → ⊥

again : (cmp : Key → Key → Ordering) (seen : List Key) (k : Key) (ks : List Key) → list_any (λ x. is_eq (cmp x k)) seen ≡ true → ComesAgain cmp (seen ++ k ∷ ks) (length seen)
again cmp seen k ks h =
    let p = any-place (λ x. is_eq (cmp x k)) seen h in
    record { earlier = p.0; before = p.2; first = p.1; second = k; there = got-front seen (k ∷ ks) p.0 p.2 ∙ p.3; here = got-next seen k ks; tie = p.4 }

not-again : (cmp : Key → Key → Ordering) (seen : List Key) (k : Key) (ks : List Key) → list_any (λ x. is_eq (cmp x k)) seen ≡ false → ComesAgain cmp (seen ++ k ∷ ks) (length seen) → ⊥
not-again cmp seen k ks h c =
    let there : slice_get seen c.earlier ≡ Some c.first = sym (got-front seen (k ∷ ks) c.earlier c.before) ∙ c.there in
    let same : k ≡ c.second = some_is k c.second (sym (got-next seen k ks) ∙ c.here) in
    let yes = place-any (λ x. is_eq (cmp x k)) seen c.earlier c.first there (rw same c.tie) in
    absurd (let e = rw h at yes in cc)

one-more : (cmp : Key → Key → Ordering) (keys : List Key) (n : ℕ) → NoneUpTo cmp keys n → (ComesAgain cmp keys n → ⊥) → NoneUpTo cmp keys (n + 1)
one-more cmp keys n none apart k l c =
    elim (cases_Bool (nat_lt k n)) [
      | inl t ↦ none k (grind (arith, nat_tests)) c
      | inr f ↦ let is : k ≡ n = grind (arith, nat_tests) in apart (rw is at c)
    ]

found : (cmp : Key → Key → Ordering) (seen ks : List Key) → NoneUpTo cmp (seen ++ ks) (length seen) → Found cmp (seen ++ ks) (repeated_after cmp seen ks)
found cmp seen [] none = λ place c. none place (let l = within (seen ++ []) place c.second c.here in let e = length-append seen [] in omega (arith, l, e)) c
found cmp seen (k ∷ ks) none =
    elim (cases_Bool (list_any (λ x. is_eq (cmp x k)) seen)) [
      | inl t ↦ rw t (length seen, refl, again cmp seen k ks t, none)
      | inr f ↦
          let all : (seen ++ k ∷ []) ++ ks ≡ seen ++ k ∷ ks = append_assoc seen (k ∷ []) ks in
          let long : length (seen ++ k ∷ []) ≡ length seen + 1 = length-append seen (k ∷ []) in
          let more = one-more cmp (seen ++ k ∷ ks) (length seen) none (not-again cmp seen k ks f) in
          let rest = found cmp (seen ++ k ∷ []) ks (rw (all, long) more) in
          rw f (rw all at rest)
    ]

-- there is one first
one-first : (cmp : Key → Key → Ordering) (keys : List Key) (i j : ℕ) → ComesAgain cmp keys i → NoneUpTo cmp keys i → ComesAgain cmp keys j → NoneUpTo cmp keys j → i ≡ j
one-first cmp keys i j a before_a b before_b =
    elim (cases_Bool (nat_eq i j)) [
      | inl t ↦ (grind (arith, nat_tests))
      | inr f ↦ elim (cases_Bool (nat_lt i j)) [
        | inl l ↦ absurd (before_b i (grind (arith, nat_tests)) a)
        | inr m ↦ absurd (before_a j (grind (arith, nat_tests)) b)
      ]
    ]

named-forth : (cmp : Key → Key → Ordering) (keys : List Key) (o : Option ℕ) (n : ℕ) → Found cmp keys o → o ≡ Some n → (place : ℕ) × (n ≡ place + 1) × ComesAgain cmp keys place × NoneUpTo cmp keys place
named-forth cmp keys (Some m) n f e = let is = some_is m n e in rw is at f
named-forth cmp keys None n f e = absurd (cc)

named-back : (cmp : Key → Key → Ordering) (keys : List Key) (o : Option ℕ) (n place : ℕ) → Found cmp keys o → n ≡ place + 1 → ComesAgain cmp keys place → NoneUpTo cmp keys place → o ≡ Some n
named-back cmp keys (Some m) n place f e c before =
    let same = one-first cmp keys f.0 place f.2 f.3 c before in
    let is : m ≡ n = let a = f.1 in omega (arith, a, e, same) in
    ap (λ (k : ℕ). Some k) is
named-back cmp keys None n place f e c before = absurd (f place c)

unnamed-forth : (cmp : Key → Key → Ordering) (keys : List Key) (o : Option ℕ) → Found cmp keys o → o ≡ None → (place : ℕ) → ComesAgain cmp keys place → ⊥
unnamed-forth cmp keys (Some m) f e = absurd (cc)
unnamed-forth cmp keys None f e = f

unnamed-back : (cmp : Key → Key → Ordering) (keys : List Key) (o : Option ℕ) → Found cmp keys o → ((place : ℕ) → ComesAgain cmp keys place → ⊥) → o ≡ None
unnamed-back cmp keys (Some m) f none = absurd (none f.0 f.2)
unnamed-back cmp keys None f none = refl

pub first_repeats-named : FirstRepeatsAreNamed
first_repeats-named cmp keys =
    let f = found cmp [] keys (λ k l c. absurd (omega (arith, l))) in
    record {
      named = λ n. (named-forth cmp keys (repeated_after cmp [] keys) n f, λ w. named-back cmp keys (repeated_after cmp [] keys) n w.0 f w.1 w.2 w.3);
      unnamed = (unnamed-forth cmp keys (repeated_after cmp [] keys) f, unnamed-back cmp keys (repeated_after cmp [] keys) f);
    }
