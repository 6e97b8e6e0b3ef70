-- The readers of bytes find the first byte after a 00 that isn't ff.
use Rattle.std.proofs.Common.{◌≡◌, ℕ, zero, suc, ◌+◌, ◌-◌, ◌<◌, Bool, true, false, List, [], ◌∷◌, ◌++◌, length, map, take, drop, nat_eq, nat_lt, Option, Some, Result, Ok, Err, ◌⊎◌, inl, inr, arith, refl, sym, ap, ◌∙◌, length-append, if◌then◌else◌}
use Rattle.std.specs.List.{slice_get}
use Rattle.std.proofs.lemmas.Bool.{cases_Bool}
use Rattle.std.proofs.lemmas.Bool.Decides.{nat_tests}
use Rattle.std.proofs.lemmas.List.{take_at, drop_at}
use Rattle.key_encoding.specs.Spelling.{escaped, turned}
use Rattle.key_encoding.specs.Reading.{on_value, refused, read_marked, unescaped}
use Rattle.key_encoding.specs.EscapeFaults.{Decides, EscapeFaultsAreFirst, EscapesAreRead, HasNoEnd, IsAfterZero, IsMarked}
use Rattle.key_encoding.specs.declared.fault.KeyFault.{KeyFault}
use Rattle.key_encoding.specs.declared.fault.KeyKind.{KeyKind}
use Rattle.key_encoding.specs.declared.fault.KeyKind.TheVariants.{Short, Marker, Escape}
use Rattle.key_encoding.proofs.Answered.{ok_parts}
use Rattle.key_encoding.proofs.Unescapes.{marked-only}

some_are : (x y : ℕ) → (let u : Option ℕ = Some x in u) ≡ Some y → x ≡ y
some_are x y e = cc

-- ---- one byte more in front

-- a byte in front that isn't 00
after-one : (y at x : ℕ) (c : List ℕ) → IsAfterZero c at x → IsAfterZero (y ∷ c) (suc at) x
after-one y at x c s = record { before = suc s.before; next = ap (λ n. suc n) s.next; zero = s.zero; there = s.there }

before-one : (y k x : ℕ) (c : List ℕ) → (y ≡ 0 → ⊥) → IsAfterZero (y ∷ c) k x → (j : ℕ) × (k ≡ suc j) × IsAfterZero c j x
before-one y k x c apart s = by s.before s.next s.zero s.there
  where
    by : (n : ℕ) → k ≡ suc n → slice_get (y ∷ c) n ≡ Some 0 → slice_get (y ∷ c) k ≡ Some x → (j : ℕ) × (k ≡ suc j) × IsAfterZero c j x
    by zero e z t = absurd (apart (some_are y 0 z))
    by (suc n) e z t = (suc n, e, record { before = n; next = refl; zero = z; there = rw e at t })

decides-one : (y at x : ℕ) (c : List ℕ) → (y ≡ 0 → ⊥) → Decides c at x → Decides (y ∷ c) (suc at) x
decides-one y at x c apart d = record {
  after = after-one y at x c d.after;
  other = d.other;
  first = λ k z l s.
      let p = before-one y k z c apart s in
      let e = p.1 in
      d.first p.0 z (omega (arith, l, e)) p.2;
}

ends-one : (y : ℕ) (c : List ℕ) → (y ≡ 0 → ⊥) → HasNoEnd c → HasNoEnd (y ∷ c)
ends-one y c apart h k z s = let p = before-one y k z c apart s in h p.0 z p.2

-- an escape in front
before-two : (k x : ℕ) (c : List ℕ) → IsAfterZero (0 ∷ 255 ∷ c) k x → (x ≡ 255) ⊎ ((j : ℕ) × (k ≡ suc (suc j)) × IsAfterZero c j x)
before-two k x c s = by s.before s.next s.zero s.there
  where
    by : (n : ℕ) → k ≡ suc n → slice_get (0 ∷ 255 ∷ c) n ≡ Some 0 → slice_get (0 ∷ 255 ∷ c) k ≡ Some x → (x ≡ 255) ⊎ ((j : ℕ) × (k ≡ suc (suc j)) × IsAfterZero c j x)
    by zero e z t = let t' : (let u : Option ℕ = Some 255 in u) ≡ Some x = rw e at t in inl (sym (some_are 255 x t'))
    by (suc n) e z t =
        let t' : slice_get (255 ∷ c) (suc n) ≡ Some x = rw e at t in
        let p = before-one 255 (suc n) x c (λ q. absurd (omega (arith, q))) (record { before = n; next = refl; zero = z; there = t' }) in
        inr (p.0, e ∙ ap (λ m. suc m) p.1, p.2)

decides-two : (at x : ℕ) (c : List ℕ) → Decides c at x → Decides (0 ∷ 255 ∷ c) (suc (suc at)) x
decides-two at x c d = record {
  after = after-one 0 (suc at) x (255 ∷ c) (after-one 255 at x c d.after);
  other = d.other;
  first = first;
}
  where
    first : (k y : ℕ) → k < suc (suc at) → IsAfterZero (0 ∷ 255 ∷ c) k y → y ≡ 255
    first k y l s = by (before-two k y c s)
      where
        by : (y ≡ 255) ⊎ ((j : ℕ) × (k ≡ suc (suc j)) × IsAfterZero c j y) → y ≡ 255
        by (inl e) = e
        by (inr p) = let e = p.1 in d.first p.0 y (omega (arith, l, e)) p.2

ends-two : (c : List ℕ) → HasNoEnd c → HasNoEnd (0 ∷ 255 ∷ c)
ends-two c h k y s = by (before-two k y c s)
  where
    by : (y ≡ 255) ⊎ ((j : ℕ) × (k ≡ suc (suc j)) × IsAfterZero c j y) → y ≡ 255
    by (inl e) = e
    by (inr p) = h p.0 y p.2

-- another byte after the 00 in front
decides-here : (x : ℕ) (c : List ℕ) → (x ≡ 255 → ⊥) → Decides (0 ∷ x ∷ c) 1 x
decides-here x c apart = record {
  after = record { before = 0; next = refl; zero = refl; there = refl };
  other = apart;
  first = λ k y l s. let e = s.next in absurd (omega (arith, l, e));
}

decides-end : (x : ℕ) (c : List ℕ) → x ≡ 1 → Decides (0 ∷ x ∷ c) 1 1
decides-end x c e = record {
  after = record { before = 0; next = refl; zero = refl; there = ap (λ (n : ℕ). Some n) e };
  other = λ q. absurd (omega (arith, q));
  first = λ k y l s. let n = s.next in absurd (omega (arith, l, n));
}

ends-none : HasNoEnd []
ends-none k y s = let e = s.zero in absurd (cc)

ends-zero : HasNoEnd (0 ∷ [])
ends-zero k y s = by s.before s.next s.there
  where
    by : (n : ℕ) → k ≡ suc n → slice_get (0 ∷ []) k ≡ Some y → y ≡ 255
    by n e t = let t' = rw e at t in absurd (cc)

-- ---- there is one such place

-- k is before at, or it is at, or behind
one-place : (c : List ℕ) (at x k y : ℕ) → Decides c at x → Decides c k y → (at ≡ k) × (x ≡ y)
one-place c at x k y d f =
    let not_below : at < k → ⊥ = λ l. d.other (f.first at x l d.after) in
    let not_above : k < at → ⊥ = λ l. f.other (d.first k y l f.after) in
    let same : at ≡ k = between not_below not_above in
    (same, let t = rw same at d.after.there in some_are x y (sym t ∙ f.after.there))
  where
    between : (at < k → ⊥) → (k < at → ⊥) → at ≡ k
    between a b =
        elim (cases_Bool (nat_eq at k)) [
          | inl t ↦ (grind (arith, nat_tests))
          | inr g ↦ elim (cases_Bool (nat_lt at k)) [
            | inl l ↦ absurd (a (grind (arith, nat_tests)))
            | inr m ↦ absurd (b (grind (arith, nat_tests)))
          ]
        ]

no-place : (c : List ℕ) (at x : ℕ) → HasNoEnd c → Decides c at x → ⊥
no-place c at x h d = d.other (h at x d.after)

-- ---- the walk

-- bytes with the 00 that stands before them
abbrev with_zero : Bool → List ℕ → List ℕ
with_zero held c = if held then 0 ∷ c else c

-- what is answered of bytes whose first one stands at base of an input of len bytes
abbrev Told : ℕ → ℕ → List ℕ → Result (List ℕ × List ℕ) KeyFault → Type 0
Told len base c (Ok p) = (k : ℕ) × Decides c k 1 × (base + suc k + length p.1 ≡ len)
Told len base c (Err e) = ((e ≡ record { kind = Short; offset = len }) × HasNoEnd c) ⊎ ((k : ℕ) × (x : ℕ) × Decides c k x × (x ≡ 1 → ⊥) × (e ≡ record { kind = Escape; offset = base + k }))

fault_at : (m n : ℕ) → m ≡ n → (let f : KeyFault = record { kind = Escape; offset = m } in f) ≡ record { kind = Escape; offset = n }
fault_at m n e = ap (λ (k : ℕ). let f : KeyFault = record { kind = Escape; offset = k } in f) e

told-one : (len base y : ℕ) (c : List ℕ) (f : List ℕ → List ℕ) (o : Result (List ℕ × List ℕ) KeyFault) → (y ≡ 0 → ⊥) → Told len (base + 1) c o → Told len base (y ∷ c) (on_value f o)
told-one len base y c f (Ok p) apart t = let sum = t.2 in (suc t.0, decides-one y t.0 1 c apart t.1, omega (arith, sum))
told-one len base y c f (Err e) apart (inl t) = inl (t.0, ends-one y c apart t.1)
told-one len base y c f (Err e) apart (inr t) = inr (suc t.0, t.1, decides-one y t.0 t.1 c apart t.2, t.3, t.4 ∙ fault_at (base + 1 + t.0) (base + suc t.0) (omega arith))

told-two : (len base : ℕ) (c : List ℕ) (f : List ℕ → List ℕ) (o : Result (List ℕ × List ℕ) KeyFault) → Told len (base + 2) c o → Told len base (0 ∷ 255 ∷ c) (on_value f o)
told-two len base c f (Ok p) t = let sum = t.2 in (suc (suc t.0), decides-two t.0 1 c t.1, omega (arith, sum))
told-two len base c f (Err e) (inl t) = inl (t.0, ends-two c t.1)
told-two len base c f (Err e) (inr t) = inr (suc (suc t.0), t.1, decides-two t.0 t.1 c t.2, t.3, t.4 ∙ fault_at (base + 2 + t.0) (base + suc (suc t.0)) (omega arith))

unescaped-told : (down : Bool) (len base : ℕ) (held : Bool) (b : List ℕ) → base + length (with_zero held b) ≡ len → Told len base (with_zero held (map (turned down) b)) (unescaped down len held b)
unescaped-told down len base false [] h = inl (refl, ends-none)
unescaped-told down len base true [] h = inl (refl, ends-zero)
unescaped-told down len base false (x ∷ rest) h =
    elim (cases_Bool (nat_eq (turned down x) 0)) [
      | inl z ↦
          let is : turned down x ≡ 0 = grind (arith, nat_tests) in
          let t = unescaped-told down len base true rest h in
          rw (z, is) t
      | inr f ↦
          let apart : turned down x ≡ 0 → ⊥ = λ e. absurd (grind (arith, nat_tests)) in
          rw f (told-one len base (turned down x) (map (turned down) rest) (λ v. turned down x ∷ v) (unescaped down len false rest) apart (unescaped-told down len (base + 1) false rest (omega (arith, h))))
    ]
unescaped-told down len base true (x ∷ rest) h =
    elim (cases_Bool (nat_eq (turned down x) 255)) [
      | inl z ↦
          let is : turned down x ≡ 255 = grind (arith, nat_tests) in
          rw (z, is) (told-two len base (map (turned down) rest) (λ v. 0 ∷ v) (unescaped down len false rest) (unescaped-told down len (base + 2) false rest (omega (arith, h))))
      | inr f ↦
          let apart : turned down x ≡ 255 → ⊥ = λ e. absurd (grind (arith, nat_tests)) in
          elim (cases_Bool (nat_eq (turned down x) 1)) [
            | inl z ↦
                let is : turned down x ≡ 1 = grind (arith, nat_tests) in
                let sum : base + suc 1 + length rest ≡ len = omega (arith, h) in
                rw (f, z) (1, decides-end (turned down x) (map (turned down) rest) is, sum)
            | inr g ↦
                let not_end : turned down x ≡ 1 → ⊥ = λ e. absurd (grind (arith, nat_tests)) in
                let place : len - suc (length rest) ≡ base + 1 = omega (arith, h) in
                rw (f, g) (inr (1, turned down x, decides-here (turned down x) (map (turned down) rest) apart, not_end, fault_at (len - suc (length rest)) (base + 1) place))
          ]
    ]

-- ---- whole inputs

faults_are : (e f : KeyFault) → (let u : Result (List ℕ × List ℕ) KeyFault = Err e in u) ≡ Err f → e ≡ f
faults_are e f h = cc

-- all that is answered of marked bytes, with places of the whole input
abbrev Whole : Bool → List ℕ → Result (List ℕ × List ℕ) KeyFault → Type 0
Whole down b o = Told (length b) 0 (map (turned down) b) o

marked-told : (down : Bool) (marker : ℕ) (rest : List ℕ) → (turned down marker ≡ 0 → ⊥) → Whole down (marker ∷ rest) (unescaped down (suc (length rest)) false rest)
marked-told down marker rest apart =
    let sum : 1 + length (with_zero false rest) ≡ suc (length rest) = omega arith in
    let inner = unescaped-told down (suc (length rest)) 1 false rest sum in
    by (unescaped down (suc (length rest)) false rest) inner
  where
    by : (o : Result (List ℕ × List ℕ) KeyFault) → Told (suc (length rest)) 1 (map (turned down) rest) o → Told (suc (length rest)) 0 (turned down marker ∷ map (turned down) rest) o
    by (Ok p) t = let sum = t.2 in (suc t.0, decides-one (turned down marker) t.0 1 (map (turned down) rest) apart t.1, omega (arith, sum))
    by (Err e) (inl t) = inl (t.0, ends-one (turned down marker) (map (turned down) rest) apart t.1)
    by (Err e) (inr t) = inr (suc t.0, t.1, decides-one (turned down marker) t.0 t.1 (map (turned down) rest) apart t.2, t.3, t.4 ∙ fault_at (1 + t.0) (0 + suc t.0) (omega arith))

read-marked : (down : Bool) (marker : ℕ) (rest : List ℕ) → read_marked down marker (marker ∷ rest) ≡ unescaped down (suc (length rest)) false rest
read-marked down marker rest = let same : nat_eq marker marker ≡ true = grind (arith, nat_tests) in rw same refl

-- the first byte is the marker, or it isn't, or there is none
data Front (marker : ℕ) (b : List ℕ) : Type 0 where
  Empty : b ≡ [] → Front marker b
  Other : (x : ℕ) → (rest : List ℕ) → b ≡ x ∷ rest → (x ≡ marker → ⊥) → Front marker b
  Marked : (rest : List ℕ) → b ≡ marker ∷ rest → Front marker b

front : (marker : ℕ) (b : List ℕ) → Front marker b
front marker [] = Empty refl
front marker (x ∷ rest) =
    elim (cases_Bool (nat_eq x marker)) [
      | inl t ↦ let is : x ≡ marker = grind (arith, nat_tests) in Marked rest (ap (λ (n : ℕ). n ∷ rest) is)
      | inr f ↦ Other x rest refl (λ e. absurd (grind (arith, nat_tests)))
    ]

unread : (down : Bool) (marker x : ℕ) (rest : List ℕ) → (x ≡ marker → ⊥) → read_marked down marker (x ∷ rest) ≡ refused Marker 0
unread down marker x rest apart =
    elim (cases_Bool (nat_eq x marker)) [
      | inl t ↦ absurd (apart (grind (arith, nat_tests)))
      | inr f ↦ rw f refl
    ]

heads_are : (x y : ℕ) (a b : List ℕ) → x ∷ a ≡ y ∷ b → x ≡ y
heads_are x y a b e = cc

kinds_are : (k j : KeyKind) (m n : ℕ) → (let u : Result (List ℕ × List ℕ) KeyFault = Err (record { kind = k; offset = m }) in u) ≡ Err (record { kind = j; offset = n }) → (k ≡ j) × (m ≡ n)
kinds_are k j m n e =
    let same = faults_are (record { kind = k; offset = m }) (record { kind = j; offset = n }) e in
    (ap (λ (f : KeyFault). f.kind) same, ap (λ (f : KeyFault). f.offset) same)

-- what is answered of every input
data Answered (down : Bool) (marker : ℕ) (b : List ℕ) (o : Result (List ℕ × List ℕ) KeyFault) : Type 0 where
  None_ : b ≡ [] → o ≡ refused Short 0 → Answered down marker b o
  Unmarked : (x : ℕ) → (rest : List ℕ) → b ≡ x ∷ rest → (x ≡ marker → ⊥) → o ≡ refused Marker 0 → Answered down marker b o
  Ends : (rest : List ℕ) → b ≡ marker ∷ rest → (v r : List ℕ) → o ≡ Ok (v, r) → (k : ℕ) → Decides (map (turned down) b) k 1 → suc k + length r ≡ length b → Answered down marker b o
  Runs : (rest : List ℕ) → b ≡ marker ∷ rest → o ≡ refused Short (length b) → HasNoEnd (map (turned down) b) → Answered down marker b o
  Breaks : (rest : List ℕ) → b ≡ marker ∷ rest → (k x : ℕ) → o ≡ refused Escape k → Decides (map (turned down) b) k x → (x ≡ 1 → ⊥) → Answered down marker b o

answered : (down : Bool) (marker : ℕ) (b : List ℕ) → (turned down marker ≡ 0 → ⊥) → Answered down marker b (read_marked down marker b)
answered down marker b apart = by (front marker b)
  where
    inside : (rest : List ℕ) → b ≡ marker ∷ rest → (o : Result (List ℕ × List ℕ) KeyFault) → read_marked down marker b ≡ o → Told (length b) 0 (map (turned down) b) o → Answered down marker b (read_marked down marker b)
    inside rest e (Ok p) is t = Ends rest e p.0 p.1 is t.0 t.1 (let sum = t.2 in omega (arith, sum))
    inside rest e (Err f) is (inl t) = Runs rest e (is ∙ ap (λ (g : KeyFault). let u : Result (List ℕ × List ℕ) KeyFault = Err g in u) t.0) t.1
    inside rest e (Err f) is (inr t) = Breaks rest e t.0 t.1 (is ∙ ap (λ (g : KeyFault). let u : Result (List ℕ × List ℕ) KeyFault = Err g in u) (t.4 ∙ fault_at (0 + t.0) t.0 (omega arith))) t.2 t.3

    by : Front marker b → Answered down marker b (read_marked down marker b)
    by (Empty e) = None_ e (rw e refl)
    by (Other x rest e f) = Unmarked x rest e f (rw e (unread down marker x rest f))
    by (Marked rest e) = inside rest e (unescaped down (suc (length rest)) false rest) (ap (read_marked down marker) e ∙ read-marked down marker rest) (rw e (marked-told down marker rest apart))

-- ---- the law

empty-full : (x : ℕ) (rest : List ℕ) → [] ≡ x ∷ rest → ⊥
empty-full x rest e = absurd (cc)

not_ok : (p : List ℕ × List ℕ) (e : KeyFault) → (let u : Result (List ℕ × List ℕ) KeyFault = Ok p in u) ≡ Err e → ⊥
not_ok p e h = absurd (cc)

other-kind : (k j : KeyKind) (m n : ℕ) → (let u : Result (List ℕ × List ℕ) KeyFault = Err (record { kind = k; offset = m }) in u) ≡ Err (record { kind = j; offset = n }) → (k ≡ j → ⊥) → ⊥
other-kind k j m n e apart = apart (kinds_are k j m n e).0

short-marker : Short ≡ Marker → ⊥
short-marker e = absurd (cc)

short-escape : Short ≡ Escape → ⊥
short-escape e = absurd (cc)

marker-escape : Marker ≡ Escape → ⊥
marker-escape e = absurd (cc)

unmarked-forth : (down : Bool) (marker : ℕ) (b : List ℕ) (at : ℕ) (o : Result (List ℕ × List ℕ) KeyFault) → Answered down marker b o → o ≡ refused Marker at → (at ≡ 0) × (x : ℕ) × (rest : List ℕ) × (b ≡ x ∷ rest) × (x ≡ marker → ⊥)
unmarked-forth down marker b at o (None_ e is) h = absurd (other-kind Short Marker 0 at (sym is ∙ h) short-marker)
unmarked-forth down marker b at o (Unmarked x rest e apart is) h = (sym (kinds_are Marker Marker 0 at (sym is ∙ h)).1, x, rest, e, apart)
unmarked-forth down marker b at o (Ends rest e v r is k d sum) h = absurd (not_ok (v, r) _ (sym is ∙ h))
unmarked-forth down marker b at o (Runs rest e is none) h = absurd (other-kind Short Marker (length b) at (sym is ∙ h) short-marker)
unmarked-forth down marker b at o (Breaks rest e k x is d apart) h = absurd (other-kind Marker Escape at k (sym h ∙ is) marker-escape)

short-forth : (down : Bool) (marker : ℕ) (b : List ℕ) (at : ℕ) (o : Result (List ℕ × List ℕ) KeyFault) → Answered down marker b o → o ≡ refused Short at → (at ≡ length b) × ((b ≡ []) ⊎ IsMarked marker b × HasNoEnd (map (turned down) b))
short-forth down marker b at o (None_ e is) h = (rw e (sym (kinds_are Short Short 0 at (sym is ∙ h)).1), inl e)
short-forth down marker b at o (Unmarked x rest e apart is) h = absurd (other-kind Short Marker at 0 (sym h ∙ is) short-marker)
short-forth down marker b at o (Ends rest e v r is k d sum) h = absurd (not_ok (v, r) _ (sym is ∙ h))
short-forth down marker b at o (Runs rest e is none) h = (sym (kinds_are Short Short (length b) at (sym is ∙ h)).1, inr ((rest, e), none))
short-forth down marker b at o (Breaks rest e k x is d apart) h = absurd (other-kind Short Escape at k (sym h ∙ is) short-escape)

escape-forth : (down : Bool) (marker : ℕ) (b : List ℕ) (at : ℕ) (o : Result (List ℕ × List ℕ) KeyFault) → Answered down marker b o → o ≡ refused Escape at → IsMarked marker b × (x : ℕ) × Decides (map (turned down) b) at x × (x ≡ 1 → ⊥)
escape-forth down marker b at o (None_ e is) h = absurd (other-kind Short Escape 0 at (sym is ∙ h) short-escape)
escape-forth down marker b at o (Unmarked x rest e apart is) h = absurd (other-kind Marker Escape 0 at (sym is ∙ h) marker-escape)
escape-forth down marker b at o (Ends rest e v r is k d sum) h = absurd (not_ok (v, r) _ (sym is ∙ h))
escape-forth down marker b at o (Runs rest e is none) h = absurd (other-kind Short Escape (length b) at (sym is ∙ h) short-escape)
escape-forth down marker b at o (Breaks rest e k x is d apart) h = let same = (kinds_are Escape Escape k at (sym is ∙ h)).1 in ((rest, e), x, rw same at d, apart)

short-at : (m n : ℕ) → m ≡ n → (let u : Result (List ℕ × List ℕ) KeyFault = refused Short m in u) ≡ refused Short n
short-at m n e = ap (λ (k : ℕ). let u : Result (List ℕ × List ℕ) KeyFault = refused Short k in u) e

escape-at : (m n : ℕ) → m ≡ n → (let u : Result (List ℕ × List ℕ) KeyFault = refused Escape m in u) ≡ refused Escape n
escape-at m n e = ap (λ (k : ℕ). let u : Result (List ℕ × List ℕ) KeyFault = refused Escape k in u) e

-- marked bytes are neither empty nor unmarked
not-marked : (marker x : ℕ) (b rest : List ℕ) → b ≡ x ∷ rest → (x ≡ marker → ⊥) → IsMarked marker b → ⊥
not-marked marker x b rest e apart m = apart (heads_are x marker rest m.0 (sym e ∙ m.1))

short-back : (down : Bool) (marker : ℕ) (b : List ℕ) (at : ℕ) (o : Result (List ℕ × List ℕ) KeyFault) → Answered down marker b o → at ≡ length b → (b ≡ []) ⊎ IsMarked marker b × HasNoEnd (map (turned down) b) → o ≡ refused Short at
short-back down marker b at o (None_ e is) place w = is ∙ short-at 0 at (sym (rw e at place))
short-back down marker b at o (Unmarked x rest e apart is) place (inl w) = absurd (empty-full x rest (sym w ∙ e))
short-back down marker b at o (Unmarked x rest e apart is) place (inr w) = absurd (not-marked marker x b rest e apart w.0)
short-back down marker b at o (Ends rest e v r is k d sum) place (inl w) = absurd (empty-full marker rest (sym w ∙ e))
short-back down marker b at o (Ends rest e v r is k d sum) place (inr w) = absurd (no-place (map (turned down) b) k 1 w.1 d)
short-back down marker b at o (Runs rest e is none) place w = is ∙ short-at (length b) at (sym place)
short-back down marker b at o (Breaks rest e k x is d apart) place (inl w) = absurd (empty-full marker rest (sym w ∙ e))
short-back down marker b at o (Breaks rest e k x is d apart) place (inr w) = absurd (no-place (map (turned down) b) k x w.1 d)

escape-back : (down : Bool) (marker : ℕ) (b : List ℕ) (at y : ℕ) (o : Result (List ℕ × List ℕ) KeyFault) → Answered down marker b o → IsMarked marker b → Decides (map (turned down) b) at y → (y ≡ 1 → ⊥) → o ≡ refused Escape at
escape-back down marker b at y o (None_ e is) m d apart = absurd (empty-full marker m.0 (sym e ∙ m.1))
escape-back down marker b at y o (Unmarked x rest e other is) m d apart = absurd (not-marked marker x b rest e other m)
escape-back down marker b at y o (Ends rest e v r is k f sum) m d apart = absurd (apart (one-place (map (turned down) b) at y k 1 d f).1)
escape-back down marker b at y o (Runs rest e is none) m d apart = absurd (no-place (map (turned down) b) at y none d)
escape-back down marker b at y o (Breaks rest e k x is f other) m d apart = is ∙ escape-at k at (one-place (map (turned down) b) k x at y f d).0

found-back : (down : Bool) (marker : ℕ) (b : List ℕ) (at : ℕ) (o : Result (List ℕ × List ℕ) KeyFault) → Answered down marker b o → IsMarked marker b → Decides (map (turned down) b) at 1 → (v : List ℕ) × (r : List ℕ) × (o ≡ Ok (v, r))
found-back down marker b at o (None_ e is) m d = absurd (empty-full marker m.0 (sym e ∙ m.1))
found-back down marker b at o (Unmarked x rest e other is) m d = absurd (not-marked marker x b rest e other m)
found-back down marker b at o (Ends rest e v r is k f sum) m d = (v, r, is)
found-back down marker b at o (Runs rest e is none) m d = absurd (no-place (map (turned down) b) at 1 none d)
found-back down marker b at o (Breaks rest e k x is f other) m d = absurd (other (one-place (map (turned down) b) k x at 1 f d).1)

ended-forth : (down : Bool) (marker : ℕ) (b v r : List ℕ) (o : Result (List ℕ × List ℕ) KeyFault) → Answered down marker b o → o ≡ Ok (v, r) → b ≡ (marker ∷ map (turned down) (escaped v)) ++ r
    → (at : ℕ) × Decides (map (turned down) b) at 1 × (take (suc at) b ≡ marker ∷ map (turned down) (escaped v)) × (r ≡ drop (suc at) b)
ended-forth down marker b v r o (None_ e is) h whole = absurd (not_ok (v, r) _ (sym h ∙ is))
ended-forth down marker b v r o (Unmarked x rest e other is) h whole = absurd (not_ok (v, r) _ (sym h ∙ is))
ended-forth down marker b v r o (Ends rest e w q is k f sum) h whole =
    let parts = ok_parts w v q r (sym is ∙ h) in
    let front = marker ∷ map (turned down) (escaped v) in
    let all : length b ≡ length front + length r = ap (λ (t : List ℕ). length t) whole ∙ length-append front r in
    let same : length q ≡ length r = ap (λ (t : List ℕ). length t) parts.1 in
    let long : length front ≡ suc k = omega (arith, all, same, sum) in
    (k, f, ap (take (suc k)) whole ∙ take_at front r (suc k) long, sym (ap (drop (suc k)) whole ∙ drop_at front r (suc k) long))
ended-forth down marker b v r o (Runs rest e is none) h whole = absurd (not_ok (v, r) _ (sym h ∙ is))
ended-forth down marker b v r o (Breaks rest e k x is f other) h whole = absurd (not_ok (v, r) _ (sym h ∙ is))

escapes-read : (down : Bool) (marker : ℕ) → (turned down marker ≡ 0 → ⊥) → EscapesAreRead down marker (read_marked down marker)
escapes-read down marker apart = record {
  unmarked = λ b at. (unmarked-forth down marker b at (read_marked down marker b) (answered down marker b apart), λ w. rw (w.3, w.0) (unread down marker w.1 w.2 w.4));
  short = λ b at. (short-forth down marker b at (read_marked down marker b) (answered down marker b apart), λ w. short-back down marker b at (read_marked down marker b) (answered down marker b apart) w.0 w.1);
  escape = λ b at. (escape-forth down marker b at (read_marked down marker b) (answered down marker b apart), λ w. escape-back down marker b at w.1 (read_marked down marker b) (answered down marker b apart) w.0 w.2 w.3);
  ended = λ b v r h e. ended-forth down marker b v r (read_marked down marker b) (answered down marker b apart) e (marked-only down marker b v r h e).1;
  found = λ b at m d. found-back down marker b at (read_marked down marker b) (answered down marker b apart) m d;
}

pub escape_faults-first : EscapeFaultsAreFirst
escape_faults-first = (escapes-read false 18 (λ e. let z : 18 ≡ 0 = e in absurd (omega (arith, z))), escapes-read true 19 (λ e. let z : 236 ≡ 0 = e in absurd (omega (arith, z))))
