-- A reader that takes item after item refuses bytes at their first fault.
use Rattle.std.proofs.Common.{◌≡◌, ℕ, ◌-◌, ◌<◌, List, [], ◌++◌, length, nat_eq, false, ◌+◌, Result, Ok, Err, ◌⊎◌, inl, inr, arith, refl, sym, ap, ◌∙◌, append_assoc, length-append}
use Rattle.std.proofs.lemmas.Bool.{cases_Bool}
use Rattle.std.proofs.lemmas.Bool.Decides.{nat_tests}
use Rattle.list_laws.specs.Bytes.{AreBytes}
use Rattle.row_codec.specs.KeyReading.{◌>>=◌, all_read}
use Rattle.row_codec.specs.FirstFaults.{Grammar, Over, Item, HasNone, IsCut, IsFirstFault, FaultsAreFirst}
use Rattle.row_codec.proofs.KeyLaws.{pair_parts, ok_is}
use Rattle.list_laws.proofs.Bytes.{bytes-after}

-- ---- how many bytes are left at the first fault

pub record LeftAt (g : Grammar) (b : List ℕ) (left : ℕ) : Type 0 where
  pub front : List ℕ
  pub rest : List ℕ
  pub bytes : b ≡ front ++ rest
  pub cut : IsCut g front rest
  pub count : left ≡ length rest

pub at_once : {X : Type 0} (P : X → Type 0) (code : X → List ℕ) (next : X → Grammar) (b : List ℕ) → HasNone P code b → LeftAt (Item P code next) b (length b)
at_once P code next b none = record { front = []; rest = b; bytes = refl; cut = inl (refl, none); count = refl }

pub after_one : {X : Type 0} (P : X → Type 0) (code : X → List ℕ) (next : X → Grammar) (b : List ℕ) (x : X) (r : List ℕ) (left : ℕ) → P x → b ≡ code x ++ r → LeftAt (next x) r left → LeftAt (Item P code next) b left
after_one P code next b x r left p spelled l = record {
  front = code x ++ l.front;
  rest = l.rest;
  bytes = spelled ∙ (ap (λ t. code x ++ t) l.bytes ∙ sym (append_assoc (code x) l.front l.rest));
  cut = inr (x, l.front, p, refl, l.cut);
  count = l.count;
}

-- the first item is missing, or it is there and the fault is in what follows it
abbrev pub Begun : {X : Type 0} → (X → Type 0) → (X → List ℕ) → (X → Grammar) → List ℕ → ℕ → Type 0
Begun {X} P code next b left = (HasNone P code b × (left ≡ length b)) ⊎ ((x : X) × (r : List ℕ) × P x × (b ≡ code x ++ r) × LeftAt (next x) r left)

pub begun : {X : Type 0} (P : X → Type 0) (code : X → List ℕ) (next : X → Grammar) (b : List ℕ) (left : ℕ) → LeftAt (Item P code next) b left → Begun P code next b left
begun {X} P code next b left l = by l.cut
  where
    by : ((l.front ≡ []) × HasNone P code l.rest) ⊎ ((x : X) × (more : List ℕ) × P x × (l.front ≡ code x ++ more) × IsCut (next x) more l.rest) → Begun P code next b left
    by (inl h) = let whole : b ≡ l.rest = rw h.0 at l.bytes in inl (rw whole h.1, rw whole l.count)
    by (inr h) = inr (
      h.0,
      h.1 ++ l.rest,
      h.2,
      l.bytes ∙ (ap (λ t. t ++ l.rest) h.3 ∙ append_assoc (code h.0) h.1 l.rest),
      record { front = h.1; rest = l.rest; bytes = refl; cut = h.4; count = l.count },
    )

-- ---- readers of a part

-- what a reader of some items answers, where another place stands for each number of bytes left
pub record Walks {X : Type 0} (place : ℕ → ℕ) (g : Grammar) (next : X → Grammar) (b : List ℕ) (o : Result (X × List ℕ) ℕ) : Type 0 where
  -- an error is the place of the first fault
  pub fails : (at : ℕ) → o ≡ Err at → (left : ℕ) × (at ≡ place left) × LeftAt g b left
  -- a fault of what follows is the first fault of all
  pub goes : (x : X) (r : List ℕ) → o ≡ Ok (x, r) → AreBytes r × ((left : ℕ) → LeftAt (next x) r left → LeftAt g b left)
  -- a fault is here or in what follows
  pub back : (left : ℕ) → LeftAt g b left → (o ≡ Err (place left)) ⊎ ((x : X) × (r : List ℕ) × (o ≡ Ok (x, r)) × LeftAt (next x) r left)

pub item-walks : {X : Type 0} (P : X → Type 0) (code : X → List ℕ) (next : X → Grammar) (place : ℕ → ℕ) (b : List ℕ) (o : Result (X × List ℕ) ℕ) → AreBytes b → ((x : X) (r : List ℕ) → P x → b ≡ code x ++ r → o ≡ Ok (x, r))
    → ((x : X) (r : List ℕ) → o ≡ Ok (x, r) → P x × (b ≡ code x ++ r)) → ((at : ℕ) → o ≡ Err at → at ≡ place (length b)) → Walks place (Item P code next) next b o
item-walks {X} P code next place b o h found only here = record {
  fails = λ at e. (length b, here at e, at_once P code next b (λ x r p spelled. absurd (let is = found x r p spelled in let e' = rw is at e in cc)));
  goes = λ x r e. let was = only x r e in (bytes-after (code x) r (rw was.1 at h), λ left l. after_one P code next b x r left was.0 was.1 l);
  back = λ left l. by left (begun P code next b left l);
}
  where
    missing : (left : ℕ) → HasNone P code b → left ≡ length b → (a : Result (X × List ℕ) ℕ) → o ≡ a → o ≡ Err (place left)
    missing left none is (Ok p) e = let was = only p.0 p.1 e in absurd (none p.0 p.1 was.0 was.1)
    missing left none is (Err at) e = rw is (e ∙ ap (λ (n : ℕ). let w : Result (X × List ℕ) ℕ = Err n in w) (here at e))

    by : (left : ℕ) → Begun P code next b left → (o ≡ Err (place left)) ⊎ ((x : X) × (r : List ℕ) × (o ≡ Ok (x, r)) × LeftAt (next x) r left)
    by left (inl s) = inl (missing left s.0 s.1 o refl)
    by left (inr s) = inr (s.0, s.1, found s.0 s.1 s.2 s.3, s.4)

-- nothing was to be read
pub none-walks : {X : Type 0} (place : ℕ → ℕ) (next : X → Grammar) (x : X) (b : List ℕ) → AreBytes b → Walks place (next x) next b (Ok (x, b))
none-walks {X} place next x b h = record {
  fails = λ at e. absurd (cc);
  goes = λ y r e. let parts = pair_parts (x, b) (y, r) (ok_is (x, b) (y, r) e) in (rw (← parts.1) h, λ left l. rw (← parts.0, ← parts.1) at l);
  back = λ left l. inr (x, b, refl, l);
}

pub bind-walks : {X Z : Type 0} (place : ℕ → ℕ) (g : Grammar) (next : X → Grammar) (last : Z → Grammar) (b : List ℕ) (o : Result (X × List ℕ) ℕ) (f : X × List ℕ → Result (Z × List ℕ) ℕ) → Walks place g next b o
    → ((x : X) (r : List ℕ) → AreBytes r → Walks place (next x) last r (f (x, r))) → Walks place g last b (o >>= f)
bind-walks {X} {Z} place g next last b (Err k) f first others = record {
  fails = λ at e. let is : (let w : Result (X × List ℕ) ℕ = Err k in w) ≡ Err at = cc in first.fails at is;
  goes = λ z r e. absurd (cc);
  back = λ left l. inl (by left (first.back left l));
}
  where
    by : (left : ℕ) → ((let w : Result (X × List ℕ) ℕ = Err k in w) ≡ Err (place left)) ⊎ ((x : X) × (r : List ℕ) × ((let w : Result (X × List ℕ) ℕ = Err k in w) ≡ Ok (x, r)) × LeftAt (next x) r left) → (let w : Result (Z × List ℕ) ℕ = Err k in w) ≡ Err (place left)
    by left (inl e) = cc
    by left (inr s) = let e = s.2 in absurd (cc)
bind-walks {X} {Z} place g next last b (Ok p) f first others =
    let here = first.goes p.0 p.1 refl in
    let there = others p.0 p.1 here.0 in
    record {
      fails = λ at e. let w = there.fails at e in (w.0, w.1, here.1 w.0 w.2);
      goes = λ z r e. let w = there.goes z r e in (w.0, λ left l. here.1 left (w.1 left l));
      back = λ left l. by left (first.back left l);
    }
  where
    by : (left : ℕ) → ((let w : Result (X × List ℕ) ℕ = Ok p in w) ≡ Err (place left)) ⊎ ((x : X) × (r : List ℕ) × ((let w : Result (X × List ℕ) ℕ = Ok p in w) ≡ Ok (x, r)) × LeftAt (next x) r left)
        → (f p ≡ Err (place left)) ⊎ ((z : Z) × (r : List ℕ) × (f p ≡ Ok (z, r)) × LeftAt (last z) r left)
    by left (inl e) = absurd (cc)
    by left (inr s) =
        let parts = pair_parts p (s.0, s.1) (ok_is p (s.0, s.1) s.2) in
        let l = rw (← parts.0, ← parts.1) at s.3 in
        let here = first.goes p.0 p.1 refl in
        (others p.0 p.1 here.0).back left l

-- ---- readers of whole inputs

pub over : (b : List ℕ) → 0 < length b → LeftAt Over b (length b)
over b some = record { front = []; rest = b; bytes = refl; cut = (refl, some); count = refl }

pub not-over : (b : List ℕ) (left : ℕ) → LeftAt Over b left → (0 < length b) × (left ≡ length b)
not-over b left l = let whole : b ≡ l.rest = rw l.cut.0 at l.bytes in (rw whole l.cut.1, rw whole l.count)

-- what a reader of all items answers
pub record Tells {Y : Type 0} (g : Grammar) (b : List ℕ) (o : Result Y ℕ) : Type 0 where
  pub fails : (at : ℕ) → o ≡ Err at → (left : ℕ) × (at ≡ length b - left) × LeftAt g b left
  pub back : (left : ℕ) → LeftAt g b left → o ≡ Err (length b - left)

pub told : {Y : Type 0} (g : Grammar) (read : List ℕ → Result Y ℕ) → ((b : List ℕ) → AreBytes b → Tells g b (read b)) → FaultsAreFirst g read
told {Y} g read tells b at h = (forth, λ f. to f)
  where
    forth : read b ≡ Err at → IsFirstFault g b at
    forth e =
        let w = (tells b h).fails at e in
        let l = w.2 in
        let sum : length b ≡ length l.front + length l.rest = ap (λ (t : List ℕ). length t) l.bytes ∙ length-append l.front l.rest in
        record { front = l.front; rest = l.rest; bytes = l.bytes; cut = l.cut; place = let p = w.1 in let c = l.count in omega (arith, p, c, sum) }

    to : IsFirstFault g b at → read b ≡ Err at
    to f =
        let sum : length b ≡ length f.front + length f.rest = ap (λ (t : List ℕ). length t) f.bytes ∙ length-append f.front f.rest in
        let here : length b - length f.rest ≡ at = let p = f.place in omega (arith, p, sum) in
        let e = (tells b h).back (length f.rest) (record { front = f.front; rest = f.rest; bytes = f.bytes; cut = f.cut; count = refl }) in
        e ∙ ap (λ (n : ℕ). let w : Result Y ℕ = Err n in w) here

-- all items, and then nothing more
pub all-tells : {X : Type 0} (g : Grammar) (b : List ℕ) (o : Result (X × List ℕ) ℕ) → Walks (λ n. length b - n) g (λ x. Over) b o → Tells g b (o >>= (λ p. all_read (length b) p))
all-tells {X} g b (Err k) w = record {
  fails = λ at e. let is : (let u : Result (X × List ℕ) ℕ = Err k in u) ≡ Err at = cc in w.fails at is;
  back = λ left l. by left (w.back left l);
}
  where
    by : (left : ℕ) → ((let u : Result (X × List ℕ) ℕ = Err k in u) ≡ Err (length b - left)) ⊎ ((x : X) × (r : List ℕ) × ((let u : Result (X × List ℕ) ℕ = Err k in u) ≡ Ok (x, r)) × LeftAt Over r left)
        → (let u : Result X ℕ = Err k in u) ≡ Err (length b - left)
    by left (inl e) = cc
    by left (inr s) = let e = s.2 in absurd (cc)
all-tells {X} g b (Ok p) w = record { fails = fails; back = λ left l. by left (w.back left l) }
  where
    errs : (m n : ℕ) → (let u : Result X ℕ = Err m in u) ≡ Err n → m ≡ n
    errs m n e = cc

    fails : (at : ℕ) → all_read (length b) p ≡ Err at → (left : ℕ) × (at ≡ length b - left) × LeftAt g b left
    fails at e =
        elim (cases_Bool (nat_eq (length p.1) 0)) [
          | inl t ↦ let e' = rw t at e in absurd (cc)
          | inr f ↦ (length p.1, sym (errs (length b - length p.1) at (rw f at e)), (w.goes p.0 p.1 refl).1 (length p.1) (over p.1 (grind (arith, nat_tests))))
        ]

    by : (left : ℕ) → ((let u : Result (X × List ℕ) ℕ = Ok p in u) ≡ Err (length b - left)) ⊎ ((x : X) × (r : List ℕ) × ((let u : Result (X × List ℕ) ℕ = Ok p in u) ≡ Ok (x, r)) × LeftAt Over r left)
        → all_read (length b) p ≡ Err (length b - left)
    by left (inl e) = absurd (cc)
    by left (inr s) =
        let parts = pair_parts p (s.0, s.1) (ok_is p (s.0, s.1) s.2) in
        let l = not-over s.1 left s.3 in
        let some : nat_eq (length p.1) 0 ≡ false = let q = l.0 in rw (parts.1) (grind (arith, nat_tests)) in
        let same : left ≡ length p.1 = rw parts.1 l.1 in
        rw (some, same) refl
