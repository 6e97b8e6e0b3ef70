-- Formats stay formats as fields are put together.
use Rattle.std.proofs.Common.{◌≡◌, ℕ, zero, suc, ◌<◌, ◌^◌, Bool, true, false, List, [], ◌∷◌, ◌++◌, length, take, drop, nat_eq, nat_le, Option, Some, None, Result, Ok, Err, inl, inr, arith, refl, sym, ap, ◌∙◌, append_assoc, append-nil, length-append}
use Rattle.std.proofs.lemmas.Bool.{cases_Bool}
use Rattle.std.proofs.lemmas.Bool.Decides.{nat_tests}
use Rattle.std.proofs.lemmas.List.{take_at, drop_at, take-append-drop, length-take-le}
use Rattle.key_encoding.specs.Coding.{IsWord}
use Rattle.list_laws.specs.Bytes.{AreBytes}
use Rattle.key_encoding.specs.Spelling.{uvarint}
use Rattle.key_encoding.specs.Reading.{read_uvarint}
use Rattle.key_encoding.specs.declared.fault.KeyFault.{KeyFault}
use Rattle.key_encoding.proofs.Grammars.{uvarint-found, uvarint-only}
use Rattle.mvcc_keys.specs.Times.{IsTime}
use Rattle.mvcc_keys.specs.Codes.{time_bytes, read_time_bytes}
use Rattle.mvcc_keys.proofs.CodeLaws.{time_bytes-exact}
use Rattle.row_codec.specs.RowValues.{sized}
use Rattle.row_codec.proofs.KeyLaws.{pair_parts, some_is}
use Rattle.table_descriptors.specs.Names.{is_name}
use Rattle.table_descriptors.specs.Fields.{IsFormat, and_value, and_next, ◌then◌, made_of, tested, such, begun_at, item, codes_of, EachAfter, read_on, read_items, or_left, number_or, read_number, is_id, read_id, is_count, read_count, read_exactly, read_sized, read_name, read_time, with_rest, read_byte, flag_of, flag_code, list_code, read_list, whole}
use Rattle.list_laws.proofs.Bytes.{bytes-after}
use Rattle.list_laws.proofs.Places.{none-left_test}

-- ---- one field after another

pub ok_parts : {X : Type 0} (p q : X × List ℕ) → (let w : Result (X × List ℕ) ℕ = Ok p in w ≡ Ok q) → (p.0 ≡ q.0) × (p.1 ≡ q.1)
ok_parts {X} p q e = let same : p ≡ q = cc in pair_parts p q same

and_value-ok : {X Y : Type 0} (x : X) (o : Result (Y × List ℕ) ℕ) (p : X × Y) (r : List ℕ) → and_value x o ≡ Ok (p, r) → (x ≡ p.0) × (o ≡ Ok (p.1, r))
and_value-ok {X} {Y} x (Ok q) p r e =
    let parts = ok_parts ((x, q.0), q.1) (p, r) e in (
      ap (λ (t : X × Y). t.0) parts.0,
      ap (λ (y : Y). let w : Result (Y × List ℕ) ℕ = Ok (y, q.1) in w) (ap (λ (t : X × Y). t.1) parts.0) ∙ ap (λ (u : List ℕ). let w : Result (Y × List ℕ) ℕ = Ok (p.1, u) in w) parts.1,
    )
and_value-ok x (Err left) p r e = absurd (cc)

and_next-ok : {X Y : Type 0} (next : X → List ℕ → Result (Y × List ℕ) ℕ) (o : Result (X × List ℕ) ℕ) (p : X × Y) (r : List ℕ) → and_next next o ≡ Ok (p, r)
    → (t : List ℕ) × (o ≡ Ok (p.0, t)) × (next p.0 t ≡ Ok (p.1, r))
and_next-ok {X} next (Ok q) p r e =
    let is = and_value-ok q.0 (next q.0 q.1) p r e in
    (q.1, ap (λ (x : X). let w : Result (X × List ℕ) ℕ = Ok (x, q.1) in w) is.0, rw (← is.0) is.1)
and_next-ok next (Err left) p r e = absurd (cc)

pub then-format : {X Y : Type 0} {P : X → Type 0} {Q : X → Y → Type 0} {code : X → List ℕ} {codes : X → Y → List ℕ}
    {first : List ℕ → Result (X × List ℕ) ℕ} {next : X → List ℕ → Result (Y × List ℕ) ℕ} → IsFormat P code first → ((x : X) → IsFormat (Q x) (codes x) (next x))
    → IsFormat (λ (p : X × Y). P p.0 × Q p.0 p.1) (λ p. code p.0 ++ codes p.0 p.1) (first then next)
then-format {X} {Y} {P} {Q} {code} {codes} {first} {next} f g = record {
  found = λ p r h. rw (append_assoc (code p.0) (codes p.0 p.1) r, f.found p.0 (codes p.0 p.1 ++ r) h.0, (g p.0).found p.1 r h.1) refl;
  only = λ b p r h e.
      let is = and_next-ok next (first b) p r e in
      let front = f.only b p.0 is.0 h is.1 in
      let back = (g p.0).only is.0 p.1 r (bytes-after (code p.0) is.0 (rw front.1 at h)) is.2 in
      ((front.0, back.0), front.1 ∙ (ap (λ t. code p.0 ++ t) back.1 ∙ sym (append_assoc (code p.0) (codes p.0 p.1) r)));
}

pub made_of-ok : {X Y : Type 0} (make : X → Y) (o : Result (X × List ℕ) ℕ) (y : Y) (r : List ℕ) → made_of make o ≡ Ok (y, r) → (x : X) × (o ≡ Ok (x, r)) × (make x ≡ y)
made_of-ok {X} make (Ok p) y r e =
    let parts = ok_parts (make p.0, p.1) (y, r) e in
    (p.0, ap (λ (u : List ℕ). let w : Result (X × List ℕ) ℕ = Ok (p.0, u) in w) parts.1, parts.0)
made_of-ok make (Err left) y r e = absurd (cc)

-- another view of the same values
pub made-format : {X Y : Type 0} {P : X → Type 0} {code : X → List ℕ} {read : List ℕ → Result (X × List ℕ) ℕ} (Q : Y → Type 0) (make : X → Y) (parts : Y → X)
    → IsFormat P code read → ((y : Y) → Q y → P (parts y) × (make (parts y) ≡ y)) → ((x : X) → P x → Q (make x) × (parts (make x) ≡ x))
    → IsFormat Q (λ y. code (parts y)) (λ b. made_of make (read b))
made-format {X} {Y} {P} {code} {read} Q make parts f into back = record {
  found = λ y r h. let is = into y h in rw (f.found (parts y) r is.0, is.1) refl;
  only = λ b y r h e.
      let is = made_of-ok make (read b) y r e in
      let was = f.only b is.0 r h is.1 in
      let made = back is.0 was.0 in
      (rw is.2 at made.0, rw (← is.2, made.1) was.1);
}

tested-ok : {X : Type 0} (ok : X → Bool) (at : ℕ) (o : Result (X × List ℕ) ℕ) (x : X) (r : List ℕ) → tested ok at o ≡ Ok (x, r) → (o ≡ Ok (x, r)) × (ok x ≡ true)
tested-ok {X} ok at (Ok p) x r e =
    elim (cases_Bool (ok p.0)) [
      | inl t ↦ let same : (let w : Result (X × List ℕ) ℕ = Ok p in w) ≡ Ok (x, r) = rw t at e in let parts = ok_parts p (x, r) same in (same, rw parts.0 at t)
      | inr f ↦ let e' = rw f at e in absurd (cc)
    ]
tested-ok ok at (Err left) x r e = absurd (cc)

pub such-format : {X : Type 0} {P : X → Type 0} {code : X → List ℕ} {read : List ℕ → Result (X × List ℕ) ℕ} (ok : X → Bool)
    → IsFormat P code read → IsFormat (λ x. P x × (ok x ≡ true)) code (such ok read)
such-format {X} {P} {code} {read} ok f = record {
  found = λ x r h. rw (f.found x r h.0, h.1) refl;
  only = λ b x r h e.
      let is = tested-ok ok (length b) (read b) x r e in
      let was = f.only b x r h is.0 in
      ((was.0, is.1), was.1);
}

begun_at-ok : {X : Type 0} (at : ℕ) (o : Result (X × List ℕ) ℕ) (p : X × List ℕ) → begun_at at o ≡ Ok p → o ≡ Ok p
begun_at-ok at (Ok q) p e = e
begun_at-ok at (Err left) p e = absurd (cc)

pub item-format : {X : Type 0} {P : X → Type 0} {code : X → List ℕ} {read : List ℕ → Result (X × List ℕ) ℕ} → IsFormat P code read → IsFormat P code (item read)
item-format {X} {P} {code} {read} f = record {
  found = λ x r h. rw (f.found x r h) refl;
  only = λ b x r h e. f.only b x r h (begun_at-ok (length b) (read b) (x, r) e);
}

-- ---- lists

read_on-ok : {X : Type 0} (others : List X → List ℕ → Result (List X × List ℕ) ℕ) (before : List X) (o : Result (X × List ℕ) ℕ) (ys : List X) (r : List ℕ) → read_on others before o ≡ Ok (ys, r)
    → (x : X) × (t : List ℕ) × (o ≡ Ok (x, t)) × (others (before ++ x ∷ []) t ≡ Ok (ys, r))
read_on-ok others before (Ok p) ys r e = (p.0, p.1, refl, e)
read_on-ok others before (Err left) ys r e = absurd (cc)

-- so many values that came after others were read from here
pub record Came {X : Type 0} (P : List X → X → Type 0) (code : X → List ℕ) (n : ℕ) (before ys : List X) (b r : List ℕ) : Type 0 where
  pub xs : List X
  pub all : ys ≡ before ++ xs
  pub count : length xs ≡ n
  pub each : EachAfter P before xs
  pub spelled : b ≡ codes_of code xs ++ r

items-found : {X : Type 0} {P : List X → X → Type 0} {code : X → List ℕ} {one : List X → List ℕ → Result (X × List ℕ) ℕ} → ((before : List X) → IsFormat (P before) code (one before))
    → (n : ℕ) (before xs : List X) (r : List ℕ) → length xs ≡ n → EachAfter P before xs → read_items one n before (codes_of code xs ++ r) ≡ Ok (before ++ xs, r)
items-found f zero before [] r c h = rw (append-nil before) refl
items-found f zero before (x ∷ xs) r c h = absurd (omega arith)
items-found f (suc n) before [] r c h = absurd (omega arith)
items-found {X} {P} {code} {one} f (suc n) before (x ∷ xs) r c h =
    rw (append_assoc (code x) (codes_of code xs) r, (f before).found x (codes_of code xs ++ r) h.0, items-found f n (before ++ x ∷ []) xs r (omega arith) h.1, append_assoc before (x ∷ []) xs) refl

items-only : {X : Type 0} {P : List X → X → Type 0} {code : X → List ℕ} {one : List X → List ℕ → Result (X × List ℕ) ℕ} → ((before : List X) → IsFormat (P before) code (one before))
    → (n : ℕ) (before ys : List X) (b r : List ℕ) → AreBytes b → read_items one n before b ≡ Ok (ys, r) → Came P code n before ys b r
items-only f zero before ys b r h e =
    let is = ok_parts (before, b) (ys, r) e in
    record { xs = []; all = sym is.0 ∙ sym (append-nil before); count = refl; each = tt; spelled = is.1 }
items-only {X} {P} {code} {one} f (suc n) before ys b r h e =
    let step = read_on-ok (read_items one n) before (one before b) ys r e in
    let first = (f before).only b step.0 step.1 h step.2 in
    let others = items-only f n (before ++ step.0 ∷ []) ys step.1 r (bytes-after (code step.0) step.1 (rw first.1 at h)) step.3 in
    record {
      xs = step.0 ∷ others.xs;
      all = others.all ∙ append_assoc before (step.0 ∷ []) others.xs;
      count = ap (λ k. suc k) others.count;
      each = (first.0, others.each);
      spelled = first.1 ∙ (ap (λ t. code step.0 ++ t) others.spelled ∙ sym (append_assoc (code step.0) (codes_of code others.xs) r));
    }

pub items-format : {X : Type 0} {P : List X → X → Type 0} {code : X → List ℕ} {one : List X → List ℕ → Result (X × List ℕ) ℕ} → ((before : List X) → IsFormat (P before) code (one before))
    → (n : ℕ) → IsFormat (λ xs. (length xs ≡ n) × EachAfter P [] xs) (codes_of code) (read_items one n [])
items-format {X} {P} {code} {one} f n = record {
  found = λ xs r h. items-found f n [] xs r h.0 h.1;
  only = λ b xs r h e. let came = items-only f n [] xs b r h e in rw came.all ((came.count, came.each), came.spelled);
}

-- ---- fields

number_or-ok : (at : ℕ) (o : Result (ℕ × List ℕ) KeyFault) (p : ℕ × List ℕ) → number_or at o ≡ Ok p → o ≡ Ok p
number_or-ok at (Ok q) p e = cc
number_or-ok at (Err fault) p e = absurd (cc)

pub number-format : IsFormat IsWord uvarint read_number
number-format = record {
  found = λ v r h. rw (uvarint-found v r h) refl;
  only = λ b v r h e. uvarint-only b v r h (number_or-ok (length b) (read_uvarint b) (v, r) e);
}

pub id-format : IsFormat (λ n. IsWord n × (is_id n ≡ true)) uvarint read_id
id-format = such-format is_id number-format

pub count-format : IsFormat (λ n. (IsWord n × (is_id n ≡ true)) × (is_count n ≡ true)) uvarint read_count
count-format = such-format is_count id-format

pub exactly-format : (n : ℕ) → IsFormat (λ v. length v ≡ n) (λ v. v) (read_exactly n)
exactly-format n = record {
  found = λ v r h.
      let room : nat_le n (length (v ++ r)) ≡ true = let l = length-append v r in grind (arith, nat_tests) in
      rw (room, take_at v r n h, drop_at v r n h) refl;
  only = λ b v r h e.
      elim (cases_Bool (nat_le n (length b))) [
        | inl y ↦
            let parts = ok_parts (take n b, drop n b) (v, r) (rw y at e) in
            rw (← parts.0, ← parts.1) (length-take-le n b (grind (arith, nat_tests)), sym (take-append-drop n b))
        | inr f ↦ let e' = rw f at e in absurd (cc)
      ];
}

pub sized-format : IsFormat (λ b. length b < 2 ^ 64) sized read_sized
sized-format = made-format (λ b. length b < 2 ^ 64) (λ (p : ℕ × List ℕ). p.1) (λ v. (length v, v)) (item-format (then-format number-format exactly-format))
    (λ v h. ((h, refl), refl)) (λ p h. (rw h.1 h.0, rw h.1 refl))

pub name-format : IsFormat (λ n. (length n < 2 ^ 64) × (is_name n ≡ true)) sized read_name
name-format = such-format is_name sized-format

or_left-ok : {X : Type 0} (at : ℕ) (o : Option X) (x : X) → or_left at o ≡ Ok x → o ≡ Some x
or_left-ok at (Some y) x e = cc
or_left-ok at None x e = absurd (cc)

pub time-format : IsFormat IsTime time_bytes read_time
time-format = record {
  found = λ t r h. rw (time_bytes-exact.found t r h) refl;
  only = λ b t r h e. time_bytes-exact.only b t r h (or_left-ok (length b) (read_time_bytes b) (t, r) e);
}

with_rest-some : {X : Type 0} (rest : List ℕ) (o : Option X) (x : X) (r : List ℕ) → with_rest rest o ≡ Some (x, r) → (o ≡ Some x) × (rest ≡ r)
with_rest-some rest (Some y) x r e = let parts = pair_parts (y, rest) (x, r) (some_is (y, rest) (x, r) e) in (ap (λ t. Some t) parts.0, parts.1)
with_rest-some rest None x r e = absurd (cc)

-- a byte with a meaning
pub byte-format : {X : Type 0} (P : X → Type 0) (means : ℕ → Option X) (code : X → ℕ) → ((x : X) → P x → means (code x) ≡ Some x) → ((n : ℕ) (x : X) → means n ≡ Some x → P x × (n ≡ code x))
    → IsFormat P (λ x. code x ∷ []) (read_byte means)
byte-format {X} P means code into back = record {
  found = λ x r h. rw (into x h) refl;
  only = only;
}
  where
    only : (b : List ℕ) (x : X) (r : List ℕ) → AreBytes b → read_byte means b ≡ Ok (x, r) → P x × (b ≡ code x ∷ r)
    only [] x r h e = absurd (cc)
    only (n ∷ b) x r h e =
        let is = with_rest-some b (means n) x r (or_left-ok (suc (length b)) (with_rest b (means n)) (x, r) e) in
        let was = back n x is.0 in
        (was.0, rw (was.1, is.1) refl)

flag_of-some : (n : ℕ) (x : Bool) → flag_of n ≡ Some x → Unit {0} × (n ≡ flag_code x)
flag_of-some n x e =
    elim (cases_Bool (nat_eq n 0)) [
      | inl z ↦ let e' : Some false ≡ Some x = rw z at e in let is : n ≡ 0 = grind (arith, nat_tests) in (tt, rw (← some_is false x e', is) refl)
      | inr g ↦ elim (cases_Bool (nat_eq n 1)) [
        | inl o ↦ let e' : Some true ≡ Some x = rw (g, o) at e in let is : n ≡ 1 = grind (arith, nat_tests) in (tt, rw (← some_is true x e', is) refl)
        | inr k ↦ let e' = rw (g, k) at e in absurd (cc)
      ]
    ]

flag_code-means : (x : Bool) → Unit {0} → flag_of (flag_code x) ≡ Some x
flag_code-means true h = refl
flag_code-means false h = refl

pub flag-format : IsFormat (λ _. Unit {0}) (λ b. flag_code b ∷ []) (read_byte flag_of)
flag-format = byte-format (λ _. Unit {0}) flag_of flag_code flag_code-means flag_of-some

-- ---- a count and values

pub list-format : {X : Type 0} {P : ℕ → List X → X → Type 0} {code : X → List ℕ} {one : ℕ → List X → List ℕ → Result (X × List ℕ) ℕ} (ok : ℕ → Bool)
    → ((n : ℕ) (before : List X) → IsFormat (P n before) code (one n before))
    → IsFormat (λ xs. (IsWord (length xs) × (ok (length xs) ≡ true)) × EachAfter (P (length xs)) [] xs) (list_code code) (read_list ok one)
list-format {X} {P} {code} {one} ok f = made-format (λ xs. (IsWord (length xs) × (ok (length xs) ≡ true)) × EachAfter (P (length xs)) [] xs) (λ (p : ℕ × List X). p.1) (λ xs. (length xs, xs))
    (then-format (such-format ok number-format) (λ n. items-format (f n) n)) (λ xs h. ((h.0, (refl, h.1)), refl)) (λ p h. (rw h.1.0 (h.0, h.1.1), rw h.1.0 refl))

-- ---- whole inputs

whole-ok : {X : Type 0} (len : ℕ) (o : Result (X × List ℕ) ℕ) (x : X) → whole len o ≡ Ok x → o ≡ Ok (x, [])
whole-ok {X} len (Ok p) x e =
    elim (cases_Bool (nat_eq (length p.1) 0)) [
      | inl t ↦
          let same : (let w : Result X ℕ = Ok p.0 in w) ≡ Ok x = rw t at e in
          let value : p.0 ≡ x = cc in
          ap (λ (y : X). let w : Result (X × List ℕ) ℕ = Ok (y, p.1) in w) value ∙ ap (λ (r : List ℕ). let w : Result (X × List ℕ) ℕ = Ok (x, r) in w) (none-left_test p.1 t)
      | inr f ↦ let e' = rw f at e in absurd (cc)
    ]
whole-ok len (Err left) x e = absurd (cc)

pub whole-found : {X : Type 0} {P : X → Type 0} {code : X → List ℕ} {read : List ℕ → Result (X × List ℕ) ℕ} → IsFormat P code read → (x : X) → P x → whole (length (code x)) (read (code x)) ≡ Ok x
whole-found {X} {P} {code} {read} f x h = let all = rw (append-nil (code x)) at (f.found x [] h) in rw all refl

pub whole-only : {X : Type 0} {P : X → Type 0} {code : X → List ℕ} {read : List ℕ → Result (X × List ℕ) ℕ} → IsFormat P code read → (b : List ℕ) (x : X) → AreBytes b → whole (length b) (read b) ≡ Ok x → P x × (b ≡ code x)
whole-only {X} {P} {code} {read} f b x h e = let was = f.only b x [] h (whole-ok (length b) (read b) x e) in (was.0, was.1 ∙ append-nil (code x))

-- ---- writing

-- what keeps a longer front keeps a shorter one
pub kept_front : (out more all : List ℕ) → take (length (out ++ more)) all ≡ out ++ more → take (length out) all ≡ out
kept_front [] more all h = refl
kept_front (x ∷ out) more [] h = absurd (cc)
kept_front (x ∷ out) more (y ∷ all) h =
    let first : y ≡ x = cc in
    let rest : take (length (out ++ more)) all ≡ out ++ more = cc in
    rw (first, kept_front out more all rest) refl
