-- Texts that are tested byte by byte, with the bytes of one character held at a time.
use Rattle.std.proofs.Common.{◌≡◌, ℕ, zero, suc, ◌+◌, ◌<◌, ◌≤◌, Bool, true, false, nat_lt, nat_eq, List, [], ◌∷◌, ◌++◌, length, take, Result, Ok, Err, Option, Some, None, inl, inr, arith, refl, sym, ap, ◌∙◌, append_assoc, append-nil, length-append, add-one}
use Rattle.std.specs.Prelude.{IsUtf8, slice_set}
use Rattle.std.specs.Str.{is_utf8, chars}
use Rattle.std.specs.Char.{IsScalar}
use Rattle.std.proofs.Math.Utf8.{encode, encodes, scalar, scalars}
use Rattle.std.proofs.lemmas.Bool.{cases_Bool}
use Rattle.std.proofs.lemmas.List.{take_at, take-append-le, length-take-le, take_all, append_cancel_left}
use Rattle.std.proofs.lemmas.Bool.Decides.{nat_tests}
use Rattle.std.proofs.lemmas.Str.{length-encode, IsUtf8-nil, IsUtf8-encode, IsUtf8-append, IsUtf8-from_is_utf8, is_utf8-from_IsUtf8, chars_past_char, encodes-chars, scalars-chars}
use Rattle.key_encoding.specs.declared.fault.KeyFault.{KeyFault}
use Rattle.std.proofs.Math.Seq.{take-suc-set}
use Rattle.key_encoding.proofs.Answered.{ok_parts}
use Rattle.key_encoding.specs.Reading.{after_zero, on_value, read_next, unescaped}
use Rattle.key_encoding.specs.Spelling.{turned}
use Rattle.row_codec.specs.KeyChecking.{IsPart, held_bytes, text_after}
use Rattle.row_codec.specs.declared.checks.Held.{Held}
use Rattle.row_codec.proofs.KeyOrder.{both_true}
use Rattle.list_laws.proofs.Places.{none-left}

-- two tests that say the same
same_test : (a b : Bool) → (a ≡ true → b ≡ true) → (b ≡ true → a ≡ true) → a ≡ b
same_test true b f g = sym (f refl)
same_test false true f g = g refl
same_test false false f g = refl

not_true : (a : Bool) → (a ≡ true → ⊥) → a ≡ false
not_true true f = absurd (f refl)
not_true false f = refl

-- how long a character is
width : (c : ℕ) → (0 < length (encode c)) × (length (encode c) ≤ 4)
width c = rw (length-encode c) (grind arith)

-- no front of some bytes is a text, up to a length
abbrev pub NoTextUpTo : ℕ → List ℕ → Type 0
NoTextUpTo n b = (m : ℕ) → 0 < m → m ≤ n → is_utf8 (take m b) ≡ false

-- the first character of a text is a text in front of it
first_char : (b : List ℕ) → is_utf8 b ≡ true → 0 < length b → (c : ℕ) × (rest : List ℕ) × (b ≡ encode c ++ rest) × IsScalar c × IsUtf8 rest
first_char b t some = by (IsUtf8-from_is_utf8 b t).0 (IsUtf8-from_is_utf8 b t).1.0 (IsUtf8-from_is_utf8 b t).1.1
  where
    by : (cs : List ℕ) → scalars cs ≡ true → encodes cs ≡ b → (c : ℕ) × (rest : List ℕ) × (b ≡ encode c ++ rest) × IsScalar c × IsUtf8 rest
    by [] s e = let none : length b ≡ 0 = ap (λ (t : List ℕ). length t) (sym e) in absurd (omega arith)
    by (c ∷ cs) s e = let p = both_true (scalar c) (scalars cs) s in (c, encodes cs, sym e, p.0, (cs, (p.1, refl)))

front_text : (b : List ℕ) (c : ℕ) (rest : List ℕ) → b ≡ encode c ++ rest → IsScalar c → is_utf8 (take (length (encode c)) b) ≡ true
front_text b c rest e s = rw (e, take_at (encode c) rest (length (encode c)) refl) (is_utf8-from_IsUtf8 (encode c) (IsUtf8-encode c s))

char_front : (b : List ℕ) → is_utf8 b ≡ true → 0 < length b → NoTextUpTo 4 b → ⊥
char_front b t some none =
    let f = first_char b t some in
    let w = width f.0 in
    let whole = front_text b f.0 f.1 f.2 f.3 in
    let no = none (length (encode f.0)) w.0 w.1 in
    absurd (cc)

-- four bytes that no character begins
pub no_char : (b v : List ℕ) → length b ≡ 4 → NoTextUpTo 4 b → is_utf8 (b ++ v) ≡ false
no_char b v l none =
    not_true (is_utf8 (b ++ v)) (λ t. char_front (b ++ v) t (omega (arith, length-append b v)) (λ m p q. rw (take-append-le m b v (omega arith)) (none m p q)))

past_char : (c : ℕ) (v : List ℕ) → IsScalar c → is_utf8 (encode c ++ v) ≡ is_utf8 v
past_char c v s = same_test (is_utf8 (encode c ++ v)) (is_utf8 v) (λ t.
    let whole = IsUtf8-from_is_utf8 (encode c ++ v) t in
    let is = chars_past_char (encode c ++ v) v c whole refl in
    let spell : encode c ++ encodes (chars v) ≡ encode c ++ v = rw is at (encodes-chars (encode c ++ v) whole) in
    let all : scalars (c ∷ chars v) ≡ true = rw is at (scalars-chars (encode c ++ v) whole) in
    is_utf8-from_IsUtf8 v (chars v, ((both_true (scalar c) (scalars (chars v)) all).1, append_cancel_left (encode c) (encodes (chars v)) v spell))) (λ t.
    is_utf8-from_IsUtf8 (encode c ++ v) (IsUtf8-append (encode c) v (IsUtf8-encode c s) (IsUtf8-from_is_utf8 v t)))

-- a whole character
pub whole_char : (b v : List ℕ) → 0 < length b → is_utf8 b ≡ true → ((m : ℕ) → 0 < m → m < length b → is_utf8 (take m b) ≡ false) → is_utf8 (b ++ v) ≡ is_utf8 v
whole_char b v some t none =
    let f = first_char b t some in
    let w = width f.0 in
    let n = length (encode f.0) in
    let split = length-append (encode f.0) f.1 in
    let len : length b ≡ n + length f.1 = ap (λ (u : List ℕ). length u) f.2 ∙ split in
    elim (cases_Bool (nat_lt n (length b))) [
      | inl more ↦
          let front = front_text b f.0 f.1 f.2 f.3 in
          let no = none n w.0 (grind (arith, nat_tests)) in
          absurd (cc)
      | inr all ↦
          let rest : f.1 ≡ [] = none-left f.1 (let le : length b ≤ n = grind (arith, nat_tests) in omega arith) in
          let is : b ≡ encode f.0 = f.2 ∙ (ap (λ u. encode f.0 ++ u) rest ∙ append-nil (encode f.0)) in
          rw is (past_char f.0 v f.3)
    ]

-- ---- the bytes that are held

-- one byte more, as the code holds it
grown : (h : Held) (x : ℕ) → IsPart h → length h.bytes ≡ 4 → take (h.count + 1) (slice_set h.bytes h.count x) ≡ held_bytes h ++ x ∷ []
grown h x part l = let few = part.few in rw add-one (take-suc-set h.bytes h.count x (omega arith))

take-inside : (m n : ℕ) (b : List ℕ) → m ≤ n → take m (take n b) ≡ take m b
take-inside zero n b h = refl
take-inside (suc m) zero b h = absurd (omega arith)
take-inside (suc m) (suc n) [] h = refl
take-inside (suc m) (suc n) (x ∷ b) h = ap (λ t. x ∷ t) (take-inside m n b (omega arith))

-- no front of what is held and one byte more is a text, short of all of it
no_front : (h : Held) (x : ℕ) → IsPart h → length h.bytes ≡ 4 → (m : ℕ) → 0 < m → m < length (held_bytes h ++ x ∷ []) → is_utf8 (take m (held_bytes h ++ x ∷ [])) ≡ false
no_front h x part l m some lt =
    let few = part.few in
    let held : length (held_bytes h) ≡ h.count = length-take-le h.count h.bytes (omega arith) in
    let whole = length-append (held_bytes h) (x ∷ []) in
    let inside : m ≤ h.count = omega arith in
    rw (take-append-le m (held_bytes h) (x ∷ []) (omega arith), take-inside m h.count h.bytes inside) (part.none m some inside)

pub whole_step : (h : Held) (x : ℕ) (read : Result (List ℕ × List ℕ) KeyFault) → IsPart h → length h.bytes ≡ 4 → is_utf8 (take (h.count + 1) (slice_set h.bytes h.count x)) ≡ true
    → text_after [] read ≡ text_after (held_bytes h ++ x ∷ []) read
whole_step h x (Ok p) part l t =
    let text = rw (grown h x part l) at t in
    let some : 0 < length (held_bytes h ++ x ∷ []) = omega (arith, length-append (held_bytes h) (x ∷ [])) in
    rw (whole_char (held_bytes h ++ x ∷ []) p.0 some text (no_front h x part l)) refl
whole_step h x (Err e) part l t = refl

pub last_step : (h : Held) (x : ℕ) (read : Result (List ℕ × List ℕ) KeyFault) → IsPart h → length h.bytes ≡ 4 → is_utf8 (take (h.count + 1) (slice_set h.bytes h.count x)) ≡ false → h.count + 1 ≡ 4
    → text_after (held_bytes h ++ x ∷ []) read ≡ None
last_step h x (Ok p) part l f four =
    let b = held_bytes h ++ x ∷ [] in
    let few = part.few in
    let held : length (held_bytes h) ≡ h.count = length-take-le h.count h.bytes (omega arith) in
    let len : length b ≡ 4 = omega (arith, length-append (held_bytes h) (x ∷ [])) in
    let no = rw (grown h x part l) at f in
    let none : NoTextUpTo 4 b = λ m some le. elim (cases_Bool (nat_lt m 4)) [
      | inl lt ↦ no_front h x part l m some (let lt' : m < 4 = grind (arith, nat_tests) in omega arith)
      | inr ge ↦ let is : take m b ≡ b = take_all m b (let ge' : 4 ≤ m = grind (arith, nat_tests) in omega arith) in rw is no
    ] in
    rw (no_char b p.0 len none) refl
last_step h x (Err e) part l f four = refl

-- ---- the bytes that come

abbrev continued : Bool → ℕ → Option ℕ → List ℕ → Result (List ℕ × List ℕ) KeyFault
continued down len (Some x) rest = on_value (λ v. x ∷ v) (unescaped down len false rest)
continued down len None rest = Ok ([], rest)

zero-is : (down : Bool) (n len : ℕ) (b : List ℕ) (o : Option ℕ) (rest : List ℕ) → after_zero down n b ≡ Ok (o, rest) → unescaped down len true b ≡ continued down len o rest
zero-is down n len [] o rest e = absurd (cc)
zero-is down n len (y ∷ b) o rest e =
    elim (cases_Bool (nat_eq (turned down y) 255)) [
      | inl f ↦ let p = ok_parts (Some 0) o b rest (rw f at e) in rw (f, ← p.0, ← p.1) refl
      | inr g ↦ elim (cases_Bool (nat_eq (turned down y) 1)) [
        | inl one ↦ let p = ok_parts None o b rest (rw (g, one) at e) in rw (g, one, ← p.0, ← p.1) refl
        | inr k ↦ let e' = rw (g, k) at e in absurd (cc)
      ]
    ]

next-is : (down : Bool) (n len : ℕ) (b : List ℕ) (o : Option ℕ) (rest : List ℕ) → read_next down n b ≡ Ok (o, rest) → unescaped down len false b ≡ continued down len o rest
next-is down n len [] o rest e = absurd (cc)
next-is down n len (x ∷ b) o rest e =
    elim (cases_Bool (nat_eq (turned down x) 0)) [
      | inl z ↦ rw z (zero-is down n len b o rest (rw z at e))
      | inr f ↦ let p = ok_parts (Some (turned down x)) o b rest (rw f at e) in rw (f, ← p.0, ← p.1) refl
    ]

more_text : (held : List ℕ) (x : ℕ) (r : Result (List ℕ × List ℕ) KeyFault) → text_after held (on_value (λ v. x ∷ v) r) ≡ text_after (held ++ x ∷ []) r
more_text held x (Ok p) = rw (append_assoc held (x ∷ []) p.0) refl
more_text held x (Err e) = refl

-- a byte that no text goes on with, and the end
pub no_text : (down : Bool) (n len : ℕ) (h : List ℕ) (b rest : List ℕ) (x : ℕ) (whole : Option (List ℕ)) → read_next down n b ≡ Ok (Some x, rest)
    → ((read : Result (List ℕ × List ℕ) KeyFault) → text_after (h ++ x ∷ []) read ≡ None) → text_after h (unescaped down len false b) ≡ whole → None ≡ whole
no_text down n len h b rest x whole e none is =
    sym (none (unescaped down len false rest)) ∙ (sym (more_text h x (unescaped down len false rest)) ∙ (ap (text_after h) (sym (next-is down n len b (Some x) rest e)) ∙ is))

pub text_ends : (down : Bool) (n len : ℕ) (b rest : List ℕ) (whole : Option (List ℕ)) → read_next down n b ≡ Ok (None, rest) → text_after [] (unescaped down len false b) ≡ whole → Some rest ≡ whole
text_ends down n len b rest whole e is =
    let empty : is_utf8 [] ≡ true = is_utf8-from_IsUtf8 [] IsUtf8-nil in
    rw empty at (ap (text_after []) (sym (next-is down n len b None rest e)) ∙ is)
