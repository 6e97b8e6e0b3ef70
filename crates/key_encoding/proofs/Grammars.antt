-- The reader takes just the spellings.
use Rattle.std.proofs.Common.{◌≡◌, ℕ, zero, suc, ℤ, pos, negsuc, ◌+◌, ◌-◌, ◌*◌, ◌/◌, ◌%◌, ◌^◌, ◌<◌, ◌≤◌, List, [], ◌∷◌, ◌++◌, length, take, drop, nat_lt, nat_le, nat_eq, true, false, inl, inr, arith, refl, ap, ◌∙◌, sym, Ok, Err, Result, if◌then◌else◌, ◌||◌, ◌&&◌, not, Bool, length-append}
use Rattle.std.specs.Int.{bytes_high_first, byte_at}
use Rattle.std.proofs.Math.Nat.{pow-le-pow_right, pow-succ', mod-eq_of_lt, mul-le-mul_left}
use Rattle.std.proofs.Math.Arith.{digits_div, digits_mod}
use Rattle.std.proofs.lemmas.List.{take-append-drop, length-take-le}
use Rattle.std.proofs.lemmas.Bool.{cases_Bool}
use Rattle.std.proofs.lemmas.Bool.Decides.{nat_tests}
use Rattle.key_encoding.specs.Coding.{IsSignedWord, IsWord}
use Rattle.list_laws.specs.Bytes.{AreBytes}
use Rattle.key_encoding.specs.Spelling.{byte_count, negative, uvarint, varint, varint_down}
use Rattle.key_encoding.specs.Reading.{below_sign, number_of, read_digits, read_negative, read_signed, read_uvarint, read_varint, read_varint_down, signed}
use Rattle.key_encoding.specs.declared.fault.KeyFault.{KeyFault}
use Rattle.key_encoding.proofs.Answered.{ok_parts, on_value-ok}
use Rattle.key_encoding.proofs.Digits.{digit, left_over, length_high, low_part, power_above, powers}
use Rattle.key_encoding.proofs.Counts.{Counts, counts}
use Rattle.key_encoding.proofs.SignedOrder.{first_high}
use Rattle.list_laws.proofs.Bytes.{bytes-take}

-- digits spell the number that they are of
pub number-high : (k v : ℕ) → number_of (bytes_high_first k v) ≡ v % 256 ^ k
number-high zero v = omega arith
number-high (suc k) v = rw (length_high k v, number-high k v, digit k v) refl

-- the digits in front of some bytes
front : (k v : ℕ) (r : List ℕ) → (take k (bytes_high_first k v ++ r) ≡ bytes_high_first k v) × (drop k (bytes_high_first k v ++ r) ≡ r)
front zero v r = (refl, refl)
front (suc k) v r = let h = front k v r in (ap (λ ds. byte_at k v ∷ ds) h.0, h.1)

reads_long : (v n : ℕ) (r : List ℕ) (len : ℕ) → n ≡ byte_count v → Counts v n → nat_lt v 110 ≡ false → read_digits n len (bytes_high_first n v ++ r) ≡ Ok (v, r)
reads_long v n r len e c long =
    let room : nat_lt (length (bytes_high_first n v ++ r)) n ≡ false =
    let l = length-append (bytes_high_first n v) r in let k = length_high n v in grind (arith, nat_tests) in
    let value : number_of (take n (bytes_high_first n v ++ r)) ≡ v = rw (front n v r).0 (number-high n v ∙ mod-eq_of_lt c.fits) in
    let same : nat_eq (byte_count v) n ≡ true = grind (arith, nat_tests) in
    rw (room, value, long, same, (front n v r).1) refl

pub uvarint-found : (v : ℕ) (r : List ℕ) → IsWord v → read_uvarint (uvarint v ++ r) ≡ Ok (v, r)
unfolding uvarint
uvarint-found v r w =
    elim (cases_Bool (nat_lt v 110)) [
      | inl t ↦
          let a : nat_lt (136 + v) 136 ≡ false = grind (arith, nat_tests) in
          let b : nat_lt 253 (136 + v) ≡ false = grind (arith, nat_tests) in
          let d : nat_le (136 + v) 245 ≡ true = grind (arith, nat_tests) in
          let e : (136 + v) - 136 ≡ v = omega arith in
          rw (t, a, b, d, e) refl
      | inr f ↦
          let n = byte_count v in
          let c = counts v w in
          let lo = c.least in
          let hi = c.most in
          let a : nat_lt (245 + n) 136 ≡ false = grind (arith, nat_tests) in
          let b : nat_lt 253 (245 + n) ≡ false = grind (arith, nat_tests) in
          let d : nat_le (245 + n) 245 ≡ false = grind (arith, nat_tests) in
          let e : (245 + n) - 245 ≡ n = omega arith in
          rw (f, a, b, d, e) (reads_long v n r (length ((245 + n) ∷ bytes_high_first n v ++ r)) refl c f)
    ]

-- digits in front of a number
pub byte-div : (k v : ℕ) → byte_at k v ≡ v / 256 ^ k % 256
byte-div zero v = let e : v / 1 ≡ v = omega arith in rw e refl
byte-div (suc k) v = refl

pub number-lt : (ds : List ℕ) → AreBytes ds → number_of ds < 256 ^ length ds
number-lt [] h = omega arith
number-lt (x ∷ ds) h =
    let n = number-lt ds h.1 in
    let b : x + 1 ≤ 256 = omega (arith, h.0) in
    rw (pow-succ' 256 (length ds)) (omega (arith, mul-le-mul_left (256 ^ length ds) b))

high-number : (h : ℕ) (ds : List ℕ) → AreBytes ds → bytes_high_first (length ds) (h * 256 ^ length ds + number_of ds) ≡ ds
high-number h [] bytes = refl
high-number h (x ∷ ds) bytes =
    let p = 256 ^ length ds in
    let shape : h * 256 ^ suc (length ds) + (x * 256 ^ length ds + number_of ds) ≡ (h * 256 + x) * 256 ^ length ds + number_of ds =
    rw (pow-succ' 256 (length ds)) (omega arith) in
    let head : byte_at (length ds) ((h * 256 + x) * 256 ^ length ds + number_of ds) ≡ x =
    byte-div (length ds) _ ∙ (ap (λ q. q % 256) (digits_div (h * 256 + x) (number-lt ds bytes.1)) ∙ digits_mod h bytes.0) in
    rw (shape, head) (ap (λ t. x ∷ t) (high-number (h * 256 + x) ds bytes.1))

spelled_long : (n len : ℕ) (rest : List ℕ) (v : ℕ) (r : List ℕ) → AreBytes rest → read_digits n len rest ≡ Ok (v, r) → (245 + n) ∷ rest ≡ uvarint v ++ r
unfolding uvarint
spelled_long n len rest v r bytes e =
    let got = number_of (take n rest) in
    elim (cases_Bool (nat_lt (length rest) n)) [
      | inl t ↦ let e' = rw t at e in cc
      | inr room ↦
          elim (cases_Bool (nat_lt got 110)) [
            | inl t ↦ let e' = rw (room, t) at e in cc
            | inr long ↦
                elim (cases_Bool (nat_eq (byte_count got) n)) [
                  | inr f ↦ let e' = rw (room, long, f) at e in cc
                  | inl same ↦
                      let e' = rw (room, long, same) at e in
                      let parts = ok_parts got v (drop n rest) r e' in
                      let is_v = parts.0 in
                      let is_r = parts.1 in
                      let count : byte_count got ≡ n = grind (arith, nat_tests) in
                      let len_is : length (take n rest) ≡ n = length-take-le n rest (grind (arith, nat_tests)) in
                      let digits : bytes_high_first n got ≡ take n rest =
                      let h = high-number 0 (take n rest) (bytes-take n rest bytes) in
                      let z : 0 * 256 ^ n + number_of (take n rest) ≡ number_of (take n rest) = omega arith in
                      rw (len_is, z) at h in
                      rw (← is_v, long, count, digits, ← is_r) (ap (λ t. (245 + n) ∷ t) (sym (take-append-drop n rest)))
                ]
          ]
    ]

pub uvarint-spelled : (b : List ℕ) (v : ℕ) (r : List ℕ) → AreBytes b → read_uvarint b ≡ Ok (v, r) → b ≡ uvarint v ++ r
unfolding uvarint
uvarint-spelled [] v r bytes e = cc
uvarint-spelled (x ∷ rest) v r bytes e =
    elim (cases_Bool (nat_lt x 136 || nat_lt 253 x)) [
      | inl t ↦ let e' = rw t at e in cc
      | inr marker ↦
          elim (cases_Bool (nat_le x 245)) [
            | inl small ↦
                let e' = rw (marker, small) at e in
                let parts = ok_parts (x - 136) v rest r e' in
                let is_v = parts.0 in
                let is_r = parts.1 in
                let lt : nat_lt v 110 ≡ true = grind (arith, nat_tests) in
                let first : 136 + v ≡ x = grind (arith, nat_tests) in
                rw (lt, first, is_r) refl
            | inr large ↦
                let e' = rw (marker, large) at e in
                let first : 245 + (x - 245) ≡ x = grind (arith, nat_tests) in
                rw first at (spelled_long (x - 245) (length (x ∷ rest)) rest v r bytes.1 e')
          ]
    ]

-- a number of n digits fits
fits_word : (n : ℕ) (ds : List ℕ) → n ≤ 8 → length ds ≡ n → AreBytes ds → number_of ds < 2 ^ 64
fits_word n ds h l bytes =
    let low : number_of ds < 256 ^ n = rw l at (number-lt ds bytes) in
    let top : 256 ^ n ≤ 256 ^ 8 = pow-le-pow_right (omega arith) h in
    omega arith

long-word : (n len : ℕ) (rest : List ℕ) (v : ℕ) (r : List ℕ) → n ≤ 8 → AreBytes rest → read_digits n len rest ≡ Ok (v, r) → IsWord v
long-word n len rest v r h bytes e =
    let got = number_of (take n rest) in
    elim (cases_Bool (nat_lt (length rest) n)) [
      | inl t ↦ let e' = rw t at e in absurd (cc)
      | inr room ↦ elim (cases_Bool (nat_lt got 110 || not (nat_eq (byte_count got) n))) [
        | inl t ↦ let e' = rw (room, t) at e in absurd (cc)
        | inr good ↦
            let parts = ok_parts got v (drop n rest) r (rw (room, good) at e) in
            let len_is : length (take n rest) ≡ n = length-take-le n rest (grind (arith, nat_tests)) in
            rw parts.0 at (fits_word n (take n rest) h len_is (bytes-take n rest bytes))
      ]
    ]

uvarint-word : (b : List ℕ) (v : ℕ) (r : List ℕ) → AreBytes b → read_uvarint b ≡ Ok (v, r) → IsWord v
uvarint-word [] v r bytes e = absurd (cc)
uvarint-word (x ∷ rest) v r bytes e =
    elim (cases_Bool (nat_lt x 136 || nat_lt 253 x)) [
      | inl t ↦ let e' = rw t at e in absurd (cc)
      | inr marker ↦
          elim (cases_Bool (nat_le x 245)) [
            | inl small ↦ let parts = ok_parts (x - 136) v rest r (rw (marker, small) at e) in rw (← parts.0) (omega (arith, bytes.0))
            | inr large ↦ long-word (x - 245) (length (x ∷ rest)) rest v r (grind (arith, nat_tests)) bytes.1 (rw (marker, large) at e)
          ]
    ]

pub uvarint-only : (b : List ℕ) (v : ℕ) (r : List ℕ) → AreBytes b → read_uvarint b ≡ Ok (v, r) → IsWord v × (b ≡ uvarint v ++ r)
uvarint-only b v r bytes e = (uvarint-word b v r bytes e, uvarint-spelled b v r bytes e)

-- numbers below 0
negative_long : (k n : ℕ) (r : List ℕ) (len : ℕ) → n ≡ byte_count (k + 1) → Counts (suc k) n → k < 2 ^ 63 → read_negative n len (bytes_high_first n (2 ^ 64 - suc k) ++ r) ≡ Ok (k, r)
negative_long k n r len e c fits =
    let top = c.fits in
    let room : nat_lt (length (bytes_high_first n (2 ^ 64 - suc k) ++ r)) n ≡ false =
    let l = length-append (bytes_high_first n (2 ^ 64 - suc k)) r in let q = length_high n (2 ^ 64 - suc k) in grind (arith, nat_tests) in
    let digits : number_of (take n (bytes_high_first n (2 ^ 64 - suc k) ++ r)) ≡ 256 ^ n - suc k =
    rw (front n (2 ^ 64 - suc k) r).0 (number-high n (2 ^ 64 - suc k) ∙ low_part n (suc k) c.most (omega arith) top) in
    let value : 256 ^ n - 1 - (256 ^ n - suc k) ≡ k = omega arith in
    let small : nat_le (2 ^ 63) k ≡ false = grind (arith, nat_tests) in
    let same : nat_eq (byte_count (k + 1)) n ≡ true = grind (arith, nat_tests) in
    rw (room, digits, value, small, same, (front n (2 ^ 64 - suc k) r).1) refl

negative-found : (k : ℕ) (r : List ℕ) → k < 2 ^ 63 → read_signed (negative k ++ r) ≡ Ok ((true, k), r)
unfolding negative
negative-found k r h =
    let n = byte_count (suc k) in
    let c = counts (suc k) (omega arith) in
    let lo = c.least in
    let hi = c.most in
    let a : nat_le 128 (136 - n) ≡ true = grind (arith, nat_tests) in
    let b : nat_lt (136 - n) 136 ≡ true = grind (arith, nat_tests) in
    let e : 136 - (136 - n) ≡ n = omega arith in
    let s : suc k ≡ k + 1 = omega arith in
    let read = negative_long k n r (length ((136 - n) ∷ bytes_high_first n (2 ^ 64 - suc k) ++ r)) (ap byte_count s) c h in
    rw (a, b, e, read) refl

-- a first byte of 136 or more begins no number below 0
not_low : (x : ℕ) (t : List ℕ) → 136 ≤ x → read_signed (x ∷ t) ≡ below_sign (read_uvarint (x ∷ t))
not_low x t h = let b : nat_lt x 136 ≡ false = grind (arith, nat_tests) in elim (cases_Bool (nat_le 128 x)) [ inl a ↦ rw (a, b) refl | inr a ↦ rw (a, b) refl ]

positive-found : (v : ℕ) (r : List ℕ) → v < 2 ^ 63 → read_signed (uvarint v ++ r) ≡ Ok ((false, v), r)
positive-found v r h =
    let f = first_high v r (omega arith) in
    let read = uvarint-found v r (omega arith) in
    let below : nat_lt v (2 ^ 63) ≡ true = grind (arith, nat_tests) in
    rw f.2 (not_low f.0 f.1 f.3 ∙ (ap (λ b. below_sign (read_uvarint b)) (sym f.2) ∙ rw (read, below) refl))

-- what is spelled for a number and for its complement
abbrev spelled_as : Bool → ℕ → List ℕ
spelled_as negated k = if negated then negative k else uvarint k

negative-only : (n len : ℕ) (rest : List ℕ) (k : ℕ) (r : List ℕ) → n ≤ 8 → AreBytes rest → read_negative n len rest ≡ Ok (k, r) → (k < 2 ^ 63) × ((136 - n) ∷ rest ≡ negative k ++ r)
unfolding negative
negative-only n len rest k r h bytes e =
    let num = number_of (take n rest) in
    let got = 256 ^ n - 1 - num in
    elim (cases_Bool (nat_lt (length rest) n)) [
      | inl t ↦ let e' = rw t at e in absurd (cc)
      | inr room ↦
          elim (cases_Bool (nat_le (2 ^ 63) got)) [
            | inl t ↦ let e' = rw (room, t) at e in absurd (cc)
            | inr small ↦
                elim (cases_Bool (nat_eq (byte_count (got + 1)) n)) [
                  | inr f ↦ let e' = rw (room, small, f) at e in absurd (cc)
                  | inl same ↦
                      let parts = ok_parts got k (drop n rest) r (rw (room, small, same) at e) in
                      let is_k = parts.0 in
                      let is_r = parts.1 in
                      let len_is : length (take n rest) ≡ n = length-take-le n rest (grind (arith, nat_tests)) in
                      let low : num < 256 ^ n = rw len_is at (number-lt (take n rest) (bytes-take n rest bytes)) in
                      let s : suc k ≡ got + 1 = omega arith in
                      let count : byte_count (suc k) ≡ n = ap byte_count s ∙ (let w : byte_count (got + 1) ≡ n = grind (arith, nat_tests) in w) in
                      let back : 256 ^ n - suc k ≡ num = omega arith in
                      let wrapped : 2 ^ 64 - suc k ≡ (256 ^ (8 - n) - 1) * 256 ^ n + num =
                      rw back at (left_over (256 ^ n) (256 ^ (8 - n)) (suc k) (powers n h) (power_above (8 - n)) (omega arith)) in
                      let digits : bytes_high_first n (2 ^ 64 - suc k) ≡ take n rest =
                      rw wrapped (rw len_is at (high-number (256 ^ (8 - n) - 1) (take n rest) (bytes-take n rest bytes))) in
                      let below : k < 2 ^ 63 = grind (arith, nat_tests) in
                      (below, rw (count, digits, ← is_r) (ap (λ t. (136 - n) ∷ t) (sym (take-append-drop n rest))))
                ]
          ]
    ]

below_sign-ok : (x : Result (ℕ × List ℕ) KeyFault) (negated : Bool) (k : ℕ) (r : List ℕ) → below_sign x ≡ Ok ((negated, k), r) → (negated ≡ false) × (k < 2 ^ 63) × (x ≡ Ok (k, r))
below_sign-ok (Err err) negated k r e = absurd (cc)
below_sign-ok (Ok p) negated k r e =
    elim (cases_Bool (nat_lt p.0 (2 ^ 63))) [
      | inr f ↦ let e' = rw f at e in absurd (cc)
      | inl t ↦
          let parts = ok_parts (false, p.0) (negated, k) p.1 r (rw t at e) in
          let flag : false ≡ negated = ap (λ (q : Bool × ℕ). q.0) parts.0 in
          let value : p.0 ≡ k = ap (λ (q : Bool × ℕ). q.1) parts.0 in
          let low : p.0 < 2 ^ 63 = grind (arith, nat_tests) in
          (sym flag, rw value at low, ap (λ (a : ℕ). let w : Result (ℕ × List ℕ) KeyFault = Ok (a, p.1) in w) value ∙ ap (λ (t : List ℕ). let w : Result (ℕ × List ℕ) KeyFault = Ok (k, t) in w) parts.1)
    ]

signed-only : (b : List ℕ) (negated : Bool) (k : ℕ) (r : List ℕ) → AreBytes b → read_signed b ≡ Ok ((negated, k), r) → (k < 2 ^ 63) × (b ≡ spelled_as negated k ++ r)
signed-only [] negated k r bytes e = absurd (cc)
signed-only (x ∷ rest) negated k r bytes e =
    elim (cases_Bool (nat_le 128 x && nat_lt x 136)) [
      | inl t ↦
          let read = on_value-ok (λ (j : ℕ). (true, j)) (read_negative (136 - x) (length (x ∷ rest)) rest) (negated, k) r (rw t at e) in
          let flag : true ≡ negated = ap (λ (q : Bool × ℕ). q.0) read.2 in
          let value : read.0 ≡ k = ap (λ (q : Bool × ℕ). q.1) read.2 in
          let first : 136 - (136 - x) ≡ x = grind (arith, nat_tests) in
          rw (← flag, ← value) (rw first at (negative-only (136 - x) (length (x ∷ rest)) rest read.0 r (grind (arith, nat_tests)) bytes.1 read.1))
      | inr f ↦
          let read = below_sign-ok (read_uvarint (x ∷ rest)) negated k r (rw f at e) in
          rw read.0 (read.1, uvarint-spelled (x ∷ rest) k r bytes read.2)
    ]

pub varint-found : (z : ℤ) (r : List ℕ) → IsSignedWord z → read_varint (varint z ++ r) ≡ Ok (z, r)
varint-found (pos v) r h = rw (positive-found v r h) refl
varint-found (negsuc k) r h = rw (negative-found k r h) refl

pub varint_down-found : (z : ℤ) (r : List ℕ) → IsSignedWord z → read_varint_down (varint_down z ++ r) ≡ Ok (z, r)
varint_down-found (pos v) r h = rw (negative-found v r h) refl
varint_down-found (negsuc k) r h = rw (positive-found k r h) refl

-- the value of a sign and a number
by_sign : (negated : Bool) (k : ℕ) (b r : List ℕ) (z : ℤ) → (k < 2 ^ 63) × (b ≡ spelled_as negated k ++ r) → signed negated k ≡ z → IsSignedWord z × (b ≡ varint z ++ r)
by_sign true k b r z h e = rw (← e) h
by_sign false k b r z h e = rw (← e) h

by_sign_down : (negated : Bool) (k : ℕ) (b r : List ℕ) (z : ℤ) → (k < 2 ^ 63) × (b ≡ spelled_as negated k ++ r) → signed (not negated) k ≡ z → IsSignedWord z × (b ≡ varint_down z ++ r)
by_sign_down true k b r z h e = rw (← e) h
by_sign_down false k b r z h e = rw (← e) h

pub varint-only : (b : List ℕ) (z : ℤ) (r : List ℕ) → AreBytes b → read_varint b ≡ Ok (z, r) → IsSignedWord z × (b ≡ varint z ++ r)
varint-only b z r bytes e =
    let read = on_value-ok (λ (p : Bool × ℕ). signed p.0 p.1) (read_signed b) z r e in
    by_sign read.0.0 read.0.1 b r z (signed-only b read.0.0 read.0.1 r bytes read.1) read.2

pub varint_down-only : (b : List ℕ) (z : ℤ) (r : List ℕ) → AreBytes b → read_varint_down b ≡ Ok (z, r) → IsSignedWord z × (b ≡ varint_down z ++ r)
varint_down-only b z r bytes e =
    let read = on_value-ok (λ (p : Bool × ℕ). signed (not p.0) p.1) (read_signed b) z r e in
    by_sign_down read.0.0 read.0.1 b r z (signed-only b read.0.0 read.0.1 r bytes read.1) read.2
