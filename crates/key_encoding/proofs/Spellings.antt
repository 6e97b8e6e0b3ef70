-- The forms of a number's spelling.
use Rattle.std.proofs.Common.{◌≡◌, ℕ, suc, ◌+◌, ◌-◌, ◌^◌, ◌<◌, ◌≤◌, List, [], ◌∷◌, drop, take, nat_lt, true, false, refl, arith, ap, sym, ◌∙◌}
use Rattle.std.proofs.lemmas.Bool.Decides.{nat_tests}
use Rattle.std.proofs.lemmas.List.{take_all}
use Rattle.std.specs.Int.{bytes_high_first, to_be_bytes, w64}
use Rattle.key_encoding.specs.Spelling.{byte_count, uvarint, negative}
use Rattle.key_encoding.proofs.Digits.{drop_high, length_high}

pub short : (v : ℕ) → v < 110 → uvarint v ≡ (136 + v) ∷ []
unfolding uvarint
short v h = let t : nat_lt v 110 ≡ true = grind (arith, nat_tests) in rw t refl

pub long : (v n : ℕ) → 110 ≤ v → n ≡ byte_count v → uvarint v ≡ (245 + n) ∷ bytes_high_first n v
unfolding uvarint
long v n h e = let f : nat_lt v 110 ≡ false = grind (arith, nat_tests) in rw (f, e) refl

pub below_zero : (k n : ℕ) → n ≡ byte_count (k + 1) → negative k ≡ (136 - n) ∷ bytes_high_first n (2 ^ 64 - 1 - k)
unfolding negative
below_zero k n e =
    let s : suc k ≡ k + 1 = omega arith in
    let w : 2 ^ 64 - (k + 1) ≡ 2 ^ 64 - 1 - k = omega arith in
    rw (s, ← e, w) refl

-- the slice of the low digits, as the code takes it
pub low_digits : (n v : ℕ) (digits : List ℕ) → n ≤ 8 → digits ≡ to_be_bytes w64 v → take (8 - (8 - n)) (drop (8 - n) digits) ≡ bytes_high_first n v
low_digits n v digits h is =
    let e : (8 - n) + n ≡ 8 = omega arith in
    let e' : 8 - (8 - n) ≡ n = omega arith in
    let low : drop (8 - n) (to_be_bytes w64 v) ≡ bytes_high_first n v = ap (λ k. drop (8 - n) (bytes_high_first k v)) (sym e) ∙ drop_high (8 - n) n v in
    rw (is, e', low) (take_all n (bytes_high_first n v) (omega (arith, length_high n v)))
