-- The digits of a number to the base 256, the highest first.
use Rattle.std.proofs.Common.{◌≡◌, ℕ, zero, suc, ◌+◌, ◌-◌, ◌*◌, ◌%◌, ◌^◌, ◌<◌, ◌≤◌, List, ◌++◌, length, drop, ap, ◌∙◌, sym, refl, arith}
use Rattle.std.specs.Ordering.{nat_cmp, ordering_then}
use Rattle.std.specs.Cmp.Lexicographic.{slice_cmp}
use Rattle.std.specs.Int.{bytes_high_first, byte_at}
use Rattle.std.proofs.Math.Nat.{suc-mul, pow-succ', one-le-pow, mod-lt}
use Rattle.std.proofs.Math.Arith.{mod-mul}
use Rattle.std.proofs.lemmas.Nat.{mod-mul-add, pow-add}
use Rattle.key_encoding.proofs.Ranks.{parts, then_assoc}

pub power_above : (k : ℕ) → 0 < 256 ^ k
power_above k = one-le-pow k 256 (omega arith)

-- one more digit
pub digit : (k v : ℕ) → v % 256 ^ suc k ≡ byte_at k v * 256 ^ k + v % 256 ^ k
digit zero v = let one : v % 1 ≡ 0 = omega arith in rw one (omega arith)
digit (suc k) v = rw (pow-succ' 256 (suc k)) (mod-mul v {m = 256} {c = 256 ^ suc k} (omega arith) (power_above (suc k)))

-- the digits compare as the numbers that they spell, and what follows decides where those are equal
pub ordered : (k a b : ℕ) (r s : List ℕ)
    → slice_cmp nat_cmp (bytes_high_first k a ++ r) (bytes_high_first k b ++ s) ≡ ordering_then (nat_cmp (a % 256 ^ k) (b % 256 ^ k)) (slice_cmp nat_cmp r s)
ordered zero a b r s =
    let ea : a % 256 ^ 0 ≡ 0 = omega arith in
    let eb : b % 256 ^ 0 ≡ 0 = omega arith in
    rw (ea, eb) refl
ordered (suc k) a b r s =
    let x = a % 256 ^ k in
    let y = b % 256 ^ k in
    let high = nat_cmp (byte_at k a) (byte_at k b) in
    let join = parts (256 ^ k) (byte_at k a) (byte_at k b) x y (mod-lt a (power_above k)) (mod-lt b (power_above k)) in
    rw (digit k a, digit k b, ← join) (ap (ordering_then high) (ordered k a b r s) ∙ then_assoc high (nat_cmp x y) (slice_cmp nat_cmp r s))

-- the lowest digits
pub drop_high : (j k v : ℕ) → drop j (bytes_high_first (j + k) v) ≡ bytes_high_first k v
drop_high zero k v = let e : 0 + k ≡ k = omega arith in rw e refl
drop_high (suc j) k v = let e : suc j + k ≡ suc (j + k) = omega arith in rw e (drop_high j k v)

pub length_high : (k v : ℕ) → length (bytes_high_first k v) ≡ k
length_high zero v = refl
length_high (suc k) v = ap suc (length_high k v)

-- what is left of 2 ^ 64 has as its low digits what is left of 256 ^ n
pub left_over : (p q m : ℕ) → q * p ≡ 2 ^ 64 → 0 < q → m ≤ p → 2 ^ 64 - m ≡ (q - 1) * p + (p - m)
left_over p zero m e h le = absurd (omega arith)
left_over p (suc q) m e h le =
    let more : suc q * p ≡ q * p + p = suc-mul q p in
    let less : suc q - 1 ≡ q = omega arith in
    rw (less, ← e, more) (omega arith)

pub powers : (n : ℕ) → n ≤ 8 → 256 ^ (8 - n) * 256 ^ n ≡ 2 ^ 64
powers n h = let e : (8 - n) + n ≡ 8 = omega arith in sym (pow-add 256 (8 - n) n) ∙ ap (λ i. 256 ^ i) e

pub low_part : (n m : ℕ) → n ≤ 8 → 0 < m → m < 256 ^ n → (2 ^ 64 - m) % 256 ^ n ≡ 256 ^ n - m
low_part n m h some fits =
    rw (left_over (256 ^ n) (256 ^ (8 - n)) m (powers n h) (power_above (8 - n)) (omega arith)) (mod-mul-add (256 ^ (8 - n) - 1) (256 ^ n) (256 ^ n - m) (omega arith))
