-- The number that digits spell, taken digit by digit.
use Rattle.std.proofs.Common.{◌≡◌, ℕ, zero, suc, ◌+◌, ◌-◌, ◌*◌, ◌/◌, ◌^◌, ◌<◌, ◌≤◌, List, ◌∷◌, length, drop, get_or, arith, refl, add-one, drop-cons}
use Rattle.std.proofs.Math.Nat.{pow-succ', pow-le-pow_right}
use Rattle.key_encoding.specs.Reading.{number_of}

pub step_fits : (v i d : ℕ) → v < 256 ^ i → d < 256 → v * 256 + d < 256 ^ (i + 1)
step_fits v i d h hd = rw (add-one, pow-succ' 256 i) (omega arith)

pub word_fits : (i : ℕ) → i < 8 → 256 ^ (i + 1) ≤ 2 ^ 64
word_fits i h = let le : i + 1 ≤ 8 = omega arith in pow-le-pow_right (omega arith) le

pub step_number : (v i : ℕ) (xs : List ℕ) → i < length xs → v * 256 ^ length (drop i xs) + number_of (drop i xs) ≡ number_of xs
    → (v * 256 + get_or xs i 0) * 256 ^ length (drop (i + 1) xs) + number_of (drop (i + 1) xs) ≡ number_of xs
step_number v i xs h e =
    let split : drop i xs ≡ get_or xs i 0 ∷ drop (i + 1) xs = rw add-one (drop-cons xs i 0 h) in
    let e' = rw (split, pow-succ' 256 (length (drop (i + 1) xs))) at e in
    omega (arith, e')

-- shifting the greatest word leaves the greatest number of n digits
pub greatest_is : (n : ℕ) → n ≤ 8 → (2 ^ 64 - 1) / 2 ^ (64 - 8 * n) ≡ 256 ^ n - 1
greatest_is zero h = refl
greatest_is (suc zero) h = refl
greatest_is (suc (suc zero)) h = refl
greatest_is (suc (suc (suc zero))) h = refl
greatest_is (suc (suc (suc (suc zero)))) h = refl
greatest_is (suc (suc (suc (suc (suc zero))))) h = refl
greatest_is (suc (suc (suc (suc (suc (suc zero)))))) h = refl
greatest_is (suc (suc (suc (suc (suc (suc (suc zero))))))) h = refl
greatest_is (suc (suc (suc (suc (suc (suc (suc (suc zero)))))))) h = refl
greatest_is (suc (suc (suc (suc (suc (suc (suc (suc (suc n))))))))) h = absurd (omega arith)
