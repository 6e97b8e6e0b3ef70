-- The order of spellings.
use Rattle.std.proofs.Common.{◌≡◌, ℕ, ◌+◌, ◌-◌, ◌%◌, ◌^◌, ◌<◌, ◌≤◌, List, ◌∷◌, ◌++◌, arith, inl, inr, nat_lt, refl}
use Rattle.std.specs.declared.cmp.Ordering.{Ordering}
use Rattle.std.specs.declared.cmp.Ordering.TheVariants.{Less, Equal, Greater}
use Rattle.std.specs.Ordering.{nat_cmp, ordering_then}
use Rattle.std.specs.Cmp.{ranked}
use Rattle.std.specs.Cmp.Lexicographic.{slice_cmp}
use Rattle.std.specs.Int.{bytes_high_first}
use Rattle.std.proofs.Math.Nat.{mod-eq_of_lt, pow-le-pow_right}
use Rattle.std.proofs.lemmas.Bool.{cases_Bool}
use Rattle.std.proofs.lemmas.Bool.Decides.{nat_tests}
use Rattle.key_encoding.specs.Spelling.{byte_count, uvarint}
use Rattle.key_encoding.specs.Coding.{IsOrderedCode, IsWord}
use Rattle.key_encoding.proofs.Ranks.{less, greater, shifted}
use Rattle.key_encoding.proofs.Digits.{ordered}
use Rattle.key_encoding.proofs.Counts.{Counts, counts}

-- a number with fewer bytes is smaller
pub fewer : (a b m n : ℕ) → Counts a m → Counts b n → m < n → a < b
fewer a b m n ca cb h =
    let la = ca.least in
    let mono : 256 ^ m ≤ 256 ^ (n - 1) = pow-le-pow_right (omega arith) (omega arith) in
    let need : 256 ^ (n - 1) ≤ b = cb.needs (omega arith) in
    let fit : a < 256 ^ m = ca.fits in
    omega arith

-- two numbers with their counts of bytes
long_ordered : (a b m n : ℕ) (r s : List ℕ) → Counts a m → Counts b n
    → slice_cmp nat_cmp ((245 + m) ∷ bytes_high_first m a ++ r) ((245 + n) ∷ bytes_high_first n b ++ s) ≡ ordering_then (nat_cmp a b) (slice_cmp nat_cmp r s)
long_ordered a b m n r s ca cb = by (nat_cmp m n) refl
  where
    by : (o : Ordering) → o ≡ nat_cmp m n → slice_cmp nat_cmp ((245 + m) ∷ bytes_high_first m a ++ r) ((245 + n) ∷ bytes_high_first n b ++ s) ≡ ordering_then (nat_cmp a b) (slice_cmp nat_cmp r s)
    by Less e =
        let h : m < n = ranked m n Less e in
        rw (shifted 245 m n, ← e, less a b (fewer a b m n ca cb h)) refl
    by Equal e =
        let h : m ≡ n = ranked m n Equal e in
        let fa : a % 256 ^ m ≡ a = mod-eq_of_lt ca.fits in
        let fb : b % 256 ^ m ≡ b = mod-eq_of_lt (rw h cb.fits) in
        rw (shifted 245 m n, ← e, ← h) (rw (fa, fb) at (ordered m a b r s))
    by Greater e =
        let h : n < m = ranked m n Greater e in
        rw (shifted 245 m n, ← e, greater a b (fewer b a n m cb ca h)) refl

pub uvarint-ordered : IsOrderedCode IsWord nat_cmp uvarint
unfolding uvarint
uvarint-ordered a b r s wa wb =
    elim (cases_Bool (nat_lt a 110)) [
      | inl ta ↦ elim (cases_Bool (nat_lt b 110)) [
        | inl tb ↦ rw (ta, tb, shifted 136 a b) refl
        | inr fb ↦
            let lt : 136 + a < 245 + byte_count b = let c = counts b wb in let l = c.least in grind (arith, nat_tests) in
            let ab : a < b = grind (arith, nat_tests) in
            rw (ta, fb, less (136 + a) (245 + byte_count b) lt, less a b ab) refl
      ]
      | inr fa ↦ elim (cases_Bool (nat_lt b 110)) [
        | inl tb ↦
            let gt : 136 + b < 245 + byte_count a = let c = counts a wa in let l = c.least in grind (arith, nat_tests) in
            let ba : b < a = grind (arith, nat_tests) in
            rw (fa, tb, greater (245 + byte_count a) (136 + b) gt, greater a b ba) refl
        | inr fb ↦ rw (fa, fb) (long_ordered a b (byte_count a) (byte_count b) r s (counts a wa) (counts b wb))
      ]
    ]
