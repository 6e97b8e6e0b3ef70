-- The order of spellings of signed numbers.
use Rattle.std.proofs.Common.{◌≡◌, ℕ, suc, ℤ, pos, negsuc, ◌+◌, ◌-◌, ◌^◌, ◌<◌, ◌≤◌, List, ◌∷◌, ◌++◌, arith, inl, inr, nat_lt, refl, sym, ap, ◌∙◌}
use Rattle.std.proofs.lemmas.Bool.{cases_Bool}
use Rattle.std.specs.declared.cmp.Ordering.{Ordering}
use Rattle.std.specs.declared.cmp.Ordering.TheVariants.{Less, Equal, Greater}
use Rattle.std.specs.Ordering.{nat_cmp, int_cmp, ordering_then}
use Rattle.std.specs.Cmp.{ranked, int_cmp_is}
use Rattle.std.specs.Cmp.Lexicographic.{slice_cmp}
use Rattle.std.specs.Int.{bytes_high_first}
use Rattle.std.proofs.lemmas.Int.{ints}
use Rattle.key_encoding.specs.Spelling.{byte_count, uvarint}
use Rattle.key_encoding.specs.Coding.{IsOrderedCode, IsSignedWord, IsWord, turned_round}
use Rattle.key_encoding.specs.Spelling.{negative, varint, complement, varint_down}
use Rattle.key_encoding.proofs.Ranks.{less, greater, equal}
use Rattle.key_encoding.proofs.Digits.{low_part, ordered}
use Rattle.key_encoding.proofs.Counts.{Counts, counts}
use Rattle.key_encoding.proofs.UnsignedOrder.{fewer, uvarint-ordered}

pos_cmp : (m n : ℕ) → int_cmp (pos m) (pos n) ≡ nat_cmp m n
pos_cmp m n = by (nat_cmp m n) refl
  where
    by : (o : Ordering) → o ≡ nat_cmp m n → int_cmp (pos m) (pos n) ≡ o
    by Less e = sym (int_cmp_is (pos m) (pos n) Less (let h : m < n = ranked m n Less e in omega (arith, ints)))
    by Equal e = sym (int_cmp_is (pos m) (pos n) Equal (ap pos (ranked m n Equal e)))
    by Greater e = sym (int_cmp_is (pos m) (pos n) Greater (let h : n < m = ranked m n Greater e in omega (arith, ints)))

neg_cmp : (j k : ℕ) → int_cmp (negsuc j) (negsuc k) ≡ nat_cmp k j
neg_cmp j k = by (nat_cmp k j) refl
  where
    by : (o : Ordering) → o ≡ nat_cmp k j → int_cmp (negsuc j) (negsuc k) ≡ o
    by Less e = sym (int_cmp_is (negsuc j) (negsuc k) Less (let h : k < j = ranked k j Less e in omega (arith, ints)))
    by Equal e = sym (int_cmp_is (negsuc j) (negsuc k) Equal (ap negsuc (sym (ranked k j Equal e))))
    by Greater e = sym (int_cmp_is (negsuc j) (negsuc k) Greater (let h : j < k = ranked k j Greater e in omega (arith, ints)))

-- taking from the same number turns the order round
from_above : (p j k : ℕ) → suc j < p → suc k < p → nat_cmp (p - suc j) (p - suc k) ≡ nat_cmp k j
from_above p j k hj hk = by (nat_cmp k j) refl
  where
    by : (o : Ordering) → o ≡ nat_cmp k j → nat_cmp (p - suc j) (p - suc k) ≡ o
    by Less e = less (p - suc j) (p - suc k) (let h : k < j = ranked k j Less e in omega arith)
    by Equal e = equal (p - suc j) (p - suc k) (let h : k ≡ j = ranked k j Equal e in omega arith)
    by Greater e = greater (p - suc j) (p - suc k) (let h : j < k = ranked k j Greater e in omega arith)

negative_ordered : (j k m n : ℕ) (r s : List ℕ) → Counts (suc j) m → Counts (suc k) n
    → slice_cmp nat_cmp ((136 - m) ∷ bytes_high_first m (2 ^ 64 - suc j) ++ r) ((136 - n) ∷ bytes_high_first n (2 ^ 64 - suc k) ++ s) ≡ ordering_then (nat_cmp k j) (slice_cmp nat_cmp r s)
negative_ordered j k m n r s cj ck = by (nat_cmp m n) refl
  where
    by : (o : Ordering) → o ≡ nat_cmp m n
        → slice_cmp nat_cmp ((136 - m) ∷ bytes_high_first m (2 ^ 64 - suc j) ++ r) ((136 - n) ∷ bytes_high_first n (2 ^ 64 - suc k) ++ s) ≡ ordering_then (nat_cmp k j) (slice_cmp nat_cmp r s)
    by Less e =
        let h : m < n = ranked m n Less e in
        let big = ck.most in
        let amount : suc j < suc k = fewer (suc j) (suc k) m n cj ck h in
        rw (greater (136 - m) (136 - n) (omega arith), greater k j (omega arith)) refl
    by Equal e =
        let h : m ≡ n = ranked m n Equal e in
        let fj = cj.fits in
        let fk : suc k < 256 ^ m = rw h ck.fits in
        let mj = low_part m (suc j) cj.most (omega arith) fj in
        let mk = low_part m (suc k) cj.most (omega arith) fk in
        rw (← h, equal (136 - m) (136 - m) refl) (rw (mj, mk, from_above (256 ^ m) j k fj fk) at (ordered m (2 ^ 64 - suc j) (2 ^ 64 - suc k) r s))
    by Greater e =
        let h : n < m = ranked m n Greater e in
        let big = cj.most in
        let amount : suc k < suc j = fewer (suc k) (suc j) n m ck cj h in
        rw (less (136 - m) (136 - n) (omega arith), less k j (omega arith)) refl

negatives : (j k : ℕ) (r s : List ℕ) → suc j < 2 ^ 64 → suc k < 2 ^ 64 → slice_cmp nat_cmp (negative j ++ r) (negative k ++ s) ≡ ordering_then (nat_cmp k j) (slice_cmp nat_cmp r s)
unfolding negative
negatives j k r s wj wk = negative_ordered j k (byte_count (suc j)) (byte_count (suc k)) r s (counts (suc j) wj) (counts (suc k) wk)

-- the first byte of a number that isn't negative, and of one that is
pub first_high : (v : ℕ) (r : List ℕ) → IsWord v → (x : ℕ) × (t : List ℕ) × (uvarint v ++ r ≡ x ∷ t) × (136 ≤ x)
unfolding uvarint
first_high v r w =
    elim (cases_Bool (nat_lt v 110)) [
      | inl t ↦ (136 + v, r, rw t refl, omega arith)
      | inr f ↦ (245 + byte_count v, bytes_high_first (byte_count v) v ++ r, rw f refl, omega arith)
    ]

first_low : (k : ℕ) (r : List ℕ) → suc k < 2 ^ 64 → (x : ℕ) × (t : List ℕ) × (negative k ++ r ≡ x ∷ t) × (x < 136)
unfolding negative
first_low k r w =
    let c = counts (suc k) w in
    let l = c.least in
    (136 - byte_count (suc k), bytes_high_first (byte_count (suc k)) (2 ^ 64 - suc k) ++ r, refl, omega arith)

pub varint-ordered : IsOrderedCode IsSignedWord int_cmp varint
varint-ordered (pos a) (pos b) r s wa wb = rw (pos_cmp a b) (uvarint-ordered a b r s (omega arith) (omega arith))
varint-ordered (pos a) (negsuc k) r s wa wb =
    let h = first_high a r (omega arith) in
    let n = first_low k s (omega arith) in
    let hx = h.3 in
    let nx = n.3 in
    rw (h.2, n.2, greater h.0 n.0 (omega arith)) refl
varint-ordered (negsuc j) (pos b) r s wa wb =
    let h = first_high b s (omega arith) in
    let n = first_low j r (omega arith) in
    let hx = h.3 in
    let nx = n.3 in
    rw (h.2, n.2, less n.0 h.0 (omega arith)) refl
varint-ordered (negsuc j) (negsuc k) r s wa wb = rw (neg_cmp j k) (negatives j k r s (omega arith) (omega arith))

-- complements compare the other way round
complement_cmp : (a b : ℤ) → int_cmp (complement a) (complement b) ≡ int_cmp b a
complement_cmp (pos a) (pos b) = neg_cmp a b ∙ sym (pos_cmp b a)
complement_cmp (pos a) (negsuc k) = refl
complement_cmp (negsuc j) (pos b) = refl
complement_cmp (negsuc j) (negsuc k) = pos_cmp j k ∙ sym (neg_cmp k j)

complement_fits : (z : ℤ) → IsSignedWord z → IsSignedWord (complement z)
complement_fits (pos v) h = h
complement_fits (negsuc k) h = h

pub varint_down-ordered : IsOrderedCode IsSignedWord (turned_round int_cmp) varint_down
varint_down-ordered a b r s wa wb =
    rw (← complement_cmp a b) (varint-ordered (complement a) (complement b) r s (complement_fits a wa) (complement_fits b wb))
