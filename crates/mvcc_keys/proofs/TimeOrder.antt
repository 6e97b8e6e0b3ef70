-- The order of times.
use Rattle.std.proofs.Common.{◌≡◌, true, false, not, ◌||◌, refl, arith}
use Rattle.std.specs.Prelude.{Bool, cond}
use Rattle.std.specs.declared.cmp.Ordering.TheVariants.{Equal}
use Rattle.std.specs.Ordering.{is_le}
use Rattle.std.specs.Cmp.{IsTotalOrder}
use Rattle.std.proofs.lemmas.Cmp.{nat_cmp_total, on_total, then_total}
use Rattle.std.proofs.lemmas.Bool.Decides.{nat_tests}
use Rattle.mvcc_keys.specs.Times.{Time, zero_time, time_eq, time_lt, time_le}
use Rattle.mvcc_keys.specs.Codes.{time_cmp}

pub le-refl : (s : Time) → time_le s s ≡ true
le-refl s = grind (arith, nat_tests)

pub le-trans : (r s t : Time) → time_le r s ≡ true → time_le s t ≡ true → time_le r t ≡ true
le-trans r s t p q = grind (arith, nat_tests)

le-walls : (s t : Time) → time_le s t ≡ true → time_le t s ≡ true → s.wall ≡ t.wall
le-walls s t p q = grind (arith, nat_tests)

le-logicals : (s t : Time) → time_le s t ≡ true → time_le t s ≡ true → s.logical ≡ t.logical
le-logicals s t p q = grind (arith, nat_tests)

pub le-antisymm : (s t : Time) → time_le s t ≡ true → time_le t s ≡ true → s ≡ t
le-antisymm s t p q = λ i. record { wall = le-walls s t p q i; logical = le-logicals s t p q i }

pub zero-le : (t : Time) → time_le zero_time t ≡ true
zero-le t = grind (arith, nat_tests)

-- ---- before

pub lt-irrefl : (s : Time) → time_lt s s ≡ false
lt-irrefl s = grind (arith, nat_tests)

pub lt-trans : (r s t : Time) → time_lt r s ≡ true → time_lt s t ≡ true → time_lt r t ≡ true
lt-trans r s t p q = grind (arith, nat_tests)

pub not_lt-trans : (r s t : Time) → time_lt r s ≡ false → time_lt s t ≡ false → time_lt r t ≡ false
not_lt-trans r s t p q = grind (arith, nat_tests)

pub lt-not_back : (s t : Time) → time_lt s t ≡ true → time_lt t s ≡ false
lt-not_back s t p = grind (arith, nat_tests)

-- ---- before, and not after

pub lt-le : (s t : Time) → time_lt s t ≡ true → time_le s t ≡ true
lt-le s t p = grind (arith, nat_tests)

pub lt-not_le : (s t : Time) → time_lt s t ≡ true → time_le t s ≡ false
lt-not_le s t p = grind (arith, nat_tests)

pub le-not_lt : (s t : Time) → time_le t s ≡ true → time_lt s t ≡ false
le-not_lt s t p = grind (arith, nat_tests)

pub not_lt-le : (s t : Time) → time_lt s t ≡ false → time_le t s ≡ true
not_lt-le s t p = grind (arith, nat_tests)

pub not_le-lt : (s t : Time) → time_le t s ≡ false → time_lt s t ≡ true
not_le-lt s t p = grind (arith, nat_tests)

pub not-le : (s t : Time) → not (time_le s t) ≡ time_lt t s
not-le s t = grind (arith, nat_tests)

pub lt-le-absurd : (s t : Time) → time_lt s t ≡ true → time_le t s ≡ true → ⊥
lt-le-absurd s t p q = grind (arith, nat_tests)

pub le-lt-lt : (r s t : Time) → time_le r s ≡ true → time_lt s t ≡ true → time_lt r t ≡ true
le-lt-lt r s t p q = grind (arith, nat_tests)

pub lt-le-lt : (r s t : Time) → time_lt r s ≡ true → time_le s t ≡ true → time_lt r t ≡ true
lt-le-lt r s t p q = grind (arith, nat_tests)

pub lt-le-le : (r s t : Time) → time_lt r s ≡ true → time_le s t ≡ true → time_le r t ≡ true
lt-le-le r s t p q = grind (arith, nat_tests)

pub le-lt-le : (r s t : Time) → time_le r s ≡ true → time_lt s t ≡ true → time_le r t ≡ true
le-lt-le r s t p q = grind (arith, nat_tests)

-- ---- the same time

pub eq-refl : (s : Time) → time_eq s s ≡ true
eq-refl s = grind (arith, nat_tests)

pub eq-back : (s t : Time) → time_eq s t ≡ time_eq t s
eq-back s t = grind (arith, nat_tests)

eq-walls : (s t : Time) → time_eq s t ≡ true → s.wall ≡ t.wall
eq-walls s t p = grind (arith, nat_tests)

eq-logicals : (s t : Time) → time_eq s t ≡ true → s.logical ≡ t.logical
eq-logicals s t p = grind (arith, nat_tests)

pub eq-is : (s t : Time) → time_eq s t ≡ true → s ≡ t
eq-is s t p = λ i. record { wall = eq-walls s t p i; logical = eq-logicals s t p i }

pub lt-not_eq : (s t : Time) → time_lt s t ≡ true → time_eq s t ≡ false
lt-not_eq s t p = grind (arith, nat_tests)

pub lt-not_eq_back : (s t : Time) → time_lt t s ≡ true → time_eq s t ≡ false
lt-not_eq_back s t p = grind (arith, nat_tests)

pub not_le-not_eq : (s t : Time) → time_le s t ≡ false → time_eq t s ≡ false
not_le-not_eq s t p = grind (arith, nat_tests)

pub not_lt-not_eq : (s t : Time) → time_lt s t ≡ false → time_eq t s ≡ false → time_lt t s ≡ true
not_lt-not_eq s t p q = grind (arith, nat_tests)

-- a time is earlier, the same or later
pub one-of : (s t : Time) → (time_lt s t || (time_eq s t || time_lt t s)) ≡ true
one-of s t = grind (arith, nat_tests)

pub le-split : (s t : Time) → time_le s t ≡ (time_lt s t || time_eq t s)
le-split s t = grind (arith, nat_tests)

-- ---- the order as one that std knows

pub time_total : IsTotalOrder time_cmp
time_total = then_total (on_total (λ (t : Time). t.wall) nat_cmp_total) (on_total (λ (t : Time). t.logical) nat_cmp_total)

pub cmp-le : (s t : Time) → time_le s t ≡ true → is_le (time_cmp s t) ≡ true
cmp-le s t p = grind (arith, nat_tests)

cmp-eq : (s t : Time) → time_cmp s t ≡ Equal → time_eq s t ≡ true
cmp-eq s t p = grind (arith, nat_tests)

pub cmp-Equal : (s t : Time) → time_cmp s t ≡ Equal → s ≡ t
cmp-Equal s t p = eq-is s t (cmp-eq s t p)

-- ---- the later of two

pub le-later : (s t : Time) → time_le s (cond (time_lt s t) t s) ≡ true
le-later s t = by (time_lt s t) refl
  where
    by : (b : Bool) → time_lt s t ≡ b → time_le s (cond b t s) ≡ true
    by true e = lt-le s t e
    by false e = le-refl s

pub le-later_second : (s t : Time) → time_le t (cond (time_lt s t) t s) ≡ true
le-later_second s t = by (time_lt s t) refl
  where
    by : (b : Bool) → time_lt s t ≡ b → time_le t (cond b t s) ≡ true
    by true e = le-refl t
    by false e = not_lt-le s t e
