-- Orderings, and the order of numbers and of byte strings.
use Rattle.std.proofs.Common.{◌≡◌, ℕ, true, false, ◌≤◌, ◌<◌, List, [], ◌∷◌, refl, sym, arith, true≢false}
use Rattle.std.specs.Prelude.{nat_lt}
use Rattle.std.specs.declared.cmp.Ordering.{Ordering}
use Rattle.std.specs.declared.cmp.Ordering.TheVariants.{Less, Equal, Greater}
use Rattle.std.specs.Ordering.{is_lt, nat_cmp, ordering_then}
use Rattle.std.specs.Cmp.Lexicographic.{slice_cmp}
use Rattle.std.proofs.lemmas.Bool.Decides.{nat_tests}

pub lt-Less : (o : Ordering) → is_lt o ≡ true → o ≡ Less
lt-Less Less e = refl
lt-Less Equal e = absurd (true≢false (sym e))
lt-Less Greater e = absurd (true≢false (sym e))

pub then-Equal : (o r : Ordering) → ordering_then o r ≡ Equal → (o ≡ Equal) × (r ≡ Equal)
then-Equal Less r e = absurd (cc)
then-Equal Equal r e = (refl, e)
then-Equal Greater r e = absurd (cc)

pub nats-Equal : (x y : ℕ) → nat_cmp x y ≡ Equal → x ≡ y
nats-Equal x y e = grind (arith, nat_tests)

pub bytes-Equal : (xs ys : List ℕ) → slice_cmp nat_cmp xs ys ≡ Equal → xs ≡ ys
bytes-Equal [] [] e = refl
bytes-Equal [] (y ∷ ys) e = absurd (cc)
bytes-Equal (x ∷ xs) [] e = absurd (cc)
bytes-Equal (x ∷ xs) (y ∷ ys) e = let b = then-Equal (nat_cmp x y) (slice_cmp nat_cmp xs ys) e in λ i. nats-Equal x y b.0 i ∷ bytes-Equal xs ys b.1 i

pub lt-below : (m n : ℕ) → nat_lt m n ≡ true → m < n
lt-below m n h = grind (arith, nat_tests)

pub not-lt-above : (m n : ℕ) → nat_lt m n ≡ false → n ≤ m
not-lt-above m n h = grind (arith, nat_tests)
