-- Truth values.
use Rattle.std.proofs.Common.{◌≡◌, Bool, true, false, not, ◌&&◌, ◌||◌, refl, sym, true≢false}

pub or-false : (b : Bool) → (b || false) ≡ b
or-false true = refl
or-false false = refl

pub or-true : (b : Bool) → (b || true) ≡ true
or-true true = refl
or-true false = refl

pub and-false : (b : Bool) → (b && false) ≡ false
and-false true = refl
and-false false = refl

pub and-true : (b : Bool) → (b && true) ≡ b
and-true true = refl
and-true false = refl

pub or-left : (a b : Bool) → a ≡ true → (a || b) ≡ true
or-left a b p = rw (p) refl

pub or-right : (a b : Bool) → b ≡ true → (a || b) ≡ true
or-right true b p = refl
or-right false b p = p

pub or-neither : (a b : Bool) → (a || b) ≡ false → (a ≡ false) × (b ≡ false)
or-neither true b p = absurd (true≢false p)
or-neither false b p = (refl, p)

pub and-left : (a b : Bool) → (a && b) ≡ true → a ≡ true
and-left true b p = refl
and-left false b p = p

pub and-right : (a b : Bool) → (a && b) ≡ true → b ≡ true
and-right true b p = p
and-right false b p = absurd (true≢false (sym p))

pub and-parts : (a b : Bool) → (a && b) ≡ true → (a ≡ true) × (b ≡ true)
and-parts a b p = (and-left a b p, and-right a b p)

pub and-both : (a b : Bool) → a ≡ true → b ≡ true → (a && b) ≡ true
and-both a b p q = rw (p, q) refl

pub not-true : (b : Bool) → not b ≡ true → b ≡ false
not-true true p = sym p
not-true false p = refl

-- where one of two holds and it isn't the first, it is the second
pub not-or : (a b : Bool) → a ≡ true → (not a || b) ≡ true → b ≡ true
not-or true b p q = q
not-or false b p q = absurd (true≢false (sym p))

pub and-off : (a b : Bool) → b ≡ false → (a && b) ≡ false
and-off true b e = e
and-off false b e = refl

pub or-off : (a b : Bool) → a ≡ false → b ≡ false → (a || b) ≡ false
or-off a b e f = rw (e, f) refl
