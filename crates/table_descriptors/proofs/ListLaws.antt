-- Lists whose items have to do with those before them.
use Rattle.std.proofs.Common.{◌≡◌, ℕ, suc, ◌-◌, ◌<◌, Bool, true, false, List, [], ◌∷◌, ◌++◌, length, get_or, nat_lt, arith, refl, sym, ap, ◌∙◌, append_assoc, append-nil, length-append}
use Rattle.std.specs.Prelude.{◌||◌, ◌==◌}
use Rattle.std.specs.List.{list_any, list_all}
use Rattle.std.proofs.lemmas.Bool.Decides.{nat_tests, same_from_decides, Decides-eqb}
use Rattle.std.proofs.lemmas.Slice.Eq.{bytes_eq-Decides}
use Rattle.std.specs.Str.{bytes_eq}
use Rattle.std.proofs.lemmas.List.Folds.{list_any-append}
use Rattle.row_codec.proofs.KeyOrder.{both_true}
use Rattle.table_descriptors.specs.Fields.{EachAfter}
use Rattle.table_descriptors.specs.Descriptors.{repeats, last_key, ascends}
use Rattle.list_laws.proofs.Bools.{or-false, or-neither}
use Rattle.list_laws.proofs.Places.{got-last}

-- ---- tests

-- ---- the last one

pub last-push : {X : Type 0} (key : X → ℕ) (xs : List X) (x : X) → last_key key (xs ++ x ∷ []) ≡ key x
last-push key xs x = let at : length (xs ++ x ∷ []) - 1 ≡ length xs = omega (arith, length-append xs (x ∷ [])) in rw (at, got-last xs x) refl

pub last-cons : {X : Type 0} (key : X → ℕ) (x y : X) (ys : List X) → last_key key (x ∷ y ∷ ys) ≡ last_key key (y ∷ ys)
last-cons key x y ys =
    let one : suc (suc (length ys)) - 1 ≡ suc (length ys) = omega arith in
    let other : suc (length ys) - 1 ≡ length ys = omega arith in
    rw (one, other) refl

pub last-below : {X : Type 0} (key : X → ℕ) (m : ℕ) (xs : List X) → 0 < m → list_all (λ x. nat_lt (key x) m) xs ≡ true → last_key key xs < m
last-below key m [] p h = p
last-below key m (x ∷ []) p h = let up = (both_true (nat_lt (key x) m) true h).0 in grind (arith, nat_tests)
last-below key m (x ∷ y ∷ ys) p h = rw (last-cons key x y ys) (last-below key m (y ∷ ys) p (both_true (nat_lt (key x) m) (list_all (λ z. nat_lt (key z) m) (y ∷ ys)) h).1)

-- ---- each with those before it

pub each-and : {X : Type 0} (P Q : List X → X → Type 0) (before xs : List X) → EachAfter P before xs → EachAfter Q before xs → EachAfter (λ b x. P b x × Q b x) before xs
each-and P Q before [] p q = tt
each-and P Q before (x ∷ xs) p q = ((p.0, q.0), each-and P Q (before ++ x ∷ []) xs p.1 q.1)

pub each-push : {X : Type 0} (P : List X → X → Type 0) (before xs : List X) (x : X) → EachAfter P before xs → P (before ++ xs) x → EachAfter P before (xs ++ x ∷ [])
each-push P before [] x h p = (rw (append-nil before) at p, tt)
each-push P before (y ∷ xs) x h p = (h.0, each-push P (before ++ y ∷ []) xs x h.1 (rw (append_assoc before (y ∷ []) xs) p))

pub each-weaker : {X : Type 0} (P Q : List X → X → Type 0) → ((b : List X) (x : X) → P b x → Q b x) → (before xs : List X) → EachAfter P before xs → EachAfter Q before xs
each-weaker P Q f before [] p = tt
each-weaker P Q f before (x ∷ xs) p = (f before x p.0, each-weaker P Q f (before ++ x ∷ []) xs p.1)

pub each-all : {X : Type 0} (ok : X → Bool) (before xs : List X) → list_all ok xs ≡ true → EachAfter (λ b x. ok x ≡ true) before xs
each-all ok before [] h = tt
each-all ok before (x ∷ xs) h = let parts = both_true (ok x) (list_all ok xs) h in (parts.0, each-all ok (before ++ x ∷ []) xs parts.1)

pub all-each : {X : Type 0} (ok : X → Bool) (before xs : List X) → EachAfter (λ b x. ok x ≡ true) before xs → list_all ok xs ≡ true
all-each ok before [] h = refl
all-each ok before (x ∷ xs) h = rw h.0 (all-each ok (before ++ x ∷ []) xs h.1)

pub each-ascends : {X : Type 0} (key : X → ℕ) (before xs : List X) → ascends key (last_key key before) xs ≡ true → EachAfter (λ b x. nat_lt (last_key key b) (key x) ≡ true) before xs
each-ascends key before [] h = tt
each-ascends key before (x ∷ xs) h =
    let parts = both_true (nat_lt (last_key key before) (key x)) (ascends key (key x) xs) h in
    (parts.0, each-ascends key (before ++ x ∷ []) xs (rw (last-push key before x) parts.1))

pub ascends-each : {X : Type 0} (key : X → ℕ) (before xs : List X) → EachAfter (λ b x. nat_lt (last_key key b) (key x) ≡ true) before xs → ascends key (last_key key before) xs ≡ true
ascends-each key before [] h = refl
ascends-each key before (x ∷ xs) h = let rest = ascends-each key (before ++ x ∷ []) xs h.1 in rw h.0 (rw (last-push key before x) at rest)

-- ---- different ones

-- x is like one before
abbrev pub is_again : {X : Type 0} → (X → X → Bool) → List X → X → Bool
is_again like before x = list_any (λ y. like y x) before

any-or : {X : Type 0} (f g : X → Bool) (xs : List X) → list_any f xs ≡ false → list_any g xs ≡ false → list_any (λ x. f x || g x) xs ≡ false
any-or f g [] a b = refl
any-or f g (x ∷ xs) a b =
    let fs = or-neither (f x) (list_any f xs) a in
    let gs = or-neither (g x) (list_any g xs) b in
    rw (fs.0, gs.0) (any-or f g xs fs.1 gs.1)

or-any : {X : Type 0} (f g : X → Bool) (xs : List X) → list_any (λ x. f x || g x) xs ≡ false → (list_any f xs ≡ false) × (list_any g xs ≡ false)
or-any f g [] a = (refl, refl)
or-any f g (x ∷ xs) a =
    let parts = or-neither (f x || g x) (list_any (λ y. f y || g y) xs) a in
    let one = or-neither (f x) (g x) parts.0 in
    let rest = or-any f g xs parts.1 in
    (rw one.0 rest.0, rw one.1 rest.1)

pub any-same : {X : Type 0} (f g : X → Bool) (xs : List X) → ((x : X) → f x ≡ g x) → list_any f xs ≡ list_any g xs
any-same f g [] e = refl
any-same f g (x ∷ xs) e = rw (e x, any-same f g xs e) refl

again-push : {X : Type 0} (like : X → X → Bool) (before : List X) (x z : X) → is_again like (before ++ x ∷ []) z ≡ (is_again like before z || like x z)
again-push like before x z = list_any-append (λ y. like y z) before (x ∷ []) ∙ ap (λ b. is_again like before z || b) (or-false (like x z))

pub each-differs : {X : Type 0} (same like : X → X → Bool) → ((x y : X) → like y x ≡ same x y) → (before xs : List X) → repeats same xs ≡ false → list_any (is_again like before) xs ≡ false
    → EachAfter (λ b x. is_again like b x ≡ false) before xs
each-differs same like flip before [] r h = tt
each-differs same like flip before (x ∷ xs) r h =
    let other = or-neither (list_any (λ y. same y x) xs) (repeats same xs) r in
    let here = or-neither (is_again like before x) (list_any (is_again like before) xs) h in
    let new : list_any (λ z. like x z) xs ≡ false = any-same (λ z. like x z) (λ z. same z x) xs (λ z. flip z x) ∙ other.0 in (
      here.0,
      each-differs same like flip (before ++ x ∷ []) xs other.1
          (any-same (is_again like (before ++ x ∷ [])) (λ z. is_again like before z || like x z) xs (again-push like before x) ∙ any-or (is_again like before) (λ z. like x z) xs here.1 new),
    )

pub differs-each : {X : Type 0} (same like : X → X → Bool) → ((x y : X) → like y x ≡ same x y) → (before xs : List X) → EachAfter (λ b x. is_again like b x ≡ false) before xs
    → (repeats same xs ≡ false) × (list_any (is_again like before) xs ≡ false)
differs-each same like flip before [] h = (refl, refl)
differs-each same like flip before (x ∷ xs) h =
    let rest = differs-each same like flip (before ++ x ∷ []) xs h.1 in
    let apart = or-any (is_again like before) (λ z. like x z) xs (sym (any-same (is_again like (before ++ x ∷ [])) (λ z. is_again like before z || like x z) xs (again-push like before x)) ∙ rest.1) in
    let new : list_any (λ z. same z x) xs ≡ false = sym (any-same (λ z. like x z) (λ z. same z x) xs (λ z. flip z x)) ∙ apart.1 in
    (rw new rest.0, rw h.0 apart.0)

none-again : {X : Type 0} (like : X → X → Bool) (xs : List X) → list_any (is_again like []) xs ≡ false
none-again like [] = refl
none-again like (x ∷ xs) = none-again like xs

pub each-new : {X : Type 0} (same like : X → X → Bool) → ((x y : X) → like y x ≡ same x y) → (xs : List X) → repeats same xs ≡ false → EachAfter (λ b x. is_again like b x ≡ false) [] xs
each-new same like flip xs r = each-differs same like flip [] xs r (none-again like xs)

pub list_all-weaker : {X : Type 0} (f g : X → Bool) → ((x : X) → f x ≡ true → g x ≡ true) → (xs : List X) → list_all f xs ≡ true → list_all g xs ≡ true
list_all-weaker f g w [] h = refl
list_all-weaker f g w (x ∷ xs) h = let parts = both_true (f x) (list_all f xs) h in rw (w x parts.0) (list_all-weaker f g w xs parts.1)

pub eq-flip : (x y : ℕ) → (y == x) ≡ (x == y)
eq-flip x y = same_from_decides (y == x) (x == y) (Decides-eqb y x) ((λ e. sym ((Decides-eqb x y).0 e)), (λ e. (Decides-eqb x y).1 (sym e)))

pub bytes_eq-flip : (x y : List ℕ) → bytes_eq y x ≡ bytes_eq x y
bytes_eq-flip x y = same_from_decides (bytes_eq y x) (bytes_eq x y) (bytes_eq-Decides y x) ((λ e. sym ((bytes_eq-Decides x y).0 e)), (λ e. (bytes_eq-Decides x y).1 (sym e)))

-- a list of bounded numbers
pub all-ids : (m : ℕ) (xs : List ℕ) → ((i : ℕ) → get_or xs i 0 < m) → list_all (λ x. nat_lt x m) xs ≡ true
all-ids m [] h = refl
all-ids m (x ∷ xs) h = let up : nat_lt x m ≡ true = let a = h 0 in grind (arith, nat_tests) in rw up (all-ids m xs (λ i. h (suc i)))
