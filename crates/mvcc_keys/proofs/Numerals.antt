-- Decimal numbers, as they are written and as they are read.
use Rattle.std.proofs.Common.{◌≡◌, inl, inr, ℕ, zero, suc, ◌+◌, ◌-◌, ◌*◌, ◌^◌, ◌≤◌, ◌<◌, Bool, true, false, ◌&&◌, ◌==◌, cond, List, [], ◌∷◌, ◌++◌, length, get_or, take, drop, replicate, Option, Some, None, refl, sym, ap, ◌∙◌, arith, append-nil, length-append}
use Rattle.std.specs.Prelude.{nat_lt, nat_le}
use Rattle.std.proofs.Math.Nat.{sub-zero}
use Rattle.std.proofs.Math.Seq.{take-append_seam, drop-append_seam}
use Rattle.std.proofs.lemmas.Bool.{cases_Bool}
use Rattle.std.proofs.lemmas.Bool.Decides.{nat_tests}
use Rattle.std.proofs.lemmas.List.{take-append-drop, length-drop, length-replicate}
use Rattle.std.proofs.lemmas.Int.Digits.{digits_value-lt}
use Rattle.std.proofs.lemmas.Str.Parse.{IsDigitsTest, IsNumeralModel, numerals_by_fold}
use Rattle.std.proofs.lemmas.Fmt.{decimal_digit, first_decimal, length-decimal-le, digits_decimal, digits_value-decimal, decimal-digits_value}
use Rattle.std.specs.Fmt.{padded_integral, format_spec, decimal, styled_decimal, char_count}
use Rattle.mvcc_keys.specs.Times.{Time, time, IsTime}
use Rattle.mvcc_keys.specs.TimeTexts.{ten_digits, time_text, is_digit, are_digits, digits_after, read_digits, is_least, is_point, time_of, read_time, TimesAreExact}

-- what `{:010}` writes
pub ten_digits-styled : (n : ℕ) → styled_decimal (format_spec 32 0 4 10 (2 ^ 64 - 1)) n ≡ ten_digits n
unfolding padded_integral char_count
ten_digits-styled n = simp (padded_integral, char_count, sub-zero, append-nil) refl

pub digits_grow : (n : ℕ) (ds : List ℕ) → n ≤ digits_after n ds
digits_grow n [] = omega arith
digits_grow n (d ∷ ds) = omega (arith, digits_grow (10 * n + (d - 48)) ds)

-- ---- std's words for numerals

abbrev AreDigits : List ℕ → Type 0
AreDigits ds = are_digits ds ≡ true

tells : IsDigitsTest AreDigits
tells = record {
  empty = refl;
  parts = λ c cs e. let k : (is_digit c ≡ true) × (are_digits cs ≡ true) = grind (arith, nat_tests) in (grind (arith, nat_tests), k.1);
  more = λ c cs k e. grind (arith, nat_tests);
}

own : IsNumeralModel AreDigits (digits_after 0)
own = numerals_by_fold AreDigits tells digits_after (record { empty = λ n. refl; more = λ n c cs k. ap (λ m. digits_after m cs) (omega arith) })

value_bound : (ds : List ℕ) → AreDigits ds → digits_after 0 ds < 10 ^ length ds
value_bound ds p = omega (arith, own.same ds (own.to ds p), digits_value-lt 10 ds (own.to ds p))

read_decimal : (n : ℕ) → n < 2 ^ 64 → read_digits (decimal n) ≡ Some n
unfolding read_digits
read_decimal n h =
    let p : AreDigits (decimal n) = digits_decimal own n h in
    let v : digits_after 0 (decimal n) ≡ n = digits_value-decimal own n h in
    rw (p, v) (let t : nat_lt n (2 ^ 64) ≡ true = grind (arith, nat_tests) in rw t refl)

-- ---- ten digits

zeros_digits : (k : ℕ) (ds : List ℕ) → are_digits (replicate k 48 ++ ds) ≡ are_digits ds
zeros_digits zero ds = refl
zeros_digits (suc k) ds = zeros_digits k ds

zeros_value : (k : ℕ) (ds : List ℕ) → digits_after 0 (replicate k 48 ++ ds) ≡ digits_after 0 ds
zeros_value zero ds = refl
zeros_value (suc k) ds = zeros_value k ds

read_ten_digits : (n : ℕ) → n < 2 ^ 64 → read_digits (ten_digits n) ≡ Some n
unfolding read_digits
read_ten_digits n h =
    let k = 10 - length (decimal n) in
    let p : AreDigits (ten_digits n) = zeros_digits k (decimal n) ∙ digits_decimal own n h in
    let v : digits_after 0 (ten_digits n) ≡ n = zeros_value k (decimal n) ∙ digits_value-decimal own n h in
    rw (p, v) (let t : nat_lt n (2 ^ 64) ≡ true = grind (arith, nat_tests) in rw t refl)

ten_long : (n : ℕ) → n ≤ 2147483647 → length (ten_digits n) ≡ 10
ten_long n h =
    let few : length (decimal n) ≤ 10 = length-decimal-le 10 n (omega arith) (omega arith) (omega arith) in
    omega (arith, length-append (replicate (10 - length (decimal n)) 48) (decimal n), length-replicate {A = ℕ} (10 - length (decimal n)) 48)

plain : (ds : List ℕ) → AreDigits ds → 0 < length ds → digits_after 0 ds < 2 ^ 64 → (get_or ds 0 0 ≡ 48 → length ds ≡ 1)
    → replicate (length ds - length (decimal (digits_after 0 ds))) 48 ++ decimal (digits_after 0 ds) ≡ ds
plain ds p some fits least =
    let same : decimal (digits_after 0 ds) ≡ ds = decimal-digits_value own ds p some least fits in
    let none : length ds - length (decimal (digits_after 0 ds)) ≡ 0 = omega (arith, ap length same) in
    rw none same

-- digits are zeros and then their value in decimal
padded : (ds : List ℕ) → AreDigits ds → 0 < length ds → digits_after 0 ds < 2 ^ 64
    → replicate (length ds - length (decimal (digits_after 0 ds))) 48 ++ decimal (digits_after 0 ds) ≡ ds
padded [] p some fits = absurd (omega arith)
padded (d ∷ []) p some fits = plain (d ∷ []) p some fits (λ _. refl)
padded (d ∷ e ∷ ds) p some fits = elim (cases_Bool (d == 48)) [
  | inl is ↦ zero_first d e ds (grind (arith, nat_tests)) (padded (e ∷ ds)) p fits
  | inr is ↦ plain (d ∷ e ∷ ds) p some fits (λ same. absurd (grind (arith, nat_tests)))
]
  where
    zero_first : (d e : ℕ) (ds : List ℕ) → d ≡ 48 → (AreDigits (e ∷ ds) → 0 < length (e ∷ ds) → digits_after 0 (e ∷ ds) < 2 ^ 64
        → replicate (length (e ∷ ds) - length (decimal (digits_after 0 (e ∷ ds)))) 48 ++ decimal (digits_after 0 (e ∷ ds)) ≡ e ∷ ds)
        → AreDigits (d ∷ e ∷ ds) → digits_after 0 (d ∷ e ∷ ds) < 2 ^ 64
        → replicate (length (d ∷ e ∷ ds) - length (decimal (digits_after 0 (d ∷ e ∷ ds)))) 48 ++ decimal (digits_after 0 (d ∷ e ∷ ds)) ≡ d ∷ e ∷ ds
    zero_first d e ds is more p fits =
        let v : digits_after 0 (d ∷ e ∷ ds) ≡ digits_after 0 (e ∷ ds) = rw is refl in
        let text = decimal (digits_after 0 (e ∷ ds)) in
        let rest : replicate (length (e ∷ ds) - length text) 48 ++ text ≡ e ∷ ds = more (grind (arith, nat_tests)) (omega arith) (omega (arith, fits, v)) in
        let short : length text ≤ length (e ∷ ds) = omega (arith, ap length rest, length-append (replicate (length (e ∷ ds) - length text) 48) text) in
        let one_more : length (d ∷ e ∷ ds) - length text ≡ suc (length (e ∷ ds) - length text) = omega (arith, short) in
        rw (v, one_more) (rw (is, rest) refl)

ten_digits_of : (ds : List ℕ) → AreDigits ds → length ds ≡ 10 → ten_digits (digits_after 0 ds) ≡ ds
ten_digits_of ds p ten =
    let small : digits_after 0 ds < 10 ^ 10 = omega (arith, value_bound ds p, ap (λ k. 10 ^ k) ten) in
    let is = padded ds p (omega arith) (omega (arith, small)) in
    rw ten at is

-- ---- the text of a time

is_least_decimal : (n : ℕ) → n < 2 ^ 64 → is_least (decimal n) ≡ true
is_least_decimal zero h = rw (decimal_digit 0 (omega arith)) refl
is_least_decimal (suc n) h = some (decimal (suc n)) (first_decimal (suc n) (omega arith) h)
  where
    some : (ds : List ℕ) → 48 < get_or ds 0 0 → is_least ds ≡ true
    some [] above = absurd (omega arith)
    some (d ∷ []) above = refl
    some (d ∷ e ∷ ds) above = grind (arith, nat_tests)

time_is_found : (t : Time) → IsTime t → read_time (time_text t) ≡ Some t
unfolding read_time time_text
time_is_found t is =
    let w = decimal t.wall in
    let r = 46 ∷ ten_digits t.logical in
    let long : length (w ++ r) ≡ length w + 11 = omega (arith, length-append w r, ten_long t.logical is.1) in
    let front : length (w ++ r) - 11 ≡ length w = omega (arith, long) in
    let some : nat_lt (length (w ++ r)) 11 ≡ false = grind (arith, nat_tests, long) in
    let fits : nat_le t.logical 2147483647 ≡ true = grind (arith, nat_tests, is.1) in
    rw (some, front, take-append_seam w r, drop-append_seam w r, is_least_decimal t.wall is.0, read_decimal t.wall is.0, read_ten_digits t.logical (omega (arith, is.1)), fits) refl

-- what a test, and then another, let through
both_passed : (short good : Bool) (o : Option Time) (t : Time) → cond short None (cond good o None) ≡ Some t → (short ≡ false) × (good ≡ true) × (o ≡ Some t)
both_passed true good o t e = absurd cc
both_passed false true o t e = (refl, refl, e)
both_passed false false o t e = absurd cc

pub record HasParts (w l : Option ℕ) (t : Time) : Type 0 where
  pub wall : w ≡ Some t.wall
  pub logical : l ≡ Some t.logical
  pub fits : t.logical ≤ 2147483647

parts_of : (w l : Option ℕ) (t : Time) → time_of w l ≡ Some t → HasParts w l t
parts_of None l t e = absurd cc
parts_of (Some a) None t e = absurd cc
parts_of (Some a) (Some b) t e = by (nat_le b 2147483647) refl e
  where
    by : (ok : Bool) → nat_le b 2147483647 ≡ ok → cond ok (Some (time a b)) None ≡ Some t → HasParts (Some a) (Some b) t
    by true fits e = let same : time a b ≡ t = cc in record { wall = ap (λ (s : Time). Some s.wall) same; logical = ap (λ (s : Time). Some s.logical) same; fits = let n : b ≡ t.logical = ap (λ (s : Time). s.logical) same in grind (arith, nat_tests) }
    by false fits e = absurd cc

pub record WasRead (ds : List ℕ) (n : ℕ) : Type 0 where
  pub digits : AreDigits ds
  pub value : digits_after 0 ds ≡ n
  pub fits : n < 2 ^ 64

was_read : (ds : List ℕ) (n : ℕ) → read_digits ds ≡ Some n → WasRead ds n
unfolding read_digits
was_read ds n e = by (are_digits ds) refl (nat_lt (digits_after 0 ds) (2 ^ 64)) refl e
  where
    by : (p : Bool) → are_digits ds ≡ p → (q : Bool) → nat_lt (digits_after 0 ds) (2 ^ 64) ≡ q → cond (p && q) (Some (digits_after 0 ds)) None ≡ Some n → WasRead ds n
    by true is true fits e = let v : digits_after 0 ds ≡ n = cc in record { digits = is; value = v; fits = grind (arith, nat_tests) }
    by true is false fits e = absurd cc
    by false is q fits e = absurd cc

least_first : (ds : List ℕ) → is_least ds ≡ true → (0 < length ds) × (get_or ds 0 0 ≡ 48 → length ds ≡ 1)
least_first [] h = absurd cc
least_first (d ∷ []) h = (omega arith, λ _. refl)
least_first (d ∷ e ∷ ds) h = (omega arith, λ is. absurd (grind (arith, nat_tests)))

pointed : (bs : List ℕ) → is_point bs ≡ true → bs ≡ 46 ∷ drop 1 bs
pointed [] h = absurd cc
pointed (b ∷ bs) h = let is : b ≡ 46 = grind (arith, nat_tests) in rw is refl

time_is_only : (text : List ℕ) (t : Time) → read_time text ≡ Some t → IsTime t × (text ≡ time_text t)
unfolding read_time time_text
time_is_only text t e =
    let n = length text - 11 in
    let w = take n text in
    let r = drop n text in
    let passed = both_passed (nat_lt (length text) 11) (is_least w && is_point r) (time_of (read_digits w) (read_digits (drop 1 r))) t e in
    let long : 11 ≤ length text = grind (arith, nat_tests, passed.0) in
    let tests : (is_least w ≡ true) × (is_point r ≡ true) = grind (arith, nat_tests, passed.1) in
    let parts = parts_of (read_digits w) (read_digits (drop 1 r)) t passed.2 in
    let wall = was_read w t.wall parts.wall in
    let logical = was_read (drop 1 r) t.logical parts.logical in
    let least = least_first w tests.0 in
    let wall_text : decimal t.wall ≡ w = rw wall.value at (decimal-digits_value own w wall.digits least.0 least.1 (omega (arith, wall.value, wall.fits))) in
    let ten : length (drop 1 r) ≡ 10 = omega (arith, length-drop 1 r, length-drop n text) in
    let digits : ten_digits t.logical ≡ drop 1 r = rw logical.value at (ten_digits_of (drop 1 r) logical.digits ten) in
    ((wall.fits, parts.fits), sym (take-append-drop n text) ∙ ap (λ (x : List ℕ). w ++ x) (pointed r tests.1) ∙ rw (wall_text, digits) refl)

pub times_exact : TimesAreExact
times_exact = record { found = time_is_found; only = time_is_only }
