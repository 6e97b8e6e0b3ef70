-- A row's versions as two parts, of which the first has the newer ones.
use Rattle.std.proofs.Common.{◌≡◌, ◌∙◌, ℕ, suc, ◌+◌, ◌<◌, ◌≤◌, Bool, true, false, cond, sym, refl, ap, List, [], ◌∷◌, ◌++◌, length, Option, Some, None, arith}
use Rattle.mvcc_keys.specs.Times.{Time, time_le, time_lt}
use Rattle.range_tombstones.specs.declared.upto.Upto.{Upto}
use Rattle.range_tombstones.specs.Intervals.{is_between}
use Rattle.version_store.specs.Rows.{count_newer, first_between, first_upto}
use Rattle.version_store.specs.declared.row.Version.{Version}

-- ---- how many are newer than a date

within : (t : Time) (xs ys : List Version) → count_newer t xs < length xs → count_newer t (xs ++ ys) ≡ count_newer t xs
unfolding count_newer
within t [] ys l = omega arith
within t (x ∷ xs) ys l = by (time_lt t x.at) l (within t xs ys)
  where
    by : (b : Bool) → cond b (1 + count_newer t xs) 0 < suc (length xs) → (count_newer t xs < length xs → count_newer t (xs ++ ys) ≡ count_newer t xs) → cond b (1 + count_newer t (xs ++ ys)) 0 ≡ cond b (1 + count_newer t xs) 0
    by true l more = ap (λ n. 1 + n) (more (omega arith))
    by false l more = refl

beyond : (t : Time) (xs ys : List Version) → length xs ≤ count_newer t xs → count_newer t (xs ++ ys) ≡ count_newer t xs + count_newer t ys
unfolding count_newer
beyond t [] ys l = omega arith
beyond t (x ∷ xs) ys l = by (time_lt t x.at) l (beyond t xs ys)
  where
    by : (b : Bool) → suc (length xs) ≤ cond b (1 + count_newer t xs) 0 → (length xs ≤ count_newer t xs → count_newer t (xs ++ ys) ≡ count_newer t xs + count_newer t ys) → cond b (1 + count_newer t (xs ++ ys)) 0 ≡ cond b (1 + count_newer t xs) 0 + count_newer t ys
    by true l more =
        let e = more (omega arith) in
        omega (arith, e)
    by false l more = omega arith

pub place-within : (t : Time) (xs ys vs : List Version) (n : ℕ) → xs ++ ys ≡ vs → n ≡ count_newer t xs → n < length xs → n ≡ count_newer t vs
place-within t xs ys vs n parts e l = e ∙ (sym (within t xs ys (omega (arith, e))) ∙ ap (count_newer t) parts)

pub place-beyond : (t : Time) (xs ys vs : List Version) (n m : ℕ) → xs ++ ys ≡ vs → n ≡ count_newer t xs → m ≡ count_newer t ys → length xs ≤ n → n + m ≡ count_newer t vs
place-beyond t xs ys vs n m parts e f l =
    let whole = beyond t xs ys (omega (arith, e)) in
    omega (arith, e, f, whole) ∙ ap (count_newer t) parts

-- ---- the first of some

abbrev either : Option Version → Option Version → Option Version
either None b = b
either (Some v) b = Some v

upto-parts : (t : Time) (xs ys : List Version) → first_upto t (xs ++ ys) ≡ either (first_upto t xs) (first_upto t ys)
unfolding first_upto
upto-parts t [] ys = refl
upto-parts t (x ∷ xs) ys = by (time_le x.at t) (upto-parts t xs ys)
  where
    by : (b : Bool) → first_upto t (xs ++ ys) ≡ either (first_upto t xs) (first_upto t ys) → cond b (Some x) (first_upto t (xs ++ ys)) ≡ either (cond b (Some x) (first_upto t xs)) (first_upto t ys)
    by true more = refl
    by false more = more

between-parts : (from : Time) (upto : Upto) (xs ys : List Version) → first_between from upto (xs ++ ys) ≡ either (first_between from upto xs) (first_between from upto ys)
unfolding first_between
between-parts from upto [] ys = refl
between-parts from upto (x ∷ xs) ys = by (is_between from upto x.at) (between-parts from upto xs ys)
  where
    by : (b : Bool) → first_between from upto (xs ++ ys) ≡ either (first_between from upto xs) (first_between from upto ys) → cond b (Some x) (first_between from upto (xs ++ ys)) ≡ either (cond b (Some x) (first_between from upto xs)) (first_between from upto ys)
    by true more = refl
    by false more = more

pub upto-newer : (t : Time) (xs ys vs : List Version) (v : Version) → xs ++ ys ≡ vs → Some v ≡ first_upto t xs → Some v ≡ first_upto t vs
upto-newer t xs ys vs v parts e = ap (λ (a : Option Version). either a (first_upto t ys)) e ∙ (sym (upto-parts t xs ys) ∙ ap (first_upto t) parts)

pub upto-older : (t : Time) (xs ys vs : List Version) (o : Option Version) → xs ++ ys ≡ vs → None ≡ first_upto t xs → o ≡ first_upto t ys → o ≡ first_upto t vs
upto-older t xs ys vs o parts none e = e ∙ (ap (λ (a : Option Version). either a (first_upto t ys)) none ∙ (sym (upto-parts t xs ys) ∙ ap (first_upto t) parts))

pub between-newer : (from : Time) (upto : Upto) (xs ys vs : List Version) (v : Version) → xs ++ ys ≡ vs → Some v ≡ first_between from upto xs → Some v ≡ first_between from upto vs
between-newer from upto xs ys vs v parts e = ap (λ (a : Option Version). either a (first_between from upto ys)) e ∙ (sym (between-parts from upto xs ys) ∙ ap (first_between from upto) parts)

pub between-older : (from : Time) (upto : Upto) (xs ys vs : List Version) (o : Option Version) → xs ++ ys ≡ vs → None ≡ first_between from upto xs → o ≡ first_between from upto ys → o ≡ first_between from upto vs
between-older from upto xs ys vs o parts none e = e ∙ (ap (λ (a : Option Version). either a (first_between from upto ys)) none ∙ (sym (between-parts from upto xs ys) ∙ ap (first_between from upto) parts))
