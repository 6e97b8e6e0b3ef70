-- Dates among others.
use Rattle.std.proofs.Common.{◌≡◌, ℕ, Bool, true, false, cond, ◌&&◌, ◌||◌, List, [], ◌∷◌, ◌++◌, take, drop, Option, Some, None, filter, refl, sym, ap, ap₂, ◌∙◌, subst, true≢false, ◌⊎◌, inl, inr}
use Rattle.std.proofs.lemmas.List.Elements.{filter-append}
use Rattle.mvcc_keys.specs.Times.{Time, time_lt, time_le, time_eq}
use Rattle.range_tombstones.specs.Dates.{Ascends, has_date, with_date, without_date, last_after, last_of, last_upto}
use Rattle.list_laws.specs.Members.{Has}
use Rattle.range_tombstones.proofs.Lists as lists
use Rattle.list_laws.proofs.Members as members
use Rattle.list_laws.proofs.Filters as filters
use Rattle.mvcc_keys.proofs.TimeOrder as times
use Rattle.list_laws.proofs.Bools.{or-true, and-false, or-false}

pub has-date_has : (t : Time) (ds : List Time) → Has t ds → has_date t ds ≡ true
has-date_has t [] h = absurd h
has-date_has t (d ∷ ds) (inl e) = ap (λ (b : Bool). b || has_date t ds) (ap (time_eq t) (sym e) ∙ times.eq-refl t)
has-date_has t (d ∷ ds) (inr h) = ap (λ (b : Bool). time_eq t d || b) (has-date_has t ds h) ∙ or-true (time_eq t d)

pub date-has : (t : Time) (ds : List Time) → has_date t ds ≡ true → Has t ds
date-has t [] h = absurd (true≢false (sym h))
date-has t (d ∷ ds) h = by (time_eq t d) refl h (date-has t ds)
  where
    by : (b : Bool) → time_eq t d ≡ b → (b || has_date t ds) ≡ true → (has_date t ds ≡ true → Has t ds) → (t ≡ d) ⊎ Has t ds
    by true e h more = inl (times.eq-is t d e)
    by false e h more = inr (more h)

-- a date that no date of the list is
pub no-date : (t : Time) (ds : List Time) → ((d : Time) → Has d ds → time_eq t d ≡ false) → has_date t ds ≡ false
no-date t [] f = refl
no-date t (d ∷ ds) f = rw (f d (inl refl)) (no-date t ds (λ e h. f e (inr h)))

pub has-append : (t : Time) (xs ys : List Time) → has_date t (xs ++ ys) ≡ (has_date t xs || has_date t ys)
has-append t [] ys = refl
has-append t (x ∷ xs) ys = ap (λ (b : Bool). time_eq t x || b) (has-append t xs ys) ∙ by (time_eq t x)
  where
    by : (b : Bool) → (b || (has_date t xs || has_date t ys)) ≡ ((b || has_date t xs) || has_date t ys)
    by true = refl
    by false = refl

pub has-filter : (p : Time → Bool) (t : Time) (ds : List Time) → has_date t (filter p ds) ≡ (has_date t ds && p t)
has-filter p t [] = refl
has-filter p t (d ∷ ds) = by (time_eq t d) refl (p d) refl (has-filter p t ds)
  where
    by : (a : Bool) → time_eq t d ≡ a → (b : Bool) → p d ≡ b → has_date t (filter p ds) ≡ (has_date t ds && p t) → has_date t (cond b (d ∷ filter p ds) (filter p ds)) ≡ ((a || has_date t ds) && p t)
    by true e true f h = rw e (sym (ap p (times.eq-is t d e) ∙ f))
    by true e false f h = h ∙ (ap (λ (b : Bool). has_date t ds && b) is ∙ and-false (has_date t ds)) ∙ sym is
      where
        is : p t ≡ false
        is = ap p (times.eq-is t d e) ∙ f
    by false e true f h = rw e h
    by false e false f h = h

-- what a list has with a date more
pub has-with : (s t : Time) (ds : List Time) → has_date s (with_date t ds) ≡ (time_eq s t || has_date s ds)
unfolding with_date
has-with s t ds = has-append s (filter (λ d. time_lt d t) ds) (t ∷ filter (λ d. time_lt t d) ds) ∙ (ap₂ (λ (a b : Bool). a || (time_eq s t || b)) (has-filter (λ d. time_lt d t) s ds) (has-filter (λ d. time_lt t d) s ds) ∙ by (has_date s ds) (time_lt s t) (time_eq s t) (time_lt t s) (times.one-of s t))
  where
    by : (h a b c : Bool) → (a || (b || c)) ≡ true → ((h && a) || (b || (h && c))) ≡ (b || h)
    by true true true c e = refl
    by true true false c e = refl
    by true false true c e = refl
    by true false false true e = refl
    by true false false false e = absurd (true≢false (sym e))
    by false a true c e = refl
    by false a false c e = refl

pub ascends-with : (t : Time) (ds : List Time) → Ascends time_lt ds → Ascends time_lt (with_date t ds)
unfolding with_date
ascends-with t ds a = lists.ascends-put time_lt times.lt-trans t (filter (λ d. time_lt d t) ds) (filter (λ d. time_lt t d) ds) (lists.ascends-filter time_lt (λ d. time_lt d t) ds a) (lists.ascends-filter time_lt (λ d. time_lt t d) ds a) (λ d h. members.filter-passes (λ e. time_lt e t) d ds h) (λ d h. members.filter-passes (λ e. time_lt t e) d ds h)

-- a date that is there
pub with-there : (t : Time) (ds : List Time) → Ascends time_lt ds → has_date t ds ≡ true → with_date t ds ≡ ds
unfolding with_date
with-there t [] a h = absurd (true≢false (sym h))
with-there t (d ∷ ds) a h = by (time_eq t d) refl (with-there t ds a.1)
  where
    by : (b : Bool) → time_eq t d ≡ b → (has_date t ds ≡ true → filter (λ e. time_lt e t) ds ++ t ∷ filter (λ e. time_lt t e) ds ≡ ds) → filter (λ e. time_lt e t) (d ∷ ds) ++ t ∷ filter (λ e. time_lt t e) (d ∷ ds) ≡ d ∷ ds
    by true e more =
        let is : t ≡ d = times.eq-is t d e in
        let above : (x : Time) → Has x ds → time_lt t x ≡ true = λ x i. subst (λ s. time_lt s x ≡ true) (sym is) (lists.all-has (λ y. time_lt d y ≡ true) ds a.0 x i) in
        let front : filter (λ x. time_lt x t) (d ∷ ds) ≡ [] = filters.filter-none (λ x. time_lt x t) (d ∷ ds) (λ x i. elim i [ inl q ↦ ap (λ s. time_lt s t) (q ∙ sym is) ∙ times.lt-irrefl t | inr j ↦ times.lt-not_back t x (above x j) ]) in
        let back : filter (λ x. time_lt t x) (d ∷ ds) ≡ ds = ap (λ (b : Bool). cond b (d ∷ filter (λ x. time_lt t x) ds) (filter (λ x. time_lt t x) ds)) (ap (λ s. time_lt t s) (sym is) ∙ times.lt-irrefl t) ∙ filters.filter-all (λ x. time_lt t x) ds above in
        ap₂ (λ (xs ys : List Time). xs ++ t ∷ ys) front back ∙ ap (λ s. s ∷ ds) is
    by false e more =
        let in_ds : has_date t ds ≡ true = ap (λ (b : Bool). b || has_date t ds) (sym e) ∙ h in
        let lt : time_lt d t ≡ true = lists.all-has (λ y. time_lt d y ≡ true) ds a.0 t (date-has t ds in_ds) in
        rw (lt, times.lt-not_back d t lt) (ap (λ xs. d ∷ xs) (more in_ds))

-- a date that isn't
pub with-new : (t : Time) (ds : List Time) → has_date t ds ≡ false → filter (λ d. time_le d t) ds ++ t ∷ filter (λ d. time_lt t d) ds ≡ with_date t ds
unfolding with_date
with-new t ds h = ap (λ xs. xs ++ t ∷ filter (λ d. time_lt t d) ds) (filters.filter-same (λ d. time_le d t) (λ d. time_lt d t) ds (λ d i. times.le-split d t ∙ (ap (λ (b : Bool). time_lt d t || b) (other d i) ∙ or-false (time_lt d t))))
  where
    other : (d : Time) → Has d ds → time_eq t d ≡ false
    other d i = by (time_eq t d) refl
      where
        by : (b : Bool) → time_eq t d ≡ b → b ≡ false
        by false e = refl
        by true e = sym (has-date_has t ds (subst (λ s. Has s ds) (sym (times.eq-is t d e)) i)) ∙ h

-- a date more and a date less
pub without-new : (t : Time) (ds : List Time) → has_date t ds ≡ false → without_date t ds ≡ ds
without-new t ds h = filters.filter-all (λ d. cond (time_eq d t) false true) ds (λ d i. by (time_eq d t) d refl i)
  where
    by : (b : Bool) (d : Time) → time_eq d t ≡ b → Has d ds → cond b false true ≡ true
    by false d e i = refl
    by true d e i = sym h ∙ has-date_has t ds (subst (λ s. Has s ds) (times.eq-is d t e) i)

not-there : (t d : Time) (ds : List Time) → has_date t (d ∷ ds) ≡ false → (time_eq t d ≡ false) × (has_date t ds ≡ false)
not-there t d ds h = by (time_eq t d) refl (has_date t ds) refl h
  where
    by : (a : Bool) → time_eq t d ≡ a → (b : Bool) → has_date t ds ≡ b → (a || b) ≡ false → (time_eq t d ≡ false) × (has_date t ds ≡ false)
    by true e b f h = absurd (true≢false h)
    by false e true f h = absurd (true≢false h)
    by false e false f h = (e, f)

pub halves : (t : Time) (ds : List Time) → Ascends time_lt ds → has_date t ds ≡ false → filter (λ d. time_lt d t) ds ++ filter (λ d. time_lt t d) ds ≡ ds
halves t [] a h = refl
halves t (d ∷ ds) a h = by (time_lt d t) refl (halves t ds a.1 (not-there t d ds h).1)
  where
    by : (b : Bool) → time_lt d t ≡ b → filter (λ e. time_lt e t) ds ++ filter (λ e. time_lt t e) ds ≡ ds → filter (λ e. time_lt e t) (d ∷ ds) ++ filter (λ e. time_lt t e) (d ∷ ds) ≡ d ∷ ds
    by true e more = rw (e, times.lt-not_back d t e) (ap (λ xs. d ∷ xs) more)
    by false e more =
        let lt : time_lt t d ≡ true = times.not_lt-not_eq d t e (not-there t d ds h).0 in
        let above : (x : Time) → Has x ds → time_lt t x ≡ true = λ x i. times.lt-trans t d x lt (lists.all-has (λ y. time_lt d y ≡ true) ds a.0 x i) in
        rw (e, lt, filters.filter-none (λ x. time_lt x t) ds (λ x i. times.lt-not_back t x (above x i))) (ap (λ xs. d ∷ xs) (filters.filter-all (λ x. time_lt t x) ds above))

pub without-with : (t : Time) (ds : List Time) → Ascends time_lt ds → has_date t ds ≡ false → without_date t (with_date t ds) ≡ ds
unfolding with_date
without-with t ds a h = filter-append other (filter (λ d. time_lt d t) ds) (t ∷ filter (λ d. time_lt t d) ds) ∙ (ap₂ (λ (xs : List Time) (b : Bool). xs ++ cond b (t ∷ filter other (filter (λ d. time_lt t d) ds)) (filter other (filter (λ d. time_lt t d) ds))) front itself ∙ (ap (λ ys. filter (λ d. time_lt d t) ds ++ ys) after ∙ halves t ds a h))
  where
    other : Time → Bool
    other d = cond (time_eq d t) false true

    itself : other t ≡ false
    itself = ap (λ (b : Bool). cond b false true) (times.eq-refl t)

    front : filter other (filter (λ d. time_lt d t) ds) ≡ filter (λ d. time_lt d t) ds
    front = filters.filter-all other (filter (λ d. time_lt d t) ds) (λ x i. ap (λ (b : Bool). cond b false true) (times.lt-not_eq x t (members.filter-passes (λ d. time_lt d t) x ds i)))

    after : filter other (filter (λ d. time_lt t d) ds) ≡ filter (λ d. time_lt t d) ds
    after = filters.filter-all other (filter (λ d. time_lt t d) ds) (λ x i. ap (λ (b : Bool). cond b false true) (times.lt-not_eq_back x t (members.filter-passes (λ d. time_lt t d) x ds i)))

-- ---- the last date up to a time

abbrev pub is-the : Time → Option Time → Bool
is-the t None = false
is-the t (Some d) = time_eq d t

abbrev pub upto : Time → List Time → List Time
upto t ds = filter (λ d. time_le d t) ds

-- it is that time where that is there
pub last-is : (t : Time) (ds : List Time) → Ascends time_lt ds → is-the t (last_upto t ds) ≡ has_date t ds
unfolding last_upto
last-is t [] a = refl
last-is t (d ∷ ds) a = by (time_le d t) refl (last-is t ds a.1)
  where
    at : (xs : List Time) → upto t ds ≡ xs → time_le d t ≡ true → is-the t (last_of xs) ≡ has_date t ds → is-the t (Some (last_after d xs)) ≡ (time_eq t d || has_date t ds)
    at [] e le more = times.eq-back d t ∙ (sym (or-false (time_eq t d)) ∙ ap (λ (b : Bool). time_eq t d || b) more)
    at (y ∷ ys) e le more =
        let i : Has y (upto t ds) = subst (λ zs. Has y zs) (sym e) (inl refl) in
        let lt : time_lt d y ≡ true = lists.all-has (λ x. time_lt d x ≡ true) ds a.0 y (members.filter-has (λ x. time_le x t) y ds i) in
        more ∙ ap (λ (b : Bool). b || has_date t ds) (sym (times.lt-not_eq_back t d (times.lt-le-lt d y t lt (members.filter-passes (λ x. time_le x t) y ds i))))

    by : (b : Bool) → time_le d t ≡ b → is-the t (last_of (upto t ds)) ≡ has_date t ds → is-the t (last_of (cond b (d ∷ upto t ds) (upto t ds))) ≡ (time_eq t d || has_date t ds)
    by true e more = at (upto t ds) refl e more
    by false e more = more ∙ ap (λ (b : Bool). b || has_date t ds) (sym (times.not_le-not_eq d t e))

-- what a list is after a date was put at its place
pub put-date : (t : Time) (ds xs new : List Time) (i : ℕ) → xs ≡ ds → take i xs ≡ upto t xs → drop i xs ≡ filter (λ d. time_lt t d) xs → has_date t ds ≡ false → new ≡ take i ds ++ t ∷ drop i ds → new ≡ with_date t ds
put-date t ds xs new i same front back off is = is ∙ (ap₂ (λ (ys zs : List Time). ys ++ t ∷ zs) (subst (λ ys. take i ys ≡ upto t ys) same front) (subst (λ ys. drop i ys ≡ filter (λ d. time_lt t d) ys) same back) ∙ with-new t ds off)
