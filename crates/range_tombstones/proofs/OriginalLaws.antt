-- A range deletion put among others by date.
use Rattle.std.proofs.Common.{◌≡◌, ◌∙◌, ℕ, zero, suc, ◌≤◌, ◌<◌, Bool, true, false, not, sym, refl, ap, ap₂, subst, List, [], ◌∷◌, ◌++◌, length, take, drop, insert, filter, arith}
use Rattle.std.specs.List.{remove}
use Rattle.mvcc_keys.specs.Times.{Time, time_eq, time_lt}
use Rattle.mvcc_keys.proofs.TimeOrder as times
use Rattle.list_laws.specs.Members.{Has}
use Rattle.list_laws.proofs.Filters.{filter-same}
use Rattle.range_tombstones.specs.declared.deletion.RangeDeletion.{RangeDeletion}
use Rattle.range_tombstones.specs.Ranges.{dates_of, is_dated, with_range}
use Rattle.range_tombstones.proofs.DateLaws as dates
use Rattle.range_tombstones.proofs.MadeLaws.{has-at}

-- no range deletion has a date that isn't among theirs
other-date : (t : Time) (rs : List RangeDeletion) (s : RangeDeletion) → is_dated t rs ≡ false → Has s rs → time_eq t s.at ≡ false
other-date t rs s new h = by (time_eq t s.at) refl
  where
    by : (b : Bool) → time_eq t s.at ≡ b → b ≡ false
    by false e = refl
    by true e = sym (dates.has-date_has t (dates_of rs) (subst (λ d. Has d (dates_of rs)) (sym (times.eq-is t s.at e)) (has-at s rs h))) ∙ new

-- those not dated before a date that none has are dated after it
not-before : (t : Time) (rs : List RangeDeletion) → is_dated t rs ≡ false → filter (λ s. not (time_lt s.at t)) rs ≡ filter (λ s. time_lt t s.at) rs
not-before t rs new = filter-same (λ s. not (time_lt s.at t)) (λ s. time_lt t s.at) rs (λ s h. by s h (time_lt s.at t) refl)
  where
    by : (s : RangeDeletion) → Has s rs → (b : Bool) → time_lt s.at t ≡ b → not b ≡ time_lt t s.at
    by s h true e = sym (times.lt-not_back s.at t e)
    by s h false e = sym (times.not_lt-not_eq s.at t e (other-date t rs s new h))

-- put in at the place of its date
pub put-range : (r : RangeDeletion) (rs xs new : List RangeDeletion) (n : ℕ) → is_dated r.at rs ≡ false → xs ≡ rs → take n xs ≡ filter (λ s. time_lt s.at r.at) xs → drop n xs ≡ filter (λ s. not (time_lt s.at r.at)) xs → new ≡ insert rs n r → new ≡ with_range r rs
unfolding with_range
put-range r rs xs new n fresh same front back e = e ∙ ap₂ (λ (as' bs : List RangeDeletion). as' ++ r ∷ bs) (subst (λ zs. take n zs ≡ filter (λ s. time_lt s.at r.at) zs) same front) (subst (λ zs. drop n zs ≡ filter (λ s. not (time_lt s.at r.at)) zs) same back ∙ not-before r.at rs fresh)

pub remove-inserted : {X : Type 0} (xs : List X) (n : ℕ) (x : X) → n ≤ length xs → remove (insert xs n x) n ≡ xs
remove-inserted xs zero x l = refl
remove-inserted [] (suc n) x l = absurd (omega arith)
remove-inserted (y ∷ ys) (suc n) x l = ap (λ zs. y ∷ zs) (remove-inserted ys n x (omega arith))

pub inserted-within : {X : Type 0} (xs : List X) (n : ℕ) (x : X) → n ≤ length xs → n < length (insert xs n x)
inserted-within xs zero x l = omega arith
inserted-within [] (suc n) x l = absurd (omega arith)
inserted-within (y ∷ ys) (suc n) x l = let more = inserted-within ys n x (omega arith) in omega arith
