-- The newest fact of two lists.
use Rattle.std.proofs.Common.{◌≡◌, Bool, true, false, cond, sym, refl, ap, ◌∙◌, ◌&&◌, List, [], ◌∷◌, ◌++◌, Option, Some, None, Ordering, true≢false}
use Rattle.mvcc_keys.specs.Times.{Time, time_lt, time_le}
use Rattle.fact_model.specs.Facts.{Fact, date, touches, later, newest}
use Rattle.list_laws.specs.Members.{Has}
use Rattle.fact_model.specs.Joined.{joined}
use Rattle.mvcc_keys.proofs.TimeOrder as times
use Rattle.fact_model.specs.Newest.{IsUntouched}
use Rattle.fact_model.proofs.Newest as newests

module _ {K V : Type 0} where
  later-joined : (f : Fact K V) (a b : Option (Fact K V)) → later f (joined a b) ≡ joined (later f a) b
  later-joined f None b = refl
  later-joined f (Some g) None = by (time_lt (date f) (date g))
    where
      by : (c : Bool) → cond c (Some g) (Some f) ≡ joined (cond c (Some g) (Some f)) None
      by true = refl
      by false = refl
  later-joined f (Some g) (Some h) = by (time_lt (date f) (date g)) refl (time_lt (date g) (date h)) refl (time_lt (date f) (date h)) refl
    where
      -- f before g, g before h, f before h
      by : (p : Bool) → time_lt (date f) (date g) ≡ p → (q : Bool) → time_lt (date g) (date h) ≡ q → (r : Bool) → time_lt (date f) (date h) ≡ r → later f (cond q (Some h) (Some g)) ≡ joined (cond p (Some g) (Some f)) (Some h)
      by true p true q true r = rw (r, q)
      by true p true q false r = absurd (true≢false (sym (times.lt-trans (date f) (date g) (date h) p q) ∙ r))
      by true p false q r' r = rw (p, q)
      by false p true q true r = rw r
      by false p true q false r = rw r
      by false p false q true r = absurd (true≢false (sym r ∙ times.not_lt-trans (date f) (date g) (date h) p q))
      by false p false q false r = rw (p, r)

  module _ (cmp : K → K → Ordering) (k : K) (t : Time) where
    pub newest-append : (xs ys : List (Fact K V)) → newest cmp k t (xs ++ ys) ≡ joined (newest cmp k t xs) (newest cmp k t ys)
    unfolding newest
    newest-append [] ys = refl
    newest-append (x ∷ xs) ys = ap (λ (r : Option (Fact K V)). cond (touches cmp k x && time_le (date x) t) (later x r) r) (newest-append xs ys) ∙ by (touches cmp k x && time_le (date x) t)
      where
        by : (c : Bool) → cond c (later x (joined (newest cmp k t xs) (newest cmp k t ys))) (joined (newest cmp k t xs) (newest cmp k t ys)) ≡ joined (cond c (later x (newest cmp k t xs)) (newest cmp k t xs)) (newest cmp k t ys)
        by true = later-joined x (newest cmp k t xs) (newest cmp k t ys)
        by false = refl

    -- facts that don't touch the key may stand before and after
    pub newest-past : (xs ys : List (Fact K V)) → ((f : Fact K V) → Has f xs → touches cmp k f ≡ false) → newest cmp k t (xs ++ ys) ≡ newest cmp k t ys
    newest-past xs ys no' = newest-append xs ys ∙ ap (λ (r : Option (Fact K V)). joined r (newest cmp k t ys)) (newests.newest-none cmp k t xs (λ g h p q. true≢false (sym p ∙ no' g h)))
