-- What the newest fact is.
use Rattle.std.proofs.Common.{◌≡◌, Bool, true, false, cond, sym, refl, ap, ◌∙◌, subst, ◌&&◌, List, [], ◌∷◌, Option, Some, None, inl, inr, Ordering, true≢false}
use Rattle.mvcc_keys.specs.Times.{Time, time_lt, time_le}
use Rattle.fact_model.specs.Facts.{Fact, date, touches, later, newest, IsApart}
use Rattle.list_laws.specs.Members.{Has}
use Rattle.fact_model.specs.Newest.{IsNewest, IsNewestFact, IsUntouched}
use Rattle.mvcc_keys.proofs.TimeOrder as times

module _ {K V : Type 0} (cmp : K → K → Ordering) (k : K) (t : Time) where
  -- a fact that doesn't count in front changes nothing
  newest-skips : (f : Fact K V) (fs : List (Fact K V)) (r : Option (Fact K V)) → ((touches cmp k f && time_le (date f) t) ≡ false) → IsNewest cmp k t fs r → IsNewest cmp k t (f ∷ fs) r
  newest-skips f fs None off h = λ g. elim [ inl e ↦ λ p q. both f g e p q off | inr i ↦ h g i ]
    where
      both : (f g : Fact K V) → g ≡ f → touches cmp k g ≡ true → time_le (date g) t ≡ true → ((touches cmp k f && time_le (date f) t) ≡ false) → ⊥
      both f g e p q n = let p' = subst (λ (x : Fact K V). touches cmp k x ≡ true) e p in let q' = subst (λ (x : Fact K V). time_le (date x) t ≡ true) e q in true≢false (sym (ap (λ (b : Bool). b && time_le (date f) t) p' ∙ q') ∙ n)
  newest-skips f fs (Some r) off h = record { among = inr h.among; touching = h.touching; dated = h.dated; last = λ g. elim [ inl e ↦ λ p q. absurd (both f g e p q off) | inr i ↦ h.last g i ] }
    where
      both : (f g : Fact K V) → g ≡ f → touches cmp k g ≡ true → time_le (date g) t ≡ true → ((touches cmp k f && time_le (date f) t) ≡ false) → ⊥
      both f g e p q n = let p' = subst (λ (x : Fact K V). touches cmp k x ≡ true) e p in let q' = subst (λ (x : Fact K V). time_le (date x) t ≡ true) e q in true≢false (sym (ap (λ (b : Bool). b && time_le (date f) t) p' ∙ q') ∙ n)

  -- one that counts
  newest-takes : (f : Fact K V) (fs : List (Fact K V)) (r : Option (Fact K V)) → touches cmp k f ≡ true → time_le (date f) t ≡ true → IsNewest cmp k t fs r → IsNewest cmp k t (f ∷ fs) (later f r)
  newest-takes f fs None p q h = record { among = inl refl; touching = p; dated = q; last = λ g. elim [ inl e ↦ λ _ _. subst (λ (x : Fact K V). time_le (date x) (date f) ≡ true) (sym e) (times.le-refl (date f)) | inr i ↦ λ a b. absurd (h g i a b) ] }
  newest-takes f fs (Some r) p q h = go (time_lt (date f) (date r)) refl
    where
      go : (b : Bool) → time_lt (date f) (date r) ≡ b → IsNewest cmp k t (f ∷ fs) (cond b (Some r) (Some f))
      go true e = record { among = inr h.among; touching = h.touching; dated = h.dated; last = λ g. elim [ inl i ↦ λ _ _. subst (λ (x : Fact K V). time_le (date x) (date r) ≡ true) (sym i) (times.lt-le (date f) (date r) e) | inr i ↦ h.last g i ] }
      go false e = record { among = inl refl; touching = p; dated = q; last = λ g. elim [ inl i ↦ λ _ _. subst (λ (x : Fact K V). time_le (date x) (date f) ≡ true) (sym i) (times.le-refl (date f)) | inr i ↦ λ a b. times.le-trans (date g) (date r) (date f) (h.last g i a b) (times.not_lt-le (date f) (date r) e) ] }

  pub newest-is : (fs : List (Fact K V)) → IsNewest cmp k t fs (newest cmp k t fs)
  unfolding newest
  newest-is [] = λ g h _ _. h
  newest-is (f ∷ fs) = go (touches cmp k f) refl (time_le (date f) t) refl (newest cmp k t fs) (newest-is fs)
    where
      go : (a : Bool) → touches cmp k f ≡ a → (b : Bool) → time_le (date f) t ≡ b → (r : Option (Fact K V)) → IsNewest cmp k t fs r → IsNewest cmp k t (f ∷ fs) (cond (a && b) (later f r) r)
      go true p true q r h = newest-takes f fs r p q h
      go true p false q r h = newest-skips f fs r (ap (λ (x : Bool). x && time_le (date f) t) p ∙ q) h
      go false p b q r h = newest-skips f fs r (ap (λ (x : Bool). x && time_le (date f) t) p) h

  -- the newest of facts that lie apart is the only such fact
  pub newest-from : (fs : List (Fact K V)) (f : Fact K V) → IsApart cmp fs → IsNewestFact cmp k t fs f → newest cmp k t fs ≡ Some f
  newest-from fs f apart h = go (newest cmp k t fs) (newest-is fs)
    where
      go : (r : Option (Fact K V)) → IsNewest cmp k t fs r → r ≡ Some f
      go None none = absurd (none f h.among h.touching h.dated)
      go (Some g) n = ap Some (apart.apart k g f n.among h.among n.touching h.touching (times.le-antisymm (date g) (date f) (h.last g n.among n.touching n.dated) (n.last f h.among h.touching h.dated)))

  pub newest-none : (fs : List (Fact K V)) → IsUntouched cmp k t fs → newest cmp k t fs ≡ None
  newest-none fs h = go (newest cmp k t fs) (newest-is fs)
    where
      go : (r : Option (Fact K V)) → IsNewest cmp k t fs r → r ≡ None
      go None none = refl
      go (Some g) n = absurd (h g n.among n.touching n.dated)

  -- of facts that lie apart, what is said of the newest says which it is
  pub newest-only : (fs : List (Fact K V)) → IsApart cmp fs → (r : Option (Fact K V)) → IsNewest cmp k t fs r → r ≡ newest cmp k t fs
  newest-only fs apart None h = sym (newest-none fs h)
  newest-only fs apart (Some f) h = sym (newest-from fs f apart h)
