-- What a store holds after one more fact, and after a second collection.
use Rattle.std.proofs.Common.{◌≡◌, Bool, true, false, cond, sym, refl, ap, ap₂, ◌∙◌, subst, ◌&&◌, List, [], ◌∷◌, ◌++◌, Option, Some, None, inl, inr, map, filter, Ordering, true≢false, append_assoc}
use Rattle.std.proofs.lemmas.List.Elements.{filter-append}
use Rattle.mvcc_keys.specs.Times.{Time, time_lt, time_le}
use Rattle.fact_model.specs.Facts.{Fact, date, touches, later, newest, version_of, value, IsApart, IsKeyOrder, after}
use Rattle.list_laws.specs.Members.{Has}
use Rattle.fact_model.specs.Scans.{image, kept}
use Rattle.mvcc_keys.proofs.TimeOrder as times
use Rattle.fact_model.proofs.Scanned as scanned
use Rattle.fact_model.proofs.Stores as stores

module _ {K V : Type 0} (cmp : K → K → Ordering) where
  -- a later fact is not seen
  newest-push_later : (k : K) (g : Time) (fs : List (Fact K V)) (f : Fact K V) → time_le (date f) g ≡ false → newest cmp k g (fs ++ f ∷ []) ≡ newest cmp k g fs
  unfolding newest
  newest-push_later k g [] f e = rw e (by (touches cmp k f))
    where
      by : (b : Bool) → cond (b && false) (Some f) None ≡ None
      by true = refl
      by false = refl
  newest-push_later k g (x ∷ fs) f e = ap (λ (r : Option (Fact K V)). cond (touches cmp k x && time_le (date x) g) (later x r) r) (newest-push_later k g fs f e)

  module _ (o : IsKeyOrder cmp) where
    pub image-push_later : (g : Time) (fs : List (Fact K V)) (f : Fact K V) → time_le (date f) g ≡ false → image cmp g (fs ++ f ∷ []) ≡ image cmp g fs
    unfolding image value
    image-push_later g fs f e = ap (map _) (scanned.scan-by_value cmp o g g (fs ++ f ∷ []) fs (λ k. ap version_of (newest-push_later k g fs f e)))

    -- a store that a later fact is put into
    pub kept-push : (g : Time) (fs : List (Fact K V)) (f : Fact K V) → time_lt g (date f) ≡ true → kept cmp g (fs ++ f ∷ []) ≡ kept cmp g fs ++ f ∷ []
    unfolding kept
    kept-push g fs f e = rw (image-push_later g fs f (times.lt-not_le g (date f) e), filter-append (λ (x : Fact K V). time_lt g (date x)) fs (f ∷ []), e) (sym (append_assoc (image cmp g fs) (after g fs) (f ∷ [])))

    -- nothing of an image is dated after its time
    no-later : (g s : Time) (xs : List (Fact K V)) → ((f : Fact K V) → Has f xs → time_le (date f) g ≡ true) → time_le g s ≡ true → after s xs ≡ []
    no-later g s [] all le = refl
    no-later g s (x ∷ xs) all le = rw (times.le-not_lt s (date x) (times.le-trans (date x) g s (all x (inl refl)) le)) (no-later g s xs (λ f i. all f (inr i)) le)

    image-dated : (g : Time) (fs : List (Fact K V)) (f : Fact K V) → Has f (image cmp g fs) → time_le (date f) g ≡ true
    image-dated g fs f h = let m = scanned.image-has cmp o g fs f h in subst (λ (x : Fact K V). time_le (date x) g ≡ true) (sym m.3) (scanned.value-put cmp o g fs m.0 m.1 m.2).dated

    after-after : (g s : Time) (fs : List (Fact K V)) → time_le g s ≡ true → after s (after g fs) ≡ after s fs
    after-after g s [] le = refl
    after-after g s (x ∷ fs) le = by (time_lt g (date x)) refl (time_lt s (date x)) refl (after-after g s fs le)
      where
        by : (a : Bool) → time_lt g (date x) ≡ a → (b : Bool) → time_lt s (date x) ≡ b → after s (after g fs) ≡ after s fs → after s (cond a (x ∷ after g fs) (after g fs)) ≡ cond b (x ∷ after s fs) (after s fs)
        by true p true q e = rw q (ap (λ (xs : List (Fact K V)). x ∷ xs) e)
        by true p false q e = rw q e
        by false p true q e = absurd (true≢false (sym (times.le-lt-lt g s (date x) le q) ∙ p))
        by false p false q e = e

    -- a second collection
    pub kept-kept : (g s : Time) (fs : List (Fact K V)) → IsApart cmp fs → time_le g s ≡ true → kept cmp s (kept cmp g fs) ≡ kept cmp s fs
    unfolding kept image
    kept-kept g s fs a le = ap₂ (λ (x y : List (Fact K V)). x ++ y) images afters
      where
        images : image cmp s (kept cmp g fs) ≡ image cmp s fs
        images = ap (map _) (stores.kept-scan cmp o g s fs a le)

        afters : after s (kept cmp g fs) ≡ after s fs
        afters = rw (filter-append (λ (x : Fact K V). time_lt s (date x)) (image cmp g fs) (after g fs), no-later g s (image cmp g fs) (image-dated g fs) le) (after-after g s fs le)

    -- what is dated after a collection is all there
    pub kept-later : (g : Time) (p : Fact K V → Bool) (fs : List (Fact K V)) → ((f : Fact K V) → p f ≡ true → time_lt g (date f) ≡ true) → filter p (kept cmp g fs) ≡ filter p fs
    unfolding kept
    kept-later g p fs later = filter-append p (image cmp g fs) (after g fs) ∙ ap₂ (λ (x y : List (Fact K V)). x ++ y) (off (image cmp g fs) (image-dated g fs)) (on fs)
      where
        off : (xs : List (Fact K V)) → ((f : Fact K V) → Has f xs → time_le (date f) g ≡ true) → filter p xs ≡ []
        off [] all = refl
        off (x ∷ xs) all = by (p x) refl (off xs (λ f i. all f (inr i)))
          where
            by : (b : Bool) → p x ≡ b → filter p xs ≡ [] → cond b (x ∷ filter p xs) (filter p xs) ≡ []
            by true e more = absurd (times.lt-le-absurd g (date x) (later x e) (all x (inl refl)))
            by false e more = more

        on : (xs : List (Fact K V)) → filter p (after g xs) ≡ filter p xs
        on [] = refl
        on (x ∷ xs) = by (time_lt g (date x)) refl (p x) refl (on xs)
          where
            by : (a : Bool) → time_lt g (date x) ≡ a → (b : Bool) → p x ≡ b → filter p (after g xs) ≡ filter p xs → filter p (cond a (x ∷ after g xs) (after g xs)) ≡ cond b (x ∷ filter p xs) (filter p xs)
            by true e true q more = rw q (ap (λ (ys : List (Fact K V)). x ∷ ys) more)
            by true e false q more = rw q more
            by false e true q more = absurd (true≢false (sym (later x q) ∙ e))
            by false e false q more = more
