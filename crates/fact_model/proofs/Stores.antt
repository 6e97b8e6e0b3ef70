-- Lists that say the same as a whole history: an image and what came after it.
use Rattle.std.proofs.Common.{◌≡◌, Bool, true, false, sym, refl, ap, ◌∙◌, subst, List, ◌++◌, Option, Some, None, ◌⊎◌, inl, inr, Ordering, IsPermutation}
use Rattle.std.proofs.lemmas.List.Sorted.{IsPermutation-sym}
use Rattle.mvcc_keys.specs.Times.{Time, time_lt, time_le}
use Rattle.fact_model.specs.Facts.{Fact, Put, Del, DelRange, date, touches, newest, Version, version_of, value, IsApart, IsKeyOrder, after, upto}
use Rattle.list_laws.specs.Members.{Has, AllIn}
use Rattle.fact_model.specs.Scans.{scan, image, kept}
use Rattle.mvcc_keys.proofs.TimeOrder as times
use Rattle.list_laws.proofs.Members as members
use Rattle.fact_model.proofs.Orders as orders
use Rattle.fact_model.proofs.Newest as newests
use Rattle.fact_model.specs.Newest.{IsNewestFact, IsNewest, IsUntouched}
use Rattle.fact_model.proofs.Scanned as scanned

module _ {K V : Type 0} (cmp : K → K → Ordering) where
  pub apart-part : (fs gs : List (Fact K V)) → IsApart cmp fs → AllIn gs fs → IsApart cmp gs
  apart-part fs gs a i = record { apart = λ k f g p q. a.apart k f g (i f p) (i g q) }

  pub part-newest : (k : K) (t : Time) (fs gs : List (Fact K V)) (f : Fact K V) → AllIn gs fs → Has f gs → IsNewestFact cmp k t fs f → IsNewestFact cmp k t gs f
  part-newest k t fs gs f i h n = record { among = h; touching = n.touching; dated = n.dated; last = λ g j. n.last g (i g j) }

  -- a part of a history says the same of k at t if it has the newest fact there, or shows nothing where that fact is no put
  pub value-part : (k : K) (t : Time) (fs gs : List (Fact K V)) → IsApart cmp fs → AllIn gs fs → ((f : Fact K V) → IsNewestFact cmp k t fs f → Has f gs ⊎ (version_of (Some f) ≡ None) × (value cmp k t gs ≡ None)) → value cmp k t gs ≡ value cmp k t fs
  unfolding value
  value-part k t fs gs a i h = go (newest cmp k t fs) (newests.newest-is cmp k t fs)
    where
      go : (r : Option (Fact K V)) → IsNewest cmp k t fs r → version_of (newest cmp k t gs) ≡ version_of r
      go None n = ap version_of (newests.newest-none cmp k t gs (λ g j. n g (i g j)))
      go (Some f) n = elim (h f n) [ inl j ↦ ap version_of (newests.newest-from cmp k t gs f (apart-part fs gs a i) (part-newest k t fs gs f i j n)) | inr e ↦ e.1 ∙ sym e.0 ]

  -- only what is there counts, in whatever order and however often
  pub value-same_facts : (k : K) (t : Time) (fs gs : List (Fact K V)) → IsApart cmp fs → AllIn gs fs → AllIn fs gs → value cmp k t gs ≡ value cmp k t fs
  value-same_facts k t fs gs a i j = value-part k t fs gs a i (λ f n. inl (j f n.among))

  pub value-permuted : (k : K) (t : Time) (fs gs : List (Fact K V)) → IsApart cmp fs → IsPermutation fs gs → value cmp k t gs ≡ value cmp k t fs
  value-permuted k t fs gs a p = value-same_facts k t fs gs a (members.permuted-in gs fs (IsPermutation-sym fs gs p)) (members.permuted-in fs gs p)

  -- gs has the image of fs at s, and whatever is newest of fs at t and dated after s, and nothing else
  pub record IsMadeOf (s t : Time) (fs gs : List (Fact K V)) : Type 0 where
    pub images : AllIn (image cmp s fs) gs
    pub newer : (k : K) (f : Fact K V) → IsNewestFact cmp k t fs f → time_lt s (date f) ≡ true → Has f gs
    pub only : (f : Fact K V) → Has f gs → Has f (image cmp s fs) ⊎ Has f fs × (time_lt s (date f) ≡ true)

  module _ (o : IsKeyOrder cmp) where
    pub image-in : (s : Time) (fs : List (Fact K V)) → AllIn (image cmp s fs) fs
    image-in s fs f h = let m = scanned.image-has cmp o s fs f h in subst (λ (x : Fact K V). Has x fs) (sym m.3) (scanned.value-put cmp o s fs m.0 m.1 m.2).among

    made-in : (s t : Time) (fs gs : List (Fact K V)) → IsMadeOf s t fs gs → AllIn gs fs
    made-in s t fs gs m f h = elim (m.only f h) [ inl i ↦ image-in s fs f i | inr p ↦ p.0 ]

    -- a fact dated up to s that is newest at t is newest at s
    earlier : (k : K) (s t : Time) (fs : List (Fact K V)) (f : Fact K V) → time_le s t ≡ true → time_le (date f) s ≡ true → IsNewestFact cmp k t fs f → IsNewestFact cmp k s fs f
    earlier k s t fs f le d n = record { among = n.among; touching = n.touching; dated = d; last = λ g h p q. n.last g h p (times.le-trans (date g) s t q le) }

    -- where the fact at s is a deletion, nothing of gs touches k
    hidden : (k : K) (s t : Time) (fs gs : List (Fact K V)) (f : Fact K V) → IsApart cmp fs → IsMadeOf s t fs gs → time_le s t ≡ true → time_le (date f) s ≡ true → IsNewestFact cmp k t fs f → version_of (Some f) ≡ None → value cmp k t gs ≡ None
    unfolding value
    hidden k s t fs gs f a m le d n none = ap version_of (newests.newest-none cmp k t gs untouched)
      where
        at_s : value cmp k s fs ≡ None
        at_s = ap version_of (newests.newest-from cmp k s fs f a (earlier k s t fs f le d n)) ∙ none

        untouched : IsUntouched cmp k t gs
        untouched g h p q = elim (m.only g h) [ inl i ↦ shown (scanned.image-has cmp o s fs g i) | inr j ↦ times.lt-le-absurd s (date g) j.1 (times.le-trans (date g) (date f) s (n.last g j.0 p q) d) ]
          where
            shown : (q : K) × (v : Version V) × (value cmp q s fs ≡ Some v) × (g ≡ Put q v.value v.at) → ⊥
            shown w = let same : w.0 ≡ k = orders.tied cmp o w.0 k (subst (λ (x : Fact K V). touches cmp k x ≡ true) w.3 p) in let e : value cmp k s fs ≡ Some w.1 = subst (λ (x : K). value cmp x s fs ≡ Some w.1) same w.2 in let c : None ≡ Some w.1 = sym at_s ∙ e in cc

    -- the law of stores and of merges
    pub made-value : (k : K) (s t : Time) (fs gs : List (Fact K V)) → IsApart cmp fs → time_le s t ≡ true → IsMadeOf s t fs gs → value cmp k t gs ≡ value cmp k t fs
    unfolding value
    made-value k s t fs gs a le m = value-part k t fs gs a (made-in s t fs gs m) stays
      where
        at_image : (f : Fact K V) → IsNewestFact cmp k t fs f → time_le (date f) s ≡ true → Has f gs ⊎ (version_of (Some f) ≡ None) × (value cmp k t gs ≡ None)
        at_image (Put q v at) n d = let same = orders.tied cmp o q k n.touching in let e : value cmp k s fs ≡ Some (record { value = v; at = at }) = ap version_of (newests.newest-from cmp k s fs (Put q v at) a (earlier k s t fs (Put q v at) le d n)) in inl (m.images (Put q v at) (subst (λ (x : K). Has (Put x v at) (image cmp s fs)) (sym same) (scanned.has-image cmp o s fs k (record { value = v; at = at }) e)))
        at_image (Del q at) n d = inr (refl, hidden k s t fs gs (Del q at) a m le d n refl)
        at_image (DelRange lo hi at) n d = inr (refl, hidden k s t fs gs (DelRange lo hi at) a m le d n refl)

        stays : (f : Fact K V) → IsNewestFact cmp k t fs f → Has f gs ⊎ (version_of (Some f) ≡ None) × (value cmp k t gs ≡ None)
        stays f n = by (time_le (date f) s) refl
          where
            by : (b : Bool) → time_le (date f) s ≡ b → Has f gs ⊎ (version_of (Some f) ≡ None) × (value cmp k t gs ≡ None)
            by true e = at_image f n e
            by false e = inl (m.newer k f n (times.not_le-lt s (date f) e))

    pub made-scan : (s t : Time) (fs gs : List (Fact K V)) → IsApart cmp fs → time_le s t ≡ true → IsMadeOf s t fs gs → scan cmp t gs ≡ scan cmp t fs
    made-scan s t fs gs a le m = scanned.scan-by_value cmp o t t gs fs (λ k. made-value k s t fs gs a le m)

    -- the law of stores
    kept-made : (g t : Time) (fs : List (Fact K V)) → IsMadeOf g t fs (kept cmp g fs)
    unfolding kept
    kept-made g t fs = record {
      images = λ f h. members.has-append_left f (image cmp g fs) (after g fs) h;
      newer = λ k f n later. members.has-append_right f (image cmp g fs) (after g fs) (members.has-filter (λ x. time_lt g (date x)) f fs n.among later);
      only = λ f h. elim (members.has-append_cases f (image cmp g fs) (after g fs) h) [ inl i ↦ inl i | inr j ↦ inr (members.filter-has (λ x. time_lt g (date x)) f fs j, members.filter-passes (λ x. time_lt g (date x)) f fs j) ];
    }

    pub kept-value : (k : K) (g t : Time) (fs : List (Fact K V)) → IsApart cmp fs → time_le g t ≡ true → value cmp k t (kept cmp g fs) ≡ value cmp k t fs
    kept-value k g t fs a le = made-value k g t fs (kept cmp g fs) a le (kept-made g t fs)

    pub kept-scan : (g t : Time) (fs : List (Fact K V)) → IsApart cmp fs → time_le g t ≡ true → scan cmp t (kept cmp g fs) ≡ scan cmp t fs
    kept-scan g t fs a le = made-scan g t fs (kept cmp g fs) a le (kept-made g t fs)

    pub scan-permuted : (t : Time) (fs gs : List (Fact K V)) → IsApart cmp fs → IsPermutation fs gs → scan cmp t gs ≡ scan cmp t fs
    scan-permuted t fs gs a p = scanned.scan-by_value cmp o t t gs fs (λ k. value-permuted k t fs gs a p)

    -- the image at s and the facts dated after s up to t
    merge-made : (s t : Time) (fs : List (Fact K V)) → IsMadeOf s t fs (image cmp s fs ++ upto t (after s fs))
    merge-made s t fs = record {
      images = λ f h. members.has-append_left f (image cmp s fs) (upto t (after s fs)) h;
      newer = λ k f n later. members.has-append_right f (image cmp s fs) (upto t (after s fs)) (members.has-filter (λ x. time_le (date x) t) f (after s fs) (members.has-filter (λ x. time_lt s (date x)) f fs n.among later) n.dated);
      only = λ f h. elim (members.has-append_cases f (image cmp s fs) (upto t (after s fs)) h) [ inl i ↦ inl i | inr j ↦ let h1 = members.filter-has (λ x. time_le (date x) t) f (after s fs) j in inr (members.filter-has (λ x. time_lt s (date x)) f fs h1, members.filter-passes (λ x. time_lt s (date x)) f fs h1) ];
    }

    pub merge-scan : (s t : Time) (fs : List (Fact K V)) → IsApart cmp fs → time_le s t ≡ true → scan cmp t (image cmp s fs ++ upto t (after s fs)) ≡ scan cmp t fs
    merge-scan s t fs a le = made-scan s t fs (image cmp s fs ++ upto t (after s fs)) a le (merge-made s t fs)
