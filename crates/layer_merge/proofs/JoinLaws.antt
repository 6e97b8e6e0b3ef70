-- Layers that adjoin: what they tell together of an interval.
use Rattle.std.proofs.Common.{◌≡◌, Bool, true, false, ◌&&◌, sym, refl, ap, ap₂, ◌∙◌, subst, List, [], ◌∷◌, ◌++◌, filter, map, Option, Some, None, inl, inr, true≢false}
use Rattle.std.specs.List.{list_any}
use Rattle.mvcc_keys.specs.Times.{Time, time_le, time_lt}
use Rattle.mvcc_keys.proofs.TimeOrder as times
use Rattle.list_laws.specs.Members.{AllIn, Has}
use Rattle.list_laws.proofs.Bools.{and-both, and-left, and-parts, and-right}
use Rattle.list_laws.proofs.Members as members
use Rattle.range_tombstones.specs.Intervals.{is_between}
use Rattle.range_tombstones.specs.declared.upto.Upto.TheVariants.{At}
use Rattle.fact_model.specs.Facts.{Fact, IsApart, date, newest, touches}
use Rattle.fact_model.specs.Listed.{date_cmp, is_point, key_of, point_cmp, points, ranges}
use Rattle.fact_model.specs.Listings.{IsListed, IsNewestPoint, RangesDiffer}
use Rattle.fact_model.specs.Newest.{IsNewest}
use Rattle.fact_model.specs.Scans.{Item, image, put_of, scan}
use Rattle.fact_model.proofs.Listings as listings
use Rattle.fact_model.proofs.Newest as newests
use Rattle.fact_model.proofs.Orders as orders
use Rattle.fact_model.proofs.Stores.{apart-part}
use Rattle.version_store.specs.Tables.{ByteFact, Bytes, bytes_cmp, entries_of, newest_points}
use Rattle.version_store.proofs.Bytes.{bytes_order, facts-entries}
use Rattle.version_store.proofs.FactOrder.{dates-total, points-total, ranges-sorted}
use Rattle.layer_merge.specs.Changes.{direct_entries}
use Rattle.layer_merge.specs.FromLast.{from_last}
use Rattle.layer_merge.specs.Joins.{AreJoined, AreTold, JoinsAreDirect}
use Rattle.layer_merge.specs.Shares.{Share, flat, is_introduced}
use Rattle.layer_merge.proofs.ChainLaws.{all-of, introduced-scan}
use Rattle.layer_merge.proofs.ChangeLaws.{news-sorted, newest-there, point-touches, there-newest}

-- ---- the parts of an interval

early : (s e t d : Time) → is_between s (At t) d ≡ true → time_le d e ≡ true → is_between s (At e) d ≡ true
early s e t d h le = and-both (time_lt s d) (time_le d e) (and-left (time_lt s d) (time_le d t) h) le

late : (s e t d : Time) → is_between s (At t) d ≡ true → time_le d e ≡ false → is_between e (At t) d ≡ true
late s e t d h past = and-both (time_lt e d) (time_le d t) (times.not_le-lt e d past) (and-right (time_lt s d) (time_le d t) h)

ends-later : (s e t d : Time) → time_le e t ≡ true → is_between s (At e) d ≡ true → is_between s (At t) d ≡ true
ends-later s e t d le h = and-both (time_lt s d) (time_le d t) (and-left (time_lt s d) (time_le d e) h) (times.le-trans d e t (and-right (time_lt s d) (time_le d e) h) le)

begins-earlier : (s e t d : Time) → time_le s e ≡ true → is_between e (At t) d ≡ true → is_between s (At t) d ≡ true
begins-earlier s e t d le h = and-both (time_lt s d) (time_le d t) (times.le-lt-lt s e d le (and-left (time_lt e d) (time_le d t) h)) (and-right (time_lt e d) (time_le d t) h)

nowhere : (s t d : Time) → s ≡ t → is_between s (At t) d ≡ true → ⊥
nowhere s t d same h = times.lt-le-absurd s d (and-left (time_lt s d) (time_le d t) h) (subst (λ (x : Time). time_le d x ≡ true) (sym same) (and-right (time_lt s d) (time_le d t) h))

-- ---- what is told

module _ {K V : Type 0} (fs : List (Fact K V)) where
  -- what is newest of an interval is newest of the part in which it lies
  newest-within : (p q : Time → Bool) (f : Fact K V) → ((d : Time) → q d ≡ true → p d ≡ true) → q (date f) ≡ true → IsNewestPoint p fs f → IsNewestPoint q fs f
  newest-within p q f wider is n = record { listed = (n.listed.0, n.listed.1, is); last = λ g l same. n.last g (l.0, l.1, wider (date g) l.2) same }

  told-ordered : (s t : Time) (ps : List (Share K V)) → AreTold s t fs ps → time_le s t ≡ true
  told-ordered s t [] a = subst (λ (x : Time). time_le s x ≡ true) a (times.le-refl s)
  told-ordered s t (p ∷ ps) a = times.le-trans s a.0 t a.1.0 (told-ordered a.0 t ps a.1.1.1)

  told-in : (s t : Time) (ps : List (Share K V)) → AreTold s t fs ps → AllIn (flat ps) fs
  told-in s t [] a f h = absurd h
  told-in s t (p ∷ ps) a f h = elim (members.has-append_cases f p.facts (flat ps) h) [ inl i ↦ (a.1.1.0.within f i).0 | inr j ↦ told-in a.0 t ps a.1.1.1 f j ]

  told-newest : (s t : Time) (ps : List (Share K V)) → AreTold s t fs ps → (f : Fact K V) → IsNewestPoint (is_between s (At t)) fs f → Has f (flat ps)
  told-newest s t [] a f n = absurd (nowhere s t (date f) a n.listed.2)
  told-newest s t (p ∷ ps) a f n = by (told-newest a.0 t ps a.1.1.1 f) (time_le (date f) a.0) refl
    where
      by : (IsNewestPoint (is_between a.0 (At t)) fs f → Has f (flat ps)) → (b : Bool) → time_le (date f) a.0 ≡ b → Has f (p.facts ++ flat ps)
      by more true le = members.has-append_left f p.facts (flat ps) (a.1.1.0.newest_there f (newest-within (is_between s (At t)) (is_between s (At a.0)) f (λ d. ends-later s a.0 t d (told-ordered a.0 t ps a.1.1.1)) (early s a.0 t (date f) n.listed.2 le) n))
      by more false past = members.has-append_right f p.facts (flat ps) (more (newest-within (is_between s (At t)) (is_between a.0 (At t)) f (λ d. begins-earlier s a.0 t d a.1.0) (late s a.0 t (date f) n.listed.2 past) n))

  told-ranges : (s t : Time) (ps : List (Share K V)) → AreTold s t fs ps → (f : Fact K V) → IsListed false (is_between s (At t)) fs f → Has f (flat ps)
  told-ranges s t [] a f l = absurd (nowhere s t (date f) a l.2)
  told-ranges s t (p ∷ ps) a f l = by (told-ranges a.0 t ps a.1.1.1 f) (time_le (date f) a.0) refl
    where
      by : (IsListed false (is_between a.0 (At t)) fs f → Has f (flat ps)) → (b : Bool) → time_le (date f) a.0 ≡ b → Has f (p.facts ++ flat ps)
      by more true le = members.has-append_left f p.facts (flat ps) (a.1.1.0.ranges_there f (l.0, l.1, early s a.0 t (date f) l.2 le))
      by more false past = members.has-append_right f p.facts (flat ps) (more (l.0, l.1, late s a.0 t (date f) l.2 past))

-- ---- some of the facts that tell of an interval

touched-key : (k : Bytes) (f : ByteFact) → is_point f ≡ true → touches bytes_cmp k f ≡ true → key_of f ≡ k
touched-key k (Fact.Put q v t) p h = orders.tied bytes_cmp bytes_order q k h
touched-key k (Fact.Del q t) p h = orders.tied bytes_cmp bytes_order q k h
touched-key k (Fact.DelRange lo hi t) p h = absurd (true≢false (sym p))

module _ (fs gs : List ByteFact) (s t : Time) (apart : IsApart bytes_cmp fs) (among : AllIn gs fs) where
  abbrev dated : Time → Bool
  dated = is_between s (At t)

  abbrev chosen : ByteFact → Bool
  chosen f = is_point f && dated (date f)

  -- of each put or deletion's key there is a newest one
  newest-for : (g : ByteFact) → IsListed true dated fs g → (f : ByteFact) × (IsNewestPoint dated fs f × (key_of f ≡ key_of g))
  newest-for g l = by (newest bytes_cmp (key_of g) t (filter chosen fs)) (newests.newest-is bytes_cmp (key_of g) t (filter chosen fs))
    where
      there : (f : ByteFact) → IsListed true dated fs f → Has f (filter chosen fs)
      there f m = members.has-filter chosen f fs m.0 (and-both (is_point f) (dated (date f)) m.1 m.2)

      by : (r : Option ByteFact) → IsNewest bytes_cmp (key_of g) t (filter chosen fs) r → (f : ByteFact) × (IsNewestPoint dated fs f × (key_of f ≡ key_of g))
      by None n = absurd (n g (there g l) (point-touches (key_of g) g l.1 refl) (and-right (time_lt s (date g)) (time_le (date g) t) l.2))
      by (Some f) n =
          let c = and-parts (is_point f) (dated (date f)) (members.filter-passes chosen f fs n.among) in
          let same = touched-key (key_of g) f c.0 n.touching in
          (f, (record { listed = (members.filter-has chosen f fs n.among, c.0, c.1); last = λ x m e. n.last x (there x m) (point-touches (key_of g) x m.1 (e ∙ same)) (and-right (time_lt s (date x)) (time_le (date x) t) m.2) }, same))

  points-same : ((f : ByteFact) → IsNewestPoint dated fs f → Has f gs) → newest_points (points bytes_cmp dated gs) ≡ newest_points (points bytes_cmp dated fs)
  points-same all-newest = orders.ascending-same (point_cmp bytes_cmp) points-total (newest_points (points bytes_cmp dated gs)) (newest_points (points bytes_cmp dated fs)) (news-sorted gs apart' dated) (news-sorted fs apart dated) to from
    where
      apart' : IsApart bytes_cmp gs
      apart' = apart-part bytes_cmp fs gs apart among

      to : AllIn (newest_points (points bytes_cmp dated gs)) (newest_points (points bytes_cmp dated fs))
      to f h =
          let n = newest-there gs apart' dated f h in
          there-newest fs apart dated f (record {
            listed = (among f n.listed.0, n.listed.1, n.listed.2);
            last = λ g l same. (
                let w = newest-for g l in
                times.le-trans (date g) (date w.0) (date f) (w.1.0.last g l (sym w.1.1)) (n.last w.0 (all-newest w.0 w.1.0, w.1.0.listed.1, w.1.0.listed.2) (w.1.1 ∙ same)));
          })

      from : AllIn (newest_points (points bytes_cmp dated fs)) (newest_points (points bytes_cmp dated gs))
      from f h =
          let n = newest-there fs apart dated f h in
          there-newest gs apart' dated f (record { listed = (all-newest f n, n.listed.1, n.listed.2); last = λ g l same. n.last g (among g l.0, l.1, l.2) same })

  ranges-same : RangesDiffer fs → ((f : ByteFact) → IsListed false dated fs f → Has f gs) → ranges dated gs ≡ ranges dated fs
  ranges-same differ there = orders.ascending-same date_cmp dates-total (ranges dated gs) (ranges dated fs) (ranges-sorted dated gs) (ranges-sorted dated fs) to from
    where
      some-differ : RangesDiffer gs
      some-differ = record { differ = λ f g hf hg. differ.differ f g (among f hf) (among g hg) }

      to : AllIn (ranges dated gs) (ranges dated fs)
      to f h = let l = ((listings.ranges-listed dated gs some-differ).has f).0 h in ((listings.ranges-listed dated fs differ).has f).1 (among f l.0, l.1, l.2)

      from : AllIn (ranges dated fs) (ranges dated gs)
      from f h = let l = ((listings.ranges-listed dated fs differ).has f).0 h in ((listings.ranges-listed dated gs some-differ).has f).1 (there f l, l.1, l.2)

-- ---- the law

image-same : (t : Time) (fs gs : List ByteFact) → scan bytes_cmp t fs ≡ scan bytes_cmp t gs → image bytes_cmp t fs ≡ image bytes_cmp t gs
unfolding image
image-same t fs gs e = ap (λ (is : List (Item Bytes Bytes)). map put_of is) e

pub joins-direct : JoinsAreDirect
joins-direct fs s e ps apart differ joined = by (list_any is_introduced ps) refl joined
  where
    counted : List ByteFact
    counted = flat (from_last is_introduced ps)

    by : (b : Bool) → list_any is_introduced ps ≡ b → AreJoined bytes_cmp b s e fs ps → direct_entries b s e (entries_of counted) ≡ direct_entries b s e (entries_of fs)
    by true is shares =
        ap (λ (gs : List ByteFact). entries_of (image bytes_cmp e gs)) (facts-entries counted)
        ∙ ap entries_of (image-same e counted fs (introduced-scan bytes_cmp bytes_order s e fs ps apart is shares))
        ∙ ap (λ (gs : List ByteFact). entries_of (image bytes_cmp e gs)) (sym (facts-entries fs))
    by false none told =
        let all : counted ≡ flat ps = all-of bytes_cmp bytes_order ps none in
        let among = told-in fs s e ps told in
        ap (λ (gs : List ByteFact). entries_of (newest_points (points bytes_cmp (is_between s (At e)) gs) ++ ranges (is_between s (At e)) gs)) (facts-entries counted ∙ all)
        ∙ ap entries_of (ap₂ (λ (xs ys : List ByteFact). xs ++ ys) (points-same fs (flat ps) s e apart among (told-newest fs s e ps told)) (ranges-same fs (flat ps) s e apart among differ (told-ranges fs s e ps told)))
        ∙ ap (λ (gs : List ByteFact). entries_of (newest_points (points bytes_cmp (is_between s (At e)) gs) ++ ranges (is_between s (At e)) gs)) (sym (facts-entries fs))
