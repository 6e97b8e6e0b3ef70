-- The order of a plan's entries.
use Rattle.std.proofs.Common.{◌≡◌, ◌∙◌, ℕ, Bool, true, false, sym, refl, ap, ap₂, subst, List, ◌++◌, inl, inr, Ordering, Less, Equal, Greater, is_lt}
use Rattle.std.specs.List.Sorted.{IsStrictlySortedBy}
use Rattle.std.specs.Ordering.{ordering_reverse}
use Rattle.std.proofs.lemmas.Cmp.{tied_itself}
use Rattle.std.proofs.lemmas.List.{map-append}
use Rattle.std.proofs.lemmas.List.Kept.{IsStrictlySortedBy-filter}
use Rattle.mvcc_keys.specs.Times.{Time, time_lt}
use Rattle.mvcc_keys.specs.Codes.{time_cmp}
use Rattle.list_laws.specs.Members.{Has}
use Rattle.mvcc_keys.specs.declared.entries.Entry.{Entry}
use Rattle.range_tombstones.specs.Intervals.{is_between}
use Rattle.fact_model.specs.Listed.{date_cmp, is_point, point_cmp, points}
use Rattle.fact_model.specs.Scans.{image}
use Rattle.list_laws.proofs.Members as members
use Rattle.fact_model.proofs.Orders as orders
use Rattle.version_store.specs.Tables.{ByteFact, Tables, bytes_cmp, entry_of, entries_of, is_newest, newest_points}
use Rattle.version_store.specs.Lists.{fact_of}
use Rattle.version_store.proofs.Bytes.{fact-entry}
use Rattle.list_laws.proofs.Orders.{sorted-append}
use Rattle.span_export.specs.declared.plan.Plan.{Plan}
use Rattle.span_export.specs.declared.plan.Plan.TheVariants.{Changes, Whole}
use Rattle.span_export.specs.Plans.{plan_entries, plan_points, plan_ranges, whole_points}
use Rattle.span_export.specs.Entries.{by_kind, fact_order, order}
use Rattle.span_export.specs.Pieces.{is_after, place_of}
use Rattle.version_store.proofs.FactOrder.{dates-total, equal-lt, greater-lt, image-has, image-sorted, less-lt, point-has, points-sorted, points-total, range-has, ranges-sorted, sorted-map}

-- ---- places

lt-is : (s t : Time) → time_lt s t ≡ is_lt (time_cmp s t)
lt-is s t = by (time_cmp s t) refl
  where
    by : (o : Ordering) → time_cmp s t ≡ o → time_lt s t ≡ is_lt o
    by Less e = less-lt s t e
    by Equal e = equal-lt s t e
    by Greater e = greater-lt s t e

pub after-is : (d e : Entry) → is_after (place_of d) e ≡ is_lt (order d e)
after-is (Entry.Put k t v) (Entry.Put q s w) = refl
after-is (Entry.Put k t v) (Entry.Del q s) = refl
after-is (Entry.Put k t v) (Entry.Range lo hi s) = refl
after-is (Entry.Del k t) (Entry.Put q s w) = refl
after-is (Entry.Del k t) (Entry.Del q s) = refl
after-is (Entry.Del k t) (Entry.Range lo hi s) = refl
after-is (Entry.Range lo hi t) (Entry.Put q s w) = refl
after-is (Entry.Range lo hi t) (Entry.Del q s) = refl
after-is (Entry.Range lo hi t) (Entry.Range lo' hi' s) = lt-is t s

itself : (f : ByteFact) → is_lt (fact_order f f) ≡ false
itself f = by (is_point f)
  where
    by : (b : Bool) → is_lt (by_kind b b (point_cmp bytes_cmp f f) (date_cmp f f)) ≡ false
    by true = ap is_lt (tied_itself points-total f)
    by false = ap is_lt (tied_itself dates-total f)

pub not_after-itself : (e : Entry) → is_after (place_of e) e ≡ false
not_after-itself e = after-is e e ∙ itself (fact_of e)

one-way : (f g : ByteFact) → fact_order f g ≡ Less → is_lt (fact_order g f) ≡ false
one-way f g e = by (is_point f) (is_point g) e
  where
    by : (a b : Bool) → by_kind a b (point_cmp bytes_cmp f g) (date_cmp f g) ≡ Less → is_lt (by_kind b a (point_cmp bytes_cmp g f) (date_cmp g f)) ≡ false
    by true true e = ap is_lt (points-total.antisymm g f ∙ ap ordering_reverse e)
    by true false e = refl
    by false true e = absurd (cc)
    by false false e = ap is_lt (dates-total.antisymm g f ∙ ap ordering_reverse e)

pub not_after-earlier : (d e : Entry) → order d e ≡ Less → is_after (place_of e) d ≡ false
not_after-earlier d e h = after-is e d ∙ one-way (fact_of d) (fact_of e) h

pub after-later : (d e : Entry) → order d e ≡ Less → is_after (place_of d) e ≡ true
after-later d e h = after-is d e ∙ ap is_lt h

-- ---- a plan's entries ascend

newest-sorted : (fs : List ByteFact) → IsStrictlySortedBy (point_cmp bytes_cmp) fs → IsStrictlySortedBy (point_cmp bytes_cmp) (newest_points fs)
unfolding newest_points
newest-sorted fs up = IsStrictlySortedBy-filter (point_cmp bytes_cmp) (is_newest fs) fs up

newest-has : (fs : List ByteFact) (f : ByteFact) → Has f (newest_points fs) → Has f fs
unfolding newest_points
newest-has fs f h = members.filter-has (is_newest fs) f fs h

whole-sorted : (floor : Time) (dated : Time → Bool) (fs : List ByteFact) → IsStrictlySortedBy (point_cmp bytes_cmp) (whole_points floor dated fs)
unfolding whole_points
whole-sorted floor dated fs = orders.ascending-ordered (point_cmp bytes_cmp) points-total (image bytes_cmp floor fs ++ points bytes_cmp dated fs)

whole-has : (floor : Time) (dated : Time → Bool) (fs : List ByteFact) (f : ByteFact) → Has f (whole_points floor dated fs) → is_point f ≡ true
unfolding whole_points
whole-has floor dated fs f h = elim (members.has-append_cases f (image bytes_cmp floor fs) (points bytes_cmp dated fs) (orders.ordered-has (point_cmp bytes_cmp) f (image bytes_cmp floor fs ++ points bytes_cmp dated fs) h)) [ inl i ↦ (image-has floor fs f i).0 | inr j ↦ (point-has dated fs f j).0 ]

plan_points-sorted : (fs : List ByteFact) (plan : Plan) → IsStrictlySortedBy (point_cmp bytes_cmp) (plan_points fs plan)
plan_points-sorted fs (Changes after upto true) = points-sorted (is_between after upto) fs
plan_points-sorted fs (Changes after upto false) = newest-sorted (points bytes_cmp (is_between after upto) fs) (points-sorted (is_between after upto) fs)
plan_points-sorted fs (Whole floor upto true) = whole-sorted floor (is_between floor upto) fs
plan_points-sorted fs (Whole floor upto false) = image-sorted floor fs

pub plan_points-has : (fs : List ByteFact) (plan : Plan) (f : ByteFact) → Has f (plan_points fs plan) → is_point f ≡ true
plan_points-has fs (Changes after upto true) f h = (point-has (is_between after upto) fs f h).0
plan_points-has fs (Changes after upto false) f h = (point-has (is_between after upto) fs f (newest-has (points bytes_cmp (is_between after upto) fs) f h)).0
plan_points-has fs (Whole floor upto true) f h = whole-has floor (is_between floor upto) fs f h
plan_points-has fs (Whole floor upto false) f h = (image-has floor fs f h).0

plan_ranges-sorted : (fs : List ByteFact) (plan : Plan) → IsStrictlySortedBy date_cmp (plan_ranges fs plan)
unfolding IsStrictlySortedBy
plan_ranges-sorted fs (Changes after upto every) = ranges-sorted (is_between after upto) fs
plan_ranges-sorted fs (Whole floor upto true) = ranges-sorted (is_between floor upto) fs
plan_ranges-sorted fs (Whole floor upto false) = tt

plan_ranges-has : (fs : List ByteFact) (plan : Plan) (f : ByteFact) → Has f (plan_ranges fs plan) → is_point f ≡ false
plan_ranges-has fs (Changes after upto every) f h = range-has (is_between after upto) fs f h
plan_ranges-has fs (Whole floor upto true) f h = range-has (is_between floor upto) fs f h
plan_ranges-has fs (Whole floor upto false) f h = absurd h

order-of : (f g : ByteFact) (a b : Bool) → is_point f ≡ a → is_point g ≡ b → order (entry_of f) (entry_of g) ≡ by_kind a b (point_cmp bytes_cmp f g) (date_cmp f g)
order-of f g a b p q = ap₂ fact_order (fact-entry f) (fact-entry g) ∙ ap₂ (λ (x y : Bool). by_kind x y (point_cmp bytes_cmp f g) (date_cmp f g)) p q

pub plan-sorted : (h : Tables) (table : ℕ) (plan : Plan) → IsStrictlySortedBy order (plan_entries h table plan)
unfolding plan_entries
plan-sorted h table plan = subst (IsStrictlySortedBy order) (sym (map-append entry_of ps rs)) (sorted-append order (entries_of ps) (entries_of rs) (sorted-map (point_cmp bytes_cmp) order entry_of ps (λ a b i j e. order-of a b true true (points-are a i) (points-are b j) ∙ e) (plan_points-sorted (h.facts table) plan)) (sorted-map date_cmp order entry_of rs (λ a b i j e. order-of a b false false (ranges-are a i) (ranges-are b j) ∙ e) (plan_ranges-sorted (h.facts table) plan)) across)
  where
    ps : List ByteFact
    ps = plan_points (h.facts table) plan

    rs : List ByteFact
    rs = plan_ranges (h.facts table) plan

    points-are : (f : ByteFact) → Has f ps → is_point f ≡ true
    points-are = plan_points-has (h.facts table) plan

    ranges-are : (f : ByteFact) → Has f rs → is_point f ≡ false
    ranges-are = plan_ranges-has (h.facts table) plan

    across : (x y : Entry) → Has x (entries_of ps) → Has y (entries_of rs) → order x y ≡ Less
    across x y i j = let m = members.map-has entry_of x ps i in let n = members.map-has entry_of y rs j in ap₂ order m.2 n.2 ∙ order-of m.0 n.0 true false (points-are m.0 m.1) (ranges-are n.0 n.1)
