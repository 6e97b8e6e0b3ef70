-- A plan's entries are exactly the facts that it has.
use Rattle.std.proofs.Common.{◌≡◌, ◌∙◌, Bool, true, false, not, ◌&&◌, sym, refl, ap, subst, List, [], ◌∷◌, ◌++◌, inl, inr, ◌⊎◌, is_eq}
use Rattle.std.specs.Prelude.{◌↔◌}
use Rattle.std.specs.List.{list_any}
use Rattle.std.proofs.lemmas.Cmp.{tied_itself}
use Rattle.mvcc_keys.specs.Times.{Time, time_le, time_lt}
use Rattle.mvcc_keys.specs.declared.entries.Entry.{Entry}
use Rattle.mvcc_keys.proofs.TimeOrder as times
use Rattle.list_laws.specs.Members.{Has}
use Rattle.list_laws.proofs.Bools.{not-true, or-neither}
use Rattle.list_laws.proofs.Members as members
use Rattle.range_tombstones.specs.Intervals.{is_between}
use Rattle.fact_model.specs.Facts.{Fact, IsApart, date}
use Rattle.fact_model.specs.Listed.{is_point, key_of, point_cmp, points, ranges}
use Rattle.fact_model.specs.Listings.{IsListed, IsNewestPoint, RangesDiffer}
use Rattle.fact_model.specs.Scans.{image}
use Rattle.fact_model.proofs.Listings as listings
use Rattle.fact_model.proofs.Orders as orders
use Rattle.fact_model.proofs.Scanned as scanned
use Rattle.fact_model.proofs.Stores as stores
use Rattle.version_store.specs.Tables.{Bytes, ByteFact, bytes_cmp, entry_of, entries_of, is_newest, newest_points, same_key}
use Rattle.version_store.specs.Lists.{fact_of}
use Rattle.version_store.proofs.Bytes.{bytes_order, entry-fact, fact-entry}
use Rattle.version_store.proofs.FactOrder as order
use Rattle.span_export.specs.declared.plan.Plan.{Plan}
use Rattle.span_export.specs.declared.plan.Plan.TheVariants.{Changes, Whole}
use Rattle.span_export.specs.Entries.{EntriesAreExact, IsGiven, IsShown}
use Rattle.span_export.specs.Plans.{plan_entries, plan_points, plan_ranges, whole_points}
use Rattle.span_export.proofs.EntryOrder.{plan-sorted}
use Rattle.list_laws.proofs.Filters.{any-none, none-any}

-- ---- none of a list

-- ---- visible puts

pub image-shown : (t : Time) (fs : List ByteFact) (f : ByteFact) → Has f (image bytes_cmp t fs) → IsShown t fs f
image-shown t fs f h = let m = scanned.image-has bytes_cmp bytes_order t fs f h in subst (IsShown t fs) (sym m.3) m.2

pub shown-image : (t : Time) (fs : List ByteFact) (f : ByteFact) → IsShown t fs f → Has f (image bytes_cmp t fs)
shown-image t fs (Fact.Put k v at) e = scanned.has-image bytes_cmp bytes_order t fs k (record { value = v; at = at }) e
shown-image t fs (Fact.Del k at) e = absurd e
shown-image t fs (Fact.DelRange lo hi at) e = absurd e

module _ (fs : List ByteFact) (apart : IsApart bytes_cmp fs) (differ : RangesDiffer fs) where
  -- ---- listings

  point-is : (dated : Time → Bool) (f : ByteFact) → Has f (points bytes_cmp dated fs) ↔ IsListed true dated fs f
  point-is dated f = (listings.points-listed bytes_cmp bytes_order dated fs apart).has f

  range-is : (dated : Time → Bool) (f : ByteFact) → Has f (ranges dated fs) ↔ IsListed false dated fs f
  range-is dated f = (listings.ranges-listed dated fs differ).has f

  -- what has a date of the interval is a put or deletion, or a range deletion
  split : (dated : Time → Bool) (f : ByteFact) → Has f fs → dated (date f) ≡ true → Has f (points bytes_cmp dated fs) ⊎ Has f (ranges dated fs)
  split dated f h d = by (is_point f) refl
    where
      by : (b : Bool) → is_point f ≡ b → Has f (points bytes_cmp dated fs) ⊎ Has f (ranges dated fs)
      by true e = inl ((point-is dated f).1 (h, e, d))
      by false e = inr ((range-is dated f).1 (h, e, d))

  -- ---- the newest of each key

  newest-there : (dated : Time → Bool) (f : ByteFact) → Has f (newest_points (points bytes_cmp dated fs)) → IsNewestPoint dated fs f
  unfolding newest_points
  newest-there dated f h = record { listed = (point-is dated f).0 (members.filter-has (is_newest ps) f ps h); last = last }
    where
      ps : List ByteFact
      ps = points bytes_cmp dated fs

      none : list_any (λ g. same_key g f && time_lt (date f) (date g)) ps ≡ false
      none = not-true (list_any (λ g. same_key g f && time_lt (date f) (date g)) ps) (members.filter-passes (is_newest ps) f ps h)

      last : (g : ByteFact) → IsListed true dated fs g → key_of g ≡ key_of f → time_le (date g) (date f) ≡ true
      last g l e =
          let same : same_key g f ≡ true = ap (λ (k : Bytes). is_eq (bytes_cmp k (key_of f))) e ∙ ap is_eq (tied_itself bytes_order.total (key_of f)) in
          times.not_lt-le (date f) (date g) (ap (λ (b : Bool). b && time_lt (date f) (date g)) (sym same) ∙ any-none (λ x. same_key x f && time_lt (date f) (date x)) ps g none ((point-is dated g).1 l))

  there-newest : (dated : Time → Bool) (f : ByteFact) → IsNewestPoint dated fs f → Has f (newest_points (points bytes_cmp dated fs))
  unfolding newest_points
  there-newest dated f n = members.has-filter (is_newest ps) f ps ((point-is dated f).1 n.listed) (ap not (none-any (λ g. same_key g f && time_lt (date f) (date g)) ps (λ g i. older g i (same_key g f) refl)))
    where
      ps : List ByteFact
      ps = points bytes_cmp dated fs

      older : (g : ByteFact) → Has g ps → (b : Bool) → same_key g f ≡ b → (same_key g f && time_lt (date f) (date g)) ≡ false
      older g i true e = ap (λ (b : Bool). b && time_lt (date f) (date g)) e ∙ times.le-not_lt (date f) (date g) (n.last g ((point-is dated g).0 i) (orders.tied bytes_cmp bytes_order (key_of g) (key_of f) e))
      older g i false e = ap (λ (b : Bool). b && time_lt (date f) (date g)) e

  -- ---- the image at a floor and what came after it

  module _ (floor : Time) (dated : Time → Bool) where
    both-in : (f : ByteFact) → Has f (image bytes_cmp floor fs ++ points bytes_cmp dated fs) → Has f fs × (is_point f ≡ true)
    both-in f h = elim (members.has-append_cases f (image bytes_cmp floor fs) (points bytes_cmp dated fs) h) [ inl i ↦ (stores.image-in bytes_cmp bytes_order floor fs f i, (order.image-has floor fs f i).0) | inr j ↦ (let l = (point-is dated f).0 j in (l.0, l.1)) ]

    there-whole : (f : ByteFact) → Has f (image bytes_cmp floor fs ++ points bytes_cmp dated fs) → Has f (whole_points floor dated fs)
    unfolding whole_points
    there-whole f h = orders.ordered-there (point_cmp bytes_cmp) f (image bytes_cmp floor fs ++ points bytes_cmp dated fs) (λ x y i j e. let a = both-in x i in let b = both-in y j in listings.points-same bytes_cmp bytes_order fs apart x y a.0 b.0 a.1 b.1 e) h

    whole-there : (f : ByteFact) → Has f (whole_points floor dated fs) → Has f (image bytes_cmp floor fs ++ points bytes_cmp dated fs)
    unfolding whole_points
    whole-there f h = orders.ordered-has (point_cmp bytes_cmp) f (image bytes_cmp floor fs ++ points bytes_cmp dated fs) h

  -- ---- plans

  given : (plan : Plan) (f : ByteFact) → Has f (plan_points fs plan ++ plan_ranges fs plan) → IsGiven fs plan f
  given (Changes after upto true) f h = elim (members.has-append_cases f (points bytes_cmp (is_between after upto) fs) (ranges (is_between after upto) fs) h) [ inl i ↦ (let l = (point-is (is_between after upto) f).0 i in (l.0, l.2)) | inr j ↦ (let l = (range-is (is_between after upto) f).0 j in (l.0, l.2)) ]
  given (Changes after upto false) f h = elim (members.has-append_cases f (newest_points (points bytes_cmp (is_between after upto) fs)) (ranges (is_between after upto) fs) h) [ inl i ↦ inl (newest-there (is_between after upto) f i) | inr j ↦ inr ((range-is (is_between after upto) f).0 j) ]
  given (Whole floor upto true) f h = elim (members.has-append_cases f (whole_points floor (is_between floor upto) fs) (ranges (is_between floor upto) fs) h) [ inl i ↦ elim (members.has-append_cases f (image bytes_cmp floor fs) (points bytes_cmp (is_between floor upto) fs) (whole-there floor (is_between floor upto) f i)) [ inl a ↦ inl (image-shown floor fs f a) | inr b ↦ (let l = (point-is (is_between floor upto) f).0 b in inr (l.0, l.2)) ] | inr j ↦ (let l = (range-is (is_between floor upto) f).0 j in inr (l.0, l.2)) ]
  given (Whole floor upto false) f h = elim (members.has-append_cases f (image bytes_cmp floor fs) [] h) [ inl i ↦ image-shown floor fs f i | inr j ↦ absurd j ]

  has-given : (plan : Plan) (f : ByteFact) → IsGiven fs plan f → Has f (plan_points fs plan ++ plan_ranges fs plan)
  has-given (Changes after upto true) f g = elim (split (is_between after upto) f g.0 g.1) [ inl i ↦ members.has-append_left f (points bytes_cmp (is_between after upto) fs) (ranges (is_between after upto) fs) i | inr j ↦ members.has-append_right f (points bytes_cmp (is_between after upto) fs) (ranges (is_between after upto) fs) j ]
  has-given (Changes after upto false) f (inl n) = members.has-append_left f (newest_points (points bytes_cmp (is_between after upto) fs)) (ranges (is_between after upto) fs) (there-newest (is_between after upto) f n)
  has-given (Changes after upto false) f (inr l) = members.has-append_right f (newest_points (points bytes_cmp (is_between after upto) fs)) (ranges (is_between after upto) fs) ((range-is (is_between after upto) f).1 l)
  has-given (Whole floor upto true) f (inl s) = members.has-append_left f (whole_points floor (is_between floor upto) fs) (ranges (is_between floor upto) fs) (there-whole floor (is_between floor upto) f (members.has-append_left f (image bytes_cmp floor fs) (points bytes_cmp (is_between floor upto) fs) (shown-image floor fs f s)))
  has-given (Whole floor upto true) f (inr g) = elim (split (is_between floor upto) f g.0 g.1) [ inl i ↦ members.has-append_left f (whole_points floor (is_between floor upto) fs) (ranges (is_between floor upto) fs) (there-whole floor (is_between floor upto) f (members.has-append_right f (image bytes_cmp floor fs) (points bytes_cmp (is_between floor upto) fs) i)) | inr j ↦ members.has-append_right f (whole_points floor (is_between floor upto) fs) (ranges (is_between floor upto) fs) j ]
  has-given (Whole floor upto false) f s = members.has-append_left f (image bytes_cmp floor fs) [] (shown-image floor fs f s)

-- ---- at entries

entries-there : (e : Entry) (fs : List ByteFact) → Has e (entries_of fs) → Has (fact_of e) fs
entries-there e fs h = let m = members.map-has entry_of e fs h in subst (λ (f : ByteFact). Has f fs) (sym (ap fact_of m.2 ∙ fact-entry m.0)) m.1

there-entries : (e : Entry) (fs : List ByteFact) → Has (fact_of e) fs → Has e (entries_of fs)
there-entries e fs h = subst (λ (d : Entry). Has d (entries_of fs)) (entry-fact e) (members.has-map entry_of (fact_of e) fs h)

pub entries-exact : EntriesAreExact
unfolding plan_entries
entries-exact h table plan apart differ = record {
  ascends = plan-sorted h table plan;
  has = λ e. (
    λ i. given (h.facts table) apart differ plan (fact_of e) (entries-there e (plan_points (h.facts table) plan ++ plan_ranges (h.facts table) plan) i),
    λ g. there-entries e (plan_points (h.facts table) plan ++ plan_ranges (h.facts table) plan) (has-given (h.facts table) apart differ plan (fact_of e) g),
  );
}
