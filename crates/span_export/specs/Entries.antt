-- The order of entries, and which facts a plan has.
use Rattle.std.specs.Prelude.{◌≡◌, ◌⊎◌, ℕ, Bool, true, false, List, Some}
use Rattle.std.specs.declared.cmp.Ordering.{Ordering}
use Rattle.std.specs.declared.cmp.Ordering.TheVariants.{Less, Greater}
use Rattle.mvcc_keys.specs.Times.{Time}
use Rattle.mvcc_keys.specs.declared.entries.Entry.{Entry}
use Rattle.list_laws.specs.Members.{Has}
use Rattle.range_tombstones.specs.Intervals.{is_between}
use Rattle.fact_model.specs.Facts.{Fact, IsApart, date, value}
use Rattle.fact_model.specs.Listed.{date_cmp, is_point, point_cmp}
use Rattle.fact_model.specs.Listings.{IsListed, IsListing, IsNewestPoint, RangesDiffer}
use Rattle.version_store.specs.Tables.{ByteFact, Tables, bytes_cmp}
use Rattle.version_store.specs.Lists.{fact_of}
use Rattle.span_export.specs.Plans.{plan_entries}
use Rattle.span_export.specs.declared.plan.Plan.{Plan}
use Rattle.span_export.specs.declared.plan.Plan.TheVariants.{Changes, Whole}

-- ---- the order

-- puts and deletions before range deletions
abbrev pub by_kind : Bool → Bool → Ordering → Ordering → Ordering
by_kind true true points dates = points
by_kind true false points dates = Less
by_kind false true points dates = Greater
by_kind false false points dates = dates

abbrev pub fact_order : ByteFact → ByteFact → Ordering
fact_order f g = by_kind (is_point f) (is_point g) (point_cmp bytes_cmp f g) (date_cmp f g)

-- puts and deletions by key and newest first, then range deletions by date
abbrev pub order : Entry → Entry → Ordering
order d e = fact_order (fact_of d) (fact_of e)

-- ---- the facts of a plan

-- a put that its key shows as of t
abbrev pub IsShown : Time → List ByteFact → ByteFact → Type 0
IsShown t fs (Fact.Put k v at) = value bytes_cmp k t fs ≡ Some (record { value = v; at = at })
IsShown t fs (Fact.Del k at) = ⊥
IsShown t fs (Fact.DelRange lo hi at) = ⊥

-- Changes: all facts of the interval, or the newest put or deletion of each key in it and all its range deletions.
-- Whole: the puts that are visible at the floor, and, with every fact, all facts of the interval after it.
abbrev pub IsGiven : List ByteFact → Plan → ByteFact → Type 0
IsGiven fs (Changes after upto true) f = Has f fs × (is_between after upto (date f) ≡ true)
IsGiven fs (Changes after upto false) f = IsNewestPoint (is_between after upto) fs f ⊎ IsListed false (is_between after upto) fs f
IsGiven fs (Whole floor upto true) f = IsShown floor fs f ⊎ Has f fs × (is_between floor upto (date f) ≡ true)
IsGiven fs (Whole floor upto false) f = IsShown floor fs f

-- where facts lie apart and no two range deletions have one date, a plan's entries ascend strictly and are exactly the facts that it has
abbrev pub EntriesAreExact : Type 0
EntriesAreExact = (h : Tables) (table : ℕ) (plan : Plan) → IsApart bytes_cmp (h.facts table) → RangesDiffer (h.facts table) → IsListing order (λ e. IsGiven (h.facts table) plan (fact_of e)) (plan_entries h table plan)
