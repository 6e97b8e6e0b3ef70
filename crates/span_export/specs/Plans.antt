-- The entries of a plan.
use Rattle.std.specs.Prelude.{ℕ, Bool, cond, List, [], ◌++◌}
use Rattle.mvcc_keys.specs.Times.{Time}
use Rattle.mvcc_keys.specs.declared.entries.Entry.{Entry}
use Rattle.range_tombstones.specs.Intervals.{is_between}
use Rattle.fact_model.specs.Ordered.{ordered}
use Rattle.fact_model.specs.Listed.{point_cmp, points, ranges}
use Rattle.fact_model.specs.Scans.{image}
use Rattle.version_store.specs.Tables.{ByteFact, Tables, bytes_cmp, entries_of, newest_points}
use Rattle.span_export.specs.declared.plan.Plan.{Plan}
use Rattle.span_export.specs.declared.plan.Plan.TheVariants.{Changes, Whole}

-- the time from which on a plan asks for facts
abbrev pub start_of : Plan → Time
start_of (Changes after upto every) = after
start_of (Whole floor upto every) = floor

-- the visible puts and the puts and deletions of an interval, by key and newest first
unfoldable pub whole_points : Time → (Time → Bool) → List ByteFact → List ByteFact
whole_points floor dated fs = ordered (point_cmp bytes_cmp) (image bytes_cmp floor fs ++ points bytes_cmp dated fs)

-- the puts and deletions of a plan
abbrev pub plan_points : List ByteFact → Plan → List ByteFact
plan_points fs (Changes after upto every) = cond every (points bytes_cmp (is_between after upto) fs) (newest_points (points bytes_cmp (is_between after upto) fs))
plan_points fs (Whole floor upto every) = cond every (whole_points floor (is_between floor upto) fs) (image bytes_cmp floor fs)

-- the range deletions of a plan
abbrev pub plan_ranges : List ByteFact → Plan → List ByteFact
plan_ranges fs (Changes after upto every) = ranges (is_between after upto) fs
plan_ranges fs (Whole floor upto every) = cond every (ranges (is_between floor upto) fs) []

-- the entries of a plan over the facts of a table
unfoldable pub plan_entries : Tables → ℕ → Plan → List Entry
plan_entries h table plan = entries_of (plan_points (h.facts table) plan ++ plan_ranges (h.facts table) plan)
