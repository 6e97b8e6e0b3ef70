-- What a merge of entries gives, over the entries of the parts that count.
use Rattle.std.specs.Prelude.{Bool, true, false, ◌&&◌, List, ◌++◌, filter, Option, Some, None}
use Rattle.std.specs.List.{list_any}
use Rattle.mvcc_keys.specs.Times.{Time, time_le}
use Rattle.mvcc_keys.specs.declared.entries.Entry.{Entry}
use Rattle.range_tombstones.specs.Intervals.{is_between}
use Rattle.range_tombstones.specs.declared.upto.Upto.TheVariants.{At}
use Rattle.fact_model.specs.Listed.{key_of, points, ranges}
use Rattle.fact_model.specs.Scans.{image}
use Rattle.version_store.specs.Tables.{ByteFact, Bytes, bytes_cmp, entries_of, newest_points}
use Rattle.version_store.specs.Lists.{facts_of}
use Rattle.layer_merge.specs.declared.parts.Part.{Part}
use Rattle.layer_merge.specs.declared.wanted.Wanted.{Wanted}
use Rattle.layer_merge.specs.Loads.{World}
use Rattle.layer_merge.specs.Nexts.{is_past}
use Rattle.layer_merge.specs.Parts.{counted_entries, is_introduced}
use Rattle.layer_merge.specs.Rows.{is_asked}
use Rattle.layer_merge.specs.Stands.{is_later}
use Rattle.layer_merge.specs.Walks.{WalkState, rows_of}

-- ---- the whole output

-- the entries of the layer without history from one time to another: the image at its end, or per key the newest put or deletion of the interval and then its range deletions
abbrev pub direct_entries : Bool → Time → Time → List Entry → List Entry
direct_entries true from to all = entries_of (image bytes_cmp to (facts_of all))
direct_entries false from to all = entries_of (newest_points (points bytes_cmp (is_between from (At to)) (facts_of all)) ++ ranges (is_between from (At to)) (facts_of all))

-- the same over the parts that count: an image where one introduces the table
unfoldable pub merge_entries : World → List Part → Time → Time → List Entry
merge_entries w ps from to = direct_entries (list_any is_introduced ps) from to (counted_entries w ps)

-- ---- what is left of it

-- a date that is asked for
abbrev pub is_dated : Wanted → Time → Bool
is_dated v d = is_later v.after d && time_le d v.upto

-- the newest put or deletion of each key that is asked for, after the last key that was given
unfoldable pub changes_left : Wanted → Option Bytes → List Entry → List Entry
changes_left v done all = entries_of (filter (λ (f : ByteFact). is_past bytes_cmp done (key_of f) && is_asked v (key_of f)) (newest_points (points bytes_cmp (is_dated v) (facts_of all))))

-- the range deletions of the dates that are asked for, by date
unfoldable pub ranges_asked : Wanted → List Entry → List Entry
ranges_asked v all = entries_of (ranges (is_dated v) (facts_of all))

abbrev pub changes_of : List Entry → WalkState → List Entry
changes_of all m = changes_left m.wanted m.done all

-- ---- the merge of entries

pub record EntryState : Type 0 where
  pub walk : WalkState
  pub ranges : List Entry
  pub listed : Bool
  pub failed : Bool

abbrev pub entry_state : WalkState → List Entry → Bool → Bool → EntryState
entry_state walk ranges listed failed = record { walk = walk; ranges = ranges; listed = listed; failed = failed }

-- rows where no first date is asked for; else puts and deletions and then range deletions, or what is left of these once they are listed
abbrev pub left_by : Option Time → Bool → List Entry → EntryState → List Entry
left_by None listed all m = rows_of all m.walk
left_by (Some from) false all m = changes_of all m.walk ++ ranges_asked m.walk.wanted all
left_by (Some from) true all m = m.ranges

-- the entries that it has still to give
abbrev pub entries_left : List Entry → EntryState → List Entry
entries_left all m = left_by m.walk.wanted.after m.listed all m

-- from which date on a merge asks: from none where a part introduces the table
abbrev pub first_date : Bool → Time → Option Time
first_date true from = None
first_date false from = Some from

-- the range deletions that a walk keeps, after one time and up to the last that is asked for
abbrev pub ranges_held : Time → WalkState → List Entry
ranges_held from m = entries_of (ranges (is_between from (At m.wanted.upto)) (facts_of m.ranges))
