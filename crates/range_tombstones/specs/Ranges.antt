-- Range deletions by date, and what they say of a key.
use Rattle.std.specs.Prelude.{ℕ, Bool, ◌&&◌, cond, List, [], ◌∷◌, ◌++◌, filter, map, Option, Some, None}
use Rattle.std.specs.Ordering.{nat_cmp, is_le, is_lt}
use Rattle.std.specs.Cmp.Lexicographic.{slice_cmp}
use Rattle.mvcc_keys.specs.Times.{Time, time_lt, time_le}
use Rattle.mvcc_keys.specs.declared.entries.Entry.{Entry}
use Rattle.range_tombstones.specs.declared.upto.Upto.{Upto}
use Rattle.range_tombstones.specs.declared.deletion.RangeDeletion.{RangeDeletion}
use Rattle.range_tombstones.specs.Dates.{has_date}
use Rattle.range_tombstones.specs.Intervals.{is_between}

abbrev pub Bytes : Type 0
Bytes = List ℕ

abbrev pub bytes_le : Bytes → Bytes → Bool
bytes_le a b = is_le (slice_cmp nat_cmp a b)

abbrev pub bytes_lt : Bytes → Bytes → Bool
bytes_lt a b = is_lt (slice_cmp nat_cmp a b)

-- by date
abbrev pub by_date : RangeDeletion → RangeDeletion → Bool
by_date r s = time_lt r.at s.at

-- a deletion of the keys from lo up to, not including, hi
abbrev pub range : Bytes → Bytes → Time → RangeDeletion
range lo hi at = record { lo = lo; hi = hi; at = at }

abbrev pub is_within : Bytes → Bytes → Bytes → Bool
is_within lo hi key = bytes_le lo key && bytes_lt key hi

abbrev pub covers : Bytes → RangeDeletion → Bool
covers key r = is_within r.lo r.hi key

-- one more, after those dated earlier and before those dated later
unfoldable pub with_range : RangeDeletion → List RangeDeletion → List RangeDeletion
with_range r rs = filter (λ s. time_lt s.at r.at) rs ++ r ∷ filter (λ s. time_lt r.at s.at) rs

abbrev pub dates_of : List RangeDeletion → List Time
dates_of rs = map (λ r. r.at) rs

-- a range deletion has the date
abbrev pub is_dated : Time → List RangeDeletion → Bool
is_dated t rs = has_date t (dates_of rs)

-- a date, or a later one that was found among others
abbrev pub later_date : Time → Option Time → Option Time
later_date s None = Some s
later_date s (Some t) = cond (time_lt s t) (Some t) (Some s)

-- the greatest date up to t of a range deletion that covers the key
unfoldable pub newest_cover : Bytes → Time → List RangeDeletion → Option Time
newest_cover key t [] = None
newest_cover key t (r ∷ rs) = cond (covers key r && time_le r.at t) (later_date r.at (newest_cover key t rs)) (newest_cover key t rs)

abbrev pub entry_of : RangeDeletion → Entry
entry_of r = Entry.Range r.lo r.hi r.at

-- those dated after a time and in an interval
abbrev pub ranges_between : Time → Upto → List RangeDeletion → List RangeDeletion
ranges_between from upto rs = filter (λ r. is_between from upto r.at) rs

-- those dated after g
abbrev pub ranges_after : Time → List RangeDeletion → List RangeDeletion
ranges_after g rs = filter (λ r. time_lt g r.at) rs
