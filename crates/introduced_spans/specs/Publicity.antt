-- When a table is public, by its dated descriptors.
use Rattle.std.specs.Prelude.{◌≡◌, ℕ, ◌+◌, ◌-◌, ◌^◌, Bool, true, false, not, ◌&&◌, ◌||◌, nat_lt, List, [], ◌∷◌, map, filter, fold, Option, Some, None, option_map, unwrap_or, if◌then◌else◌}
use Rattle.std.specs.List.{list_any}
use Rattle.mvcc_keys.specs.Times.{Time, time, time_lt, time_le}
use Rattle.table_descriptors.specs.declared.columns.State.{State}
use Rattle.table_descriptors.specs.declared.columns.State.TheVariants.{Public, Offline, Dropped}
use Rattle.table_descriptors.specs.Descriptors.{Schema}
use Rattle.history_model.specs.Histories.{in_force}
use Rattle.range_tombstones.specs.Intervals.{is_between}
use Rattle.range_tombstones.specs.declared.upto.Upto.{Upto}
use Rattle.range_tombstones.specs.declared.upto.Upto.TheVariants.{At, Before}

-- ---- public at a time

abbrev pub is_public_state : State → Bool
is_public_state Public = true
is_public_state Offline = false
is_public_state Dropped = false

abbrev pub is_public : Schema → Bool
is_public d = is_public_state d.state

-- the latest descriptor dated at or before t says Public
abbrev pub public_at : List Schema → Time → Bool
public_at ds t = unwrap_or (option_map is_public (in_force ds t)) false

-- ---- becoming public, and ceasing to be

-- each descriptor, with whether the one before it says Public
abbrev pub with_before : Bool → List Schema → List (Bool × Schema)
with_before before [] = []
with_before before (d ∷ ds) = (before, d) ∷ with_before (is_public d) ds

-- a descriptor is Public and the one before isn't, or there is none
abbrev pub begins : Bool × Schema → Bool
begins p = is_public p.1 && not p.0

-- a descriptor isn't Public and follows a Public one
abbrev pub ends : Bool × Schema → Bool
ends p = not (is_public p.1) && p.0

-- the dates of those descriptors that pass a test
abbrev pub dates_where : (Bool × Schema → Bool) → Bool → List Schema → List Time
dates_where test before ds = map (λ (p : Bool × Schema). p.1.modified) (filter test (with_before before ds))

-- the table becomes public at a date in (s, e]
unfoldable pub becomes_public_in : List Schema → Time → Time → Bool
becomes_public_in ds s e = list_any (is_between s (At e)) (dates_where begins false ds)

-- ---- public in an interval

-- the least time after s: the counter raised by one, or the next wall; none after the last time
abbrev pub next_wall : ℕ → Option Time
next_wall wall = if nat_lt wall (2 ^ 64 - 1) then Some (time (wall + 1) 0) else None

abbrev pub time_after : Time → Option Time
time_after s = if nat_lt s.logical 2147483647 then Some (time s.wall (s.logical + 1)) else next_wall s.wall

-- the least time after s is at most e, and the table is public at it
abbrev pub is_public_after : List Schema → Time → Time → Bool
is_public_after ds s e = unwrap_or (option_map (λ t. time_le t e && public_at ds t) (time_after s)) false

-- the table is public at some time in (s, e]
unfoldable pub is_public_in : List Schema → Time → Time → Bool
is_public_in ds s e = is_public_after ds s e || becomes_public_in ds s e

-- ---- up to which times of a layer a table is public

abbrev pub later : Time → Time → Time
later s t = if time_lt s t then t else s

-- the later of a time that there may be and another
abbrev pub later_or : Option Time → Time → Option Time
later_or None t = Some t
later_or (Some s) t = Some (later s t)

-- the greatest of some times
abbrev pub latest : List Time → Option Time
latest ts = fold later_or None ts

-- the greatest date up to e of a descriptor that isn't Public and follows a Public one
abbrev pub last_end : List Schema → Time → Option Time
last_end ds e = latest (filter (λ t. time_le t e) (dates_where ends false ds))

-- up to the end where the table is public at it, and otherwise before the moment at which it last stopped being public
unfoldable pub upto_of : List Schema → Time → Upto
upto_of ds e = if public_at ds e then At e else unwrap_or (option_map Before (last_end ds e)) (At e)

-- ---- what no layer tells of

-- At no time from u on, up to t, is the table with these descriptors public. No layer that ends by t tells of a fact dated u, since u is
-- after t, or the table isn't public from u on.
abbrev pub IsUntold : List Schema → Time → Time → Type 0
IsUntold ds t u = (x : Time) → time_le u x ≡ true → time_le x t ≡ true → public_at ds x ≡ false
