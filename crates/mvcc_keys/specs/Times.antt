-- Times of the hybrid clock and their order.
use Rattle.std.specs.Prelude.{ℕ, ◌+◌, ◌^◌, ◌≤◌, ◌<◌, Bool, ◌||◌, ◌&&◌, ◌==◌, nat_lt, nat_le, Option, Some, None, if◌then◌else◌, List, fold}

-- a wall number in nanoseconds, and a counter
pub record Time : Type 0 where
  pub wall : ℕ
  pub logical : ℕ

abbrev pub time : ℕ → ℕ → Time
time wall logical = record { wall = wall; logical = logical }

-- the clock's first time
abbrev pub zero_time : Time
zero_time = time 0 0

-- a wall of 64 bits, and a counter up to 2147483647
abbrev pub IsTime : Time → Type 0
IsTime t = (t.wall < 2 ^ 64) × (t.logical ≤ 2147483647)

-- earlier: by wall, then by counter
abbrev pub time_lt : Time → Time → Bool
time_lt s t = nat_lt s.wall t.wall || (s.wall == t.wall && nat_lt s.logical t.logical)

-- not later
abbrev pub time_le : Time → Time → Bool
time_le s t = nat_lt s.wall t.wall || (s.wall == t.wall && nat_le s.logical t.logical)

-- the same
abbrev pub time_eq : Time → Time → Bool
time_eq s t = s.wall == t.wall && s.logical == t.logical

-- the time that a clock draws next: its counter raised by one, unless that is at its end
abbrev pub next : Time → Option Time
next t = if nat_lt t.logical 2147483647 then Some (time t.wall (t.logical + 1)) else None

-- ---- the first and the last of some times

-- the earlier of the best so far and a time
abbrev pub earlier : Option Time → Time → Option Time
earlier None t = Some t
earlier (Some s) t = if time_lt t s then Some t else Some s

-- the later of the best so far and a time
abbrev pub later : Option Time → Time → Option Time
later None t = Some t
later (Some s) t = if time_lt s t then Some t else Some s

abbrev pub earliest : List Time → Option Time
earliest ts = fold earlier None ts

abbrev pub latest : List Time → Option Time
latest ts = fold later None ts

abbrev pub or_zero : Option Time → Time
or_zero None = zero_time
or_zero (Some t) = t
