-- Intervals of times.
use Rattle.std.specs.Prelude.{Bool, ◌&&◌}
use Rattle.mvcc_keys.specs.Times.{Time, time_lt, time_le}
use Rattle.range_tombstones.specs.declared.upto.Upto.{Upto}
use Rattle.range_tombstones.specs.declared.upto.Upto.TheVariants.{At, Before}

-- a time is in an interval that ends so
abbrev pub within : Upto → Time → Bool
within (At end) t = time_le t end
within (Before end) t = time_lt t end

-- a time is after one and in the interval
abbrev pub is_between : Time → Upto → Time → Bool
is_between from upto t = time_lt from t && within upto t
