use Rattle.std.proofs.Common.{◌≡◌, ◌++◌, drop, map}
use Rattle.range_tombstones.specs.Ranges.{entry_of, ranges_between}
use Rattle.range_tombstones.proofs.deletion.between.Given as goal

abbrev pub invariant-loop-deletion : goal.invariant-loop-deletion
invariant-loop-deletion l = l.found.items ++ map entry_of (ranges_between l.from l.upto (drop l.deletion-index l.ranges)) ≡ map entry_of (ranges_between l.from l.upto l.ranges)
