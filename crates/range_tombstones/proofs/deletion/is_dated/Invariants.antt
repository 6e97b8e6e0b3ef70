use Rattle.std.proofs.Common.{◌≡◌, drop}
use Rattle.range_tombstones.specs.Ranges.{is_dated}
use Rattle.range_tombstones.proofs.deletion.is_dated.Given as goal

abbrev pub invariant-loop-deletion : goal.invariant-loop-deletion
invariant-loop-deletion l = is_dated l.t (drop l.deletion-index l.ranges) ≡ is_dated l.t l.ranges
