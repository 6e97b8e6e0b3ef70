use Rattle.std.proofs.Common.{◌≡◌, take}
use Rattle.mvcc_keys.specs.Times.{latest}
use Rattle.mvcc_keys.proofs.extremes.latest.Given as goal

abbrev pub invariant-loop-time : goal.invariant-loop-time
invariant-loop-time l = l.best ≡ latest (take l.time-index l.times)
