use Rattle.std.proofs.Common.{◌≡◌, take}
use Rattle.mvcc_keys.specs.Times.{earliest}
use Rattle.mvcc_keys.proofs.extremes.earliest.Given as goal

abbrev pub invariant-loop-time : goal.invariant-loop-time
invariant-loop-time l = l.best ≡ earliest (take l.time-index l.times)
