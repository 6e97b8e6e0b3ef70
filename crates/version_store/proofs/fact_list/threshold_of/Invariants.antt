use Rattle.std.proofs.Common.{◌≡◌, drop}
use Rattle.version_store.specs.Holding.{threshold_in}
use Rattle.version_store.proofs.fact_list.threshold_of.Given as goal

abbrev pub invariant-loop-own : goal.invariant-loop-own
invariant-loop-own l = threshold_in (drop l.own-index l.thresholds) l.table ≡ threshold_in l.thresholds l.table
