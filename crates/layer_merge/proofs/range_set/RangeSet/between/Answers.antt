-- Those of an interval.
use Rattle.layer_merge.proofs.ListedRanges.{listed-between, ok-listed}
use Rattle.layer_merge.proofs.range_set.RangeSet.between.Goals as goal

pub returns : goal.returns
returns c = rw (← c.self.view_is) (ok-listed c.originals.result _ _ (listed-between c.args.from c.args.upto _ c.originals.ensures.by_date) c.originals.ensures.listed)
