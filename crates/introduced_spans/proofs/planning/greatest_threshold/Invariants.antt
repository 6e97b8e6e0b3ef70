use Rattle.std.proofs.Common.{◌≡◌, drop}
use Rattle.introduced_spans.specs.Spans.{threshold_of, greatest_threshold}
use Rattle.introduced_spans.proofs.planning.greatest_threshold.Given as goal

abbrev pub invariant-loop-id : goal.invariant-loop-id
invariant-loop-id l = greatest_threshold (threshold_of l.thresholds) l.floor (drop l.id-index l.ids) ≡ greatest_threshold (threshold_of l.thresholds) l.initial.floor l.ids
