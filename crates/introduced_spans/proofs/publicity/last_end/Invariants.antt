use Rattle.std.proofs.Common.{◌≡◌, drop, fold, filter}
use Rattle.mvcc_keys.specs.Times.{time_le}
use Rattle.introduced_spans.specs.Publicity.{ends, dates_where, later_or, last_end}
use Rattle.introduced_spans.proofs.publicity.last_end.Given as goal

abbrev pub invariant-loop-d : goal.invariant-loop-d
invariant-loop-d l = fold later_or l.best (filter (λ t. time_le t l.end) (dates_where ends l.before (drop l.d-index l.descriptors))) ≡ last_end l.descriptors l.end
