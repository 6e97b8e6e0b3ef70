use Rattle.std.proofs.Common.{◌≡◌, false, drop}
use Rattle.std.specs.List.{list_any}
use Rattle.range_tombstones.specs.Intervals.{is_between}
use Rattle.range_tombstones.specs.declared.upto.Upto.TheVariants.{At}
use Rattle.introduced_spans.specs.Publicity.{begins, dates_where}
use Rattle.introduced_spans.proofs.publicity.becomes_public_in.Given as goal

abbrev pub invariant-loop-d : goal.invariant-loop-d
invariant-loop-d l = list_any (is_between l.start (At l.end)) (dates_where begins l.before (drop l.d-index l.descriptors)) ≡ list_any (is_between l.start (At l.end)) (dates_where begins false l.descriptors)
