use Rattle.std.proofs.Common.{rules, arith, ◌∙◌, not}
use Rattle.std.proofs.lemmas.List.Sorted.{IsPartitionPoint-from_clause}
use Rattle.mvcc_keys.specs.Times.{Time, time_lt, time_le}
use Rattle.range_tombstones.proofs.Lists.{front, back, partitioned}
use Rattle.list_laws.proofs.Filters.{filter-same}
use Rattle.mvcc_keys.proofs.TimeOrder.{lt-le-le, not-le}
use Rattle.range_tombstones.proofs.dates.count_upto.Goals as goal

pub returns-clause-front : goal.returns-clause-front
returns-clause-front c =
    let p = IsPartitionPoint-from_clause (λ (d : Time). time_le d c.args.t) c.args.dates.now c.partition_point.result c.partition_point.ensures.partitioned (partitioned time_lt (λ d. time_le d c.args.t) (λ r s. lt-le-le r s c.args.t) c.args.dates.now c.requires) (λ a r f' k. search rules) in
    front (λ d. time_le d c.args.t) c.args.dates.now c.partition_point.result c.partition_point.ensures.bound (λ k d h. p.0 k d (omega arith) h) p.1

pub returns-clause-back : goal.returns-clause-back
returns-clause-back c =
    let p = IsPartitionPoint-from_clause (λ (d : Time). time_le d c.args.t) c.args.dates.now c.partition_point.result c.partition_point.ensures.partitioned (partitioned time_lt (λ d. time_le d c.args.t) (λ r s. lt-le-le r s c.args.t) c.args.dates.now c.requires) (λ a r f' k. search rules) in
    back (λ d. time_le d c.args.t) c.args.dates.now c.partition_point.result c.partition_point.ensures.bound (λ k d h. p.0 k d (omega arith) h) p.1 ∙ filter-same (λ d. not (time_le d c.args.t)) (λ d. time_lt c.args.t d) c.args.dates.now (λ d i. not-le d c.args.t)
