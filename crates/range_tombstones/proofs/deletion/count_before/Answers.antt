use Rattle.std.proofs.Common.{rules, arith}
use Rattle.std.proofs.lemmas.List.Sorted.{IsPartitionPoint-from_clause}
use Rattle.mvcc_keys.specs.Times.{time_lt}
use Rattle.mvcc_keys.proofs.TimeOrder.{lt-trans}
use Rattle.range_tombstones.specs.declared.deletion.RangeDeletion.{RangeDeletion}
use Rattle.range_tombstones.specs.Ranges.{by_date}
use Rattle.range_tombstones.proofs.Lists.{front, back, partitioned}
use Rattle.range_tombstones.proofs.deletion.count_before.Goals as goal

pub returns-clause-front : goal.returns-clause-front
returns-clause-front c =
    let p = IsPartitionPoint-from_clause (λ (r : RangeDeletion). time_lt r.at c.args.t) c.args.ranges.now c.partition_point.result c.partition_point.ensures.partitioned (partitioned by_date (λ r. time_lt r.at c.args.t) (λ r s. lt-trans r.at s.at c.args.t) c.args.ranges.now c.requires) (λ a r f' k. search rules) in
    front (λ r. time_lt r.at c.args.t) c.args.ranges.now c.partition_point.result c.partition_point.ensures.bound (λ k d h. p.0 k d (omega arith) h) p.1

pub returns-clause-back : goal.returns-clause-back
returns-clause-back c =
    let p = IsPartitionPoint-from_clause (λ (r : RangeDeletion). time_lt r.at c.args.t) c.args.ranges.now c.partition_point.result c.partition_point.ensures.partitioned (partitioned by_date (λ r. time_lt r.at c.args.t) (λ r s. lt-trans r.at s.at c.args.t) c.args.ranges.now c.requires) (λ a r f' k. search rules) in
    back (λ r. time_lt r.at c.args.t) c.args.ranges.now c.partition_point.result c.partition_point.ensures.bound (λ k d h. p.0 k d (omega arith) h) p.1
