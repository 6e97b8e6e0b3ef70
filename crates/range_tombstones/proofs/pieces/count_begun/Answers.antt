use Rattle.std.proofs.Common.{rules, arith, ◌∙◌, not}
use Rattle.std.proofs.lemmas.List.Sorted.{IsPartitionPoint-from_clause}
use Rattle.range_tombstones.specs.declared.piece.Piece.{Piece}
use Rattle.range_tombstones.specs.Ranges.{bytes_le, bytes_lt}
use Rattle.range_tombstones.specs.Pieces.{begins_before}
use Rattle.range_tombstones.proofs.Lists.{front, back, partitioned}
use Rattle.list_laws.proofs.Filters.{filter-same}
use Rattle.range_tombstones.proofs.KeyLaws.{le-down, not-le}
use Rattle.range_tombstones.proofs.pieces.count_begun.Goals as goal

pub returns-clause-front : goal.returns-clause-front
returns-clause-front c =
    let p = IsPartitionPoint-from_clause (λ (p : Piece). bytes_le p.start c.args.key.now) c.args.pieces.now c.partition_point.result c.partition_point.ensures.partitioned (partitioned begins_before (λ p. bytes_le p.start c.args.key.now) (λ p q. le-down c.args.key.now p.start q.start) c.args.pieces.now c.requires) (λ a r f' k. search rules) in
    front (λ p. bytes_le p.start c.args.key.now) c.args.pieces.now c.partition_point.result c.partition_point.ensures.bound (λ k d h. p.0 k d (omega arith) h) p.1

pub returns-clause-back : goal.returns-clause-back
returns-clause-back c =
    let p = IsPartitionPoint-from_clause (λ (p : Piece). bytes_le p.start c.args.key.now) c.args.pieces.now c.partition_point.result c.partition_point.ensures.partitioned (partitioned begins_before (λ p. bytes_le p.start c.args.key.now) (λ p q. le-down c.args.key.now p.start q.start) c.args.pieces.now c.requires) (λ a r f' k. search rules) in
    back (λ p. bytes_le p.start c.args.key.now) c.args.pieces.now c.partition_point.result c.partition_point.ensures.bound (λ k d h. p.0 k d (omega arith) h) p.1 ∙ filter-same (λ p. not (bytes_le p.start c.args.key.now)) (λ p. bytes_lt c.args.key.now p.start) c.args.pieces.now (λ p i. not-le p.start c.args.key.now)
