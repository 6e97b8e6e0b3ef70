use Rattle.std.proofs.Common.{◌∙◌, ap, ap₂, sym, filter}
use Rattle.mvcc_keys.specs.Times.{time_lt}
use Rattle.range_tombstones.specs.declared.piece.Piece.{Piece}
use Rattle.range_tombstones.specs.Pieces.{piece, dated_after}
use Rattle.range_tombstones.proofs.Lists.{map-more}
use Rattle.range_tombstones.proofs.changes.keep_after.Goals as goal

pub loop-piece-preserved : goal.loop-piece-preserved
loop-piece-preserved c = map-more (dated_after c.args.g) c.args.pieces.now c.loop-piece.pieces c.loop-piece.piece-index c.piece-item.result _ c.loop-piece-test.true c.loop-piece.invariant c.piece-item.is (ap₂ piece (ap (λ (p : Piece). p.start) (sym c.piece-item.is)) (c.keep_after.ensures ∙ ap (λ (p : Piece). filter (λ d. time_lt c.args.g d) p.dates) (sym c.piece-item.is)))
