use Rattle.std.proofs.Common.{◌∙◌, ap, ap₂, sym}
use Rattle.range_tombstones.specs.declared.piece.Piece.{Piece}
use Rattle.range_tombstones.specs.Dates.{without_date}
use Rattle.range_tombstones.specs.Pieces.{piece, undated}
use Rattle.range_tombstones.proofs.Lists.{map-more}
use Rattle.range_tombstones.proofs.changes.undate_pieces.Goals as goal

pub loop-piece-preserved : goal.loop-piece-preserved
loop-piece-preserved c = map-more (undated c.args.t) c.args.pieces.now c.loop-piece.pieces c.loop-piece.piece-index c.piece-item.result _ c.loop-piece-test.true c.loop-piece.invariant c.piece-item.is (ap₂ piece (ap (λ (p : Piece). p.start) (sym c.piece-item.is)) (c.remove.ensures ∙ ap (λ (p : Piece). without_date c.args.t p.dates) (sym c.piece-item.is)))
