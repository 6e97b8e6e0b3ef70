use Rattle.std.proofs.Common.{◌∙◌, ap, sym, set}
use Rattle.std.proofs.lemmas.List.{set-get_or}
use Rattle.range_tombstones.specs.Pieces.{dated, PartlyDated}
use Rattle.range_tombstones.proofs.Lists.{map-more}
use Rattle.list_laws.proofs.Results.{on-any}
use Rattle.range_tombstones.proofs.changes.date_pieces.Goals as goal

pub returns-in_err-date_piece-clause-err : goal.returns-in_err-date_piece-clause-err
returns-in_err-date_piece-clause-err c =
    let same = ap (set c.loop-piece.pieces c.loop-piece.piece-index) c.in_err-date_piece.ensures.err ∙ (set-get_or c.loop-piece.pieces c.loop-piece.piece-index c.piece-item.result ∙ c.loop-piece.invariant) in
    let partly : PartlyDated c.args.lo.now c.args.hi.now c.args.t c.args.pieces.now (set c.loop-piece.pieces c.loop-piece.piece-index c.date_piece.new.piece) = (c.loop-piece.piece-index, same) in
    on-any c.from_residual.result _ partly

pub loop-piece-preserved : goal.loop-piece-preserved
loop-piece-preserved c = map-more (dated c.args.lo.now c.args.hi.now c.args.t) c.args.pieces.now c.loop-piece.pieces c.loop-piece.piece-index c.piece-item.result c.date_piece.new.piece c.loop-piece-test.true c.loop-piece.invariant c.piece-item.is (c.in_ok-date_piece.ensures.ok ∙ ap (dated c.args.lo.now c.args.hi.now c.args.t) (sym c.piece-item.is))
