use Rattle.std.proofs.Common.{◌∙◌, ap, sym, List}
use Rattle.std.specs.Option.{option_copied}
use Rattle.range_tombstones.specs.declared.piece.Piece.{Piece}
use Rattle.range_tombstones.specs.Dates.{last_upto}
use Rattle.range_tombstones.specs.Ranges.{newest_cover}
use Rattle.range_tombstones.specs.Pieces.{dates_in, piece_at}
use Rattle.range_tombstones.proofs.CoverLaws.{newest-at}
use Rattle.range_tombstones.proofs.fragments.Fragments.newest.Goals as goal

pub returns-in-Some : goal.returns-in-Some
returns-in-Some c =
    let at = ap option_copied (sym c.in-Some.is) ∙ (c.piece_at.ensures ∙ ap (λ (ps : List Piece). piece_at c.args.key.now ps) c.as_slice.ensures.value) in
    c.last_upto.ensures ∙ (ap (λ o. last_upto c.args.upto (dates_in o)) at ∙ (newest-at c.args.key.now c.args.upto c.self.inside.pieces.items _ c.self.invariant ∙ ap (newest_cover c.args.key.now c.args.upto) c.self.view_is))

pub returns-in-None : goal.returns-in-None
unfolding last_upto
returns-in-None c =
    let at = ap option_copied (sym c.in-None.is) ∙ (c.piece_at.ensures ∙ ap (λ (ps : List Piece). piece_at c.args.key.now ps) c.as_slice.ensures.value) in
    ap (λ o. last_upto c.args.upto (dates_in o)) at ∙ (newest-at c.args.key.now c.args.upto c.self.inside.pieces.items _ c.self.invariant ∙ ap (newest_cover c.args.key.now c.args.upto) c.self.view_is)
