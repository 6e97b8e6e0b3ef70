use Rattle.std.proofs.Common.{◌∙◌, ap, sym, List}
use Rattle.range_tombstones.specs.declared.piece.Piece.{Piece}
use Rattle.range_tombstones.specs.Pieces.{is_start, dates_at}
use Rattle.range_tombstones.proofs.Lists.{taken}
use Rattle.range_tombstones.proofs.SplitLaws.{split-put}
use Rattle.range_tombstones.proofs.changes.split.Goals as goal

pub returns-clause-ok : goal.returns-clause-ok
returns-clause-ok c =
    let none = ap (λ (ps : List Piece). is_start c.args.key.now ps) (sym c.as_slice.ensures.value) ∙ (sym c.begins_at.ensures ∙ c.if-begins_at.false) in
    split-put c.args.key.now c.args.pieces.now.items c.insert.new.self.items c.as_slice-2.result.now c.count_begun-place.result _ c.requires none c.as_slice-2.ensures.value c.count_begun-place.ensures.front c.count_begun-place.ensures.back c.in_ok-copy_of.ensures (c.in_ok-copy_dates.ensures ∙ ap (λ (ps : List Piece). dates_at c.args.key.now ps) c.as_slice-3.ensures.value) (taken _ _ _ _ _ c.if-refused.false c.is_err-refused.ensures.negation c.insert.ensures.items)
