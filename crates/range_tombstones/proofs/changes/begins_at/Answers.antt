use Rattle.std.proofs.Common.{◌∙◌, ap, sym, Some, None, List, ℕ, is_eq, nat_cmp}
use Rattle.std.specs.Cmp.Lexicographic.{slice_cmp}
use Rattle.std.specs.Option.{option_copied}
use Rattle.range_tombstones.proofs.SplitLaws.{start-is}
use Rattle.range_tombstones.proofs.changes.begins_at.Goals as goal

pub returns-in-Some : goal.returns-in-Some
returns-in-Some c =
    let at = ap option_copied (sym c.in-Some.is) ∙ c.piece_at.ensures in
    c.is_eq.ensures ∙ (ap is_eq (c.cmp.ensures ∙ ap (λ (s : List ℕ). slice_cmp nat_cmp s c.args.key.now) c.as_slice.ensures)) ∙ start-is c.args.key.now c.args.pieces.now (Some c.in-Some.piece.now) c.requires at

pub returns-in-None : goal.returns-in-None
returns-in-None c = start-is c.args.key.now c.args.pieces.now None c.requires (ap option_copied (sym c.in-None.is) ∙ c.piece_at.ensures)
