use Rattle.std.proofs.Common.{sym, subst₂, List}
use Rattle.range_tombstones.specs.declared.deletion.RangeDeletion.{RangeDeletion}
use Rattle.range_tombstones.specs.declared.piece.Piece.{Piece}
use Rattle.range_tombstones.specs.Pieces.{IsMadeOf}
use Rattle.range_tombstones.proofs.CoverLaws.{made-none}
use Rattle.range_tombstones.proofs.fragments.Fragments.new.Goals as goal

pub invariant_of-result : goal.invariant_of-result
invariant_of-result c = subst₂ (λ (ps : List Piece) (rs : List RangeDeletion). IsMadeOf ps rs) (sym c.new.ensures.items) (sym c.new-2.ensures.items) made-none
