use Rattle.std.proofs.Common.{◌≡◌, ◌++◌, map, take, drop}
use Rattle.range_tombstones.specs.Pieces.{undated}
use Rattle.range_tombstones.proofs.changes.undate_pieces.Given as goal

abbrev pub invariant-loop-piece : goal.invariant-loop-piece
invariant-loop-piece l = l.pieces ≡ map (undated l.t) (take l.piece-index l.initial.pieces) ++ drop l.piece-index l.initial.pieces
