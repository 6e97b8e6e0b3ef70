use Rattle.std.proofs.Common.{◌≡◌, ◌++◌, map, take, drop}
use Rattle.range_tombstones.specs.Pieces.{dated}
use Rattle.range_tombstones.proofs.changes.date_pieces.Given as goal

abbrev pub invariant-loop-piece : goal.invariant-loop-piece
invariant-loop-piece l = l.pieces ≡ map (dated l.lo l.hi l.t) (take l.piece-index l.initial.pieces) ++ drop l.piece-index l.initial.pieces
