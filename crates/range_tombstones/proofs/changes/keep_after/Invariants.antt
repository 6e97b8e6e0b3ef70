use Rattle.std.proofs.Common.{◌≡◌, ◌++◌, map, take, drop}
use Rattle.range_tombstones.specs.Pieces.{dated_after}
use Rattle.range_tombstones.proofs.changes.keep_after.Given as goal

abbrev pub invariant-loop-piece : goal.invariant-loop-piece
invariant-loop-piece l = l.pieces ≡ map (dated_after l.g) (take l.piece-index l.initial.pieces) ++ drop l.piece-index l.initial.pieces
