use Rattle.std.proofs.Common.{◌≡◌, length}
use Rattle.row_codec.specs.RowKeys.{are_of_kinds}
use Rattle.row_codec.proofs.keys.are_of_kinds.Given as goal

abbrev pub invariant-values : goal.invariant-values
invariant-values l = are_of_kinds l.kinds_left l.left ≡ are_of_kinds l.kinds l.values

abbrev pub decreases-values : goal.decreases-values
decreases-values l = length l.left
