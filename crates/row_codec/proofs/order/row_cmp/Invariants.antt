use Rattle.std.proofs.Common.{◌≡◌, length}
use Rattle.row_codec.specs.RowOrder.{row_cmp}
use Rattle.row_codec.proofs.order.row_cmp.Given as goal

abbrev pub invariant-columns : goal.invariant-columns
invariant-columns l = row_cmp l.kinds_left l.x_left l.y_left ≡ row_cmp l.kinds l.x l.y

abbrev pub decreases-columns : goal.decreases-columns
decreases-columns l = length l.x_left
