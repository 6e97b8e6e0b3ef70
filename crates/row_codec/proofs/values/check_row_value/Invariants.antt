use Rattle.std.proofs.Common.{◌≡◌, length}
use Rattle.row_codec.specs.RowValues.{read_cells, read_row_value, reads}
use Rattle.row_codec.proofs.values.check_row_value.Given as goal

abbrev pub invariant-cells : goal.invariant-cells
invariant-cells l = reads (read_cells (length l.left) l.last (length l.b) l.left) ≡ reads (read_row_value l.b)

abbrev pub decreases-cells : goal.decreases-cells
decreases-cells l = length l.left
