use Rattle.std.proofs.Common.{◌≡◌, length}
use Rattle.row_codec.specs.RowValues.{read_cells, read_row_value, with_cells}
use Rattle.row_codec.proofs.values.read_row_value.Given as goal

abbrev pub invariant-cells : goal.invariant-cells
invariant-cells l = with_cells l.cells.items (read_cells (length l.left) l.last (length l.b) l.left) ≡ read_row_value l.b

abbrev pub decreases-cells : goal.decreases-cells
decreases-cells l = length l.left
