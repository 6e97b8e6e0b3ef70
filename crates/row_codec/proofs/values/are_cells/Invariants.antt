use Rattle.std.proofs.Common.{◌≡◌, drop}
use Rattle.row_codec.specs.RowValues.{are_cells}
use Rattle.row_codec.proofs.values.are_cells.Given as goal

abbrev pub invariant-loop-cell : goal.invariant-loop-cell
invariant-loop-cell l = are_cells l.last (drop l.cell-index l.cells) ≡ are_cells 0 l.cells
