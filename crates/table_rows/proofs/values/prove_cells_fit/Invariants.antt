use Rattle.std.proofs.Common.{drop}
use Rattle.std.specs.List.{AllByRecursion}
use Rattle.row_codec.specs.RowValues.{IsCell}
use Rattle.table_rows.proofs.values.prove_cells_fit.Given as goal

abbrev pub invariant-loop-cell : goal.invariant-loop-cell
invariant-loop-cell l = AllByRecursion IsCell (drop l.cell-index l.cells) → AllByRecursion IsCell l.cells
