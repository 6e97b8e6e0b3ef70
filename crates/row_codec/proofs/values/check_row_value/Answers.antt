use Rattle.std.proofs.Common.{length}
use Rattle.row_codec.specs.RowValues.{read_cells, read_row_value, reads}
use Rattle.row_codec.specs.Views.{seen_cell}
use Rattle.row_codec.proofs.ValueLaws.{checked_one}
use Rattle.row_codec.proofs.values.check_row_value.Goals as goal

pub cells-preserved : goal.cells-preserved
cells-preserved c =
    let len = length c.args.b.now in
    checked_one (seen_cell c.in-Some.cell) (read_cells (length c.cells.left.now) c.cells.last len c.cells.left.now) (read_cells (length c.in-Some.rest.now) c.in-Some.cell.column len c.in-Some.rest.now)
    (reads (read_row_value c.args.b.now)) (c.in-Some.ensures.goes_on.1 len) c.cells.invariant
