use Rattle.std.proofs.Common.{◌≡◌, ◌++◌, ◌∷◌, [], length, rules}
use Rattle.row_codec.specs.RowValues.{read_cells, read_row_value}
use Rattle.row_codec.proofs.ValueLaws.{pushed_one}
use Rattle.row_codec.proofs.values.read_row_value.Goals as goal

pub cells-preserved : goal.cells-preserved
cells-preserved c =
    let len = length c.args.b.now in
    let pushed : c.push.new.self.items ≡ c.cells.cells.items ++ c.in_ok-cell.cell ∷ [] = search rules in
    pushed_one c.cells.cells.items c.push.new.self.items c.in_ok-cell.cell (read_cells (length c.cells.left.now) c.cells.last len c.cells.left.now)
    (read_cells (length c.in_ok-cell.rest.now) c.in_ok-cell.cell.column len c.in_ok-cell.rest.now) (read_row_value c.args.b.now) pushed c.in_ok-cell.ensures.goes_on.1 c.cells.invariant
