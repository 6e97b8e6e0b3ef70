use Rattle.std.proofs.Common.{◌≡◌, ◌+◌, drop}
use Rattle.history_model.specs.Rows.{wrong_column}
use Rattle.history_model.specs.RowTests.{first_wrong}
use Rattle.table_rows.proofs.checks.wrong_row.Given as goal

abbrev pub invariant-loop-row : goal.invariant-loop-row
invariant-loop-row l = (l.number ≡ l.row-index + 1) × (first_wrong (wrong_column l.d) l.number (drop l.row-index l.rows) ≡ first_wrong (wrong_column l.d) 1 l.rows)
