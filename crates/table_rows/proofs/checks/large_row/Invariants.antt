use Rattle.std.proofs.Common.{◌≡◌, ◌+◌, drop}
use Rattle.history_model.specs.RowTests.{first_number, is_large_row}
use Rattle.table_rows.proofs.checks.large_row.Given as goal

abbrev pub invariant-loop-row : goal.invariant-loop-row
invariant-loop-row l = (l.number ≡ l.row-index + 1) × (first_number (is_large_row l.d) l.number (drop l.row-index l.rows) ≡ first_number (is_large_row l.d) 1 l.rows)
