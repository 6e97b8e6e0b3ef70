use Rattle.table_rows.proofs.Lists.{right}
use Rattle.history_model.specs.Rows.{wrong_column}
use Rattle.table_rows.proofs.checks.large_row.Goals as goal

pub is_large_row-requires-clause-fits : goal.is_large_row-requires-clause-fits
is_large_row-requires-clause-fits c = right (wrong_column c.args.d.now) 1 c.args.rows.now c.loop-row.row-index c.row-item.result c.requires.fit c.loop-row-test.true c.row-item.is
