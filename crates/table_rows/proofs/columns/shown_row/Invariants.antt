use Rattle.std.proofs.Common.{◌≡◌, ◌++◌, drop, map}
use Rattle.mvcc_keys.specs.Times.{Time}
use Rattle.history_model.specs.Rows.{shown_value}
use Rattle.table_rows.proofs.columns.shown_row.Given as goal

abbrev pub invariant-loop-column : goal.invariant-loop-column
invariant-loop-column l = (at : Time) → l.values.items ++ map (shown_value l.d (record { key = l.key; value = l.cells; at = at })) (drop l.column-index l.column-items) ≡ map (shown_value l.d (record { key = l.key; value = l.cells; at = at })) l.column-items
