use Rattle.std.proofs.Common.{◌≡◌, ◌++◌, drop, filter_map}
use Rattle.table_rows.specs.Checks.{row_in}
use Rattle.table_rows.proofs.rows.rows_in.Given as goal

abbrev pub invariant-loop-entry : goal.invariant-loop-entry
invariant-loop-entry l = l.rows.items ++ filter_map (row_in l.d l.kinds) (drop l.entry-index l.entries) ≡ filter_map (row_in l.d l.kinds) l.entries
