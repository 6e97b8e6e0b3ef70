use Rattle.std.proofs.Common.{◌≡◌, ◌++◌, drop, map}
use Rattle.history_model.specs.Rows.{key_of}
use Rattle.table_rows.proofs.checks.keys_of.Given as goal

abbrev pub invariant-loop-row : goal.invariant-loop-row
invariant-loop-row l = l.keys.items ++ map (key_of l.d) (drop l.row-index l.rows) ≡ map (key_of l.d) l.rows
