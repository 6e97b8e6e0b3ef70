use Rattle.std.proofs.Common.{◌≡◌, ◌+◌, drop}
use Rattle.history_model.specs.RowTests.{first_wrong, wrong_key_column}
use Rattle.table_rows.proofs.checks.wrong_key.Given as goal

abbrev pub invariant-loop-key : goal.invariant-loop-key
invariant-loop-key l = (l.number ≡ l.key-index + 1) × (first_wrong (wrong_key_column l.kinds) l.number (drop l.key-index l.keys) ≡ first_wrong (wrong_key_column l.kinds) 1 l.keys)
