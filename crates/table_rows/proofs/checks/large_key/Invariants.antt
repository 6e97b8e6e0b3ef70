use Rattle.std.proofs.Common.{◌≡◌, ◌+◌, drop}
use Rattle.history_model.specs.RowTests.{first_number, is_large_key}
use Rattle.table_rows.proofs.checks.large_key.Given as goal

abbrev pub invariant-loop-key : goal.invariant-loop-key
invariant-loop-key l = (l.number ≡ l.key-index + 1) × (first_number (is_large_key l.kinds) l.number (drop l.key-index l.keys) ≡ first_number (is_large_key l.kinds) 1 l.keys)
