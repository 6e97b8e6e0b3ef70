use Rattle.std.proofs.Common.{◌≡◌, ◌+◌, take, drop, []}
use Rattle.row_codec.specs.RowOrder.{row_cmp}
use Rattle.history_model.specs.RowTests.{repeated_after}
use Rattle.table_rows.proofs.Repeats.{HasSeen}
use Rattle.table_rows.proofs.checks.repeated_key.Given as goal

abbrev pub invariant-loop-key : goal.invariant-loop-key
invariant-loop-key l =
    (l.number ≡ l.key-index + 1) × (repeated_after (row_cmp l.kinds) (take l.key-index l.keys) (drop l.key-index l.keys) ≡ repeated_after (row_cmp l.kinds) [] l.keys)
    × HasSeen l.kinds l.seen (take l.key-index l.keys)
