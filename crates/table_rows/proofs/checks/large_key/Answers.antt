use Rattle.row_codec.specs.RowKeys.{are_of_kinds}
use Rattle.table_rows.proofs.Lists.{passes}
use Rattle.table_rows.proofs.checks.large_key.Goals as goal

pub is_large_key-requires : goal.is_large_key-requires
is_large_key-requires c = passes (are_of_kinds c.args.kinds.now) c.args.keys.now c.loop-key.key-index c.key-item.result c.requires c.loop-key-test.true c.key-item.is
