use Rattle.std.proofs.Common.{length}
use Rattle.table_rows.proofs.columns.+key_value.Given as goal

abbrev pub decreases-key_value : goal.decreases-key_value
decreases-key_value l = length l.ids.now
