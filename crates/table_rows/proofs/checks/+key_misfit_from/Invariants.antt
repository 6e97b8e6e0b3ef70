use Rattle.std.proofs.Common.{length}
use Rattle.table_rows.proofs.checks.+key_misfit_from.Given as goal

abbrev pub decreases-key_misfit_from : goal.decreases-key_misfit_from
decreases-key_misfit_from l = length l.kinds.now
