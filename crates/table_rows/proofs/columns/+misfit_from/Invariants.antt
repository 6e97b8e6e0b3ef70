use Rattle.std.proofs.Common.{length}
use Rattle.table_rows.proofs.columns.+misfit_from.Given as goal

abbrev pub decreases-misfit_from : goal.decreases-misfit_from
decreases-misfit_from l = length l.columns.now
