use Rattle.restore_rows.proofs.WholeParts.{checks-find}
use Rattle.restore_rows.proofs.laws.checks_find_faults.Goals as goal

pub returns : goal.returns
returns c = checks-find
