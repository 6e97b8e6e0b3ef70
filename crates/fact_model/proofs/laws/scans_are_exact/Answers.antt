use Rattle.fact_model.proofs.Scanned.{scan-is, scan-from}
use Rattle.fact_model.proofs.laws.scans_are_exact.Goals as goal

pub returns : goal.returns
returns g c = λ cmp fs t o. (scan-is cmp o t fs, scan-from cmp o t fs)
