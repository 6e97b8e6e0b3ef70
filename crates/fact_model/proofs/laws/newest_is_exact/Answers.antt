use Rattle.fact_model.proofs.Newest.{newest-is, newest-only}
use Rattle.fact_model.proofs.laws.newest_is_exact.Goals as goal

pub returns : goal.returns
returns g c = λ cmp fs k t. (newest-is cmp k t fs, newest-only cmp k t fs)
