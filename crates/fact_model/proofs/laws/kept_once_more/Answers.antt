use Rattle.fact_model.proofs.Growth.{kept-kept}
use Rattle.fact_model.proofs.laws.kept_once_more.Goals as goal

pub returns : goal.returns
returns g c = λ cmp fs s t o a le. kept-kept cmp o s t fs a le
