use Rattle.fact_model.proofs.Stores.{kept-value, kept-scan}
use Rattle.fact_model.proofs.laws.kept_suffices.Goals as goal

pub returns : goal.returns
returns g c = λ cmp fs s t o a le. ((λ k. kept-value cmp o k s t fs a le), kept-scan cmp o s t fs a le)
