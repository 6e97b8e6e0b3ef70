use Rattle.fact_model.proofs.Stores.{value-permuted, scan-permuted}
use Rattle.fact_model.proofs.laws.order_is_free.Goals as goal

pub returns : goal.returns
returns g c = λ cmp fs gs t o a p. ((λ k. value-permuted cmp k t fs gs a p), scan-permuted cmp o t fs gs a p)
