use Rattle.layer_merge.proofs.ChainLaws.{shares-scan}
use Rattle.layer_merge.proofs.laws.chains_are_whole.Goals as goal

pub returns : goal.returns
returns g c = λ cmp fs s t shares o apart later are. shares-scan cmp o s t fs shares apart later are
