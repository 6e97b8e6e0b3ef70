use Rattle.introduced_spans.proofs.Standing.{plan-stands}
use Rattle.introduced_spans.proofs.laws.plans_stand.Goals as goal

pub returns : goal.returns
returns c = plan-stands
