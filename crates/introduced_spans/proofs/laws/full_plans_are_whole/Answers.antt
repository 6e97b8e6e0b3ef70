use Rattle.introduced_spans.proofs.Fulls.{full-is-whole}
use Rattle.introduced_spans.proofs.laws.full_plans_are_whole.Goals as goal

pub returns : goal.returns
returns c = full-is-whole
