use Rattle.std.proofs.Common.{◌∙◌, sym}
use Rattle.introduced_spans.proofs.Steps.{last_date_at}
use Rattle.introduced_spans.proofs.publicity.last_end.Goals as goal

pub loop-d-preserved : goal.loop-d-preserved
loop-d-preserved c = rw (c.end_after-best.ensures, c.is_public-before.ensures) (sym (last_date_at c.args.end c.loop-d.best c.loop-d.before c.d-item.result c.args.descriptors.now c.loop-d.d-index c.loop-d-test.true c.d-item.is) ∙ c.loop-d.invariant)
