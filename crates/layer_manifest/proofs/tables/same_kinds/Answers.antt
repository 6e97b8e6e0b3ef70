use Rattle.std.proofs.Common.{◌∙◌, sym}
use Rattle.layer_manifest.proofs.Steps.{kinds_over}
use Rattle.layer_manifest.proofs.tables.same_kinds.Goals as goal

pub returns-in_default : goal.returns-in_default
returns-in_default c = sym (kinds_over c.args.a.now c.loop-kind.others.now c.loop-kind.kind-index c.loop-kind-test.true c.in_default.ensures.cases) ∙ c.loop-kind.invariant
