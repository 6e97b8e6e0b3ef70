use Rattle.std.proofs.Common.{◌∙◌, sym}
use Rattle.cluster_core.proofs.Choosing.{in_force-before, in_force-last}
use Rattle.cluster_core.proofs.chains.in_force.Goals as goal

pub returns-then-is_upto : goal.returns-then-is_upto
returns-then-is_upto c = sym (in_force-last c.loop-d.descriptors.items c.pop.new.self.items c.in-Some.d c.args.t c.in-Some.ensures.items (sym c.is_upto.ensures ∙ c.if-is_upto.true)) ∙ c.loop-d.invariant

pub loop-d-preserved : goal.loop-d-preserved
loop-d-preserved c = sym (in_force-before c.loop-d.descriptors.items c.pop.new.self.items c.in-Some.d c.args.t c.in-Some.ensures.items (sym c.is_upto.ensures ∙ c.if-is_upto.false)) ∙ c.loop-d.invariant
