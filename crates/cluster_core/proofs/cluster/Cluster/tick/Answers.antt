use Rattle.std.proofs.Common.{sym, ◌∙◌}
use Rattle.cluster_core.proofs.Reading.{ticked}
use Rattle.cluster_core.proofs.cluster.Cluster.tick.Goals as goal

pub returns-then-is_before-clause-step : goal.returns-then-is_before-clause-step
returns-then-is_before-clause-step c = rw (← c.self.view_is) (ticked _ c.args.wall c.at_wall-start.result c.at_wall-start.ensures (sym c.is_before.ensures ∙ c.if-is_before.true))
