use Rattle.std.proofs.Common.{◌++◌, refl, sym, subst}
use Rattle.mvcc_keys.proofs.TimeOrder.{le-refl}
use Rattle.cluster_core.specs.ClusterView.{ClusterState, view_of}
use Rattle.cluster_core.specs.Standing.{Keeps}
use Rattle.cluster_core.specs.Restoring.{made_tables}
use Rattle.cluster_core.proofs.Kept.{keeps-as}
use Rattle.cluster_core.proofs.cluster.Cluster.keep_restored.Goals as goal

pub returns-in-Ok-clause-kept : goal.returns-in-Ok-clause-kept
returns-in-Ok-clause-kept c old chosen items k is order has =
    let all = old ++ made_tables c.args.made c.args.published c.args.plan.tables.items items in
    let kept = subst (λ (x : ClusterState). Keeps x all) (sym c.self.view_is) (c.in-Ok.ensures.kept old chosen items k is order has) in
    keeps-as (view_of c.self.inside) _ all kept refl refl refl (le-refl c.self.inside.clock)
