use Rattle.std.proofs.Common.{◌≡◌, ◌∙◌, ap, refl}
use Rattle.schema_catalog.specs.Catalogs.{Schemas, with_database}
use Rattle.id_remap.specs.declared.targets.Target.TheVariants as target
use Rattle.cluster_core.specs.ClusterView.{ClusterState}
use Rattle.cluster_core.specs.Restoring.{entries_of}
use Rattle.cluster_core.proofs.Restored.{adding}
use Rattle.cluster_core.proofs.cluster.Cluster.add_restored.Goals as goal

pub returns-clause-kept : goal.returns-clause-kept
returns-clause-kept c old chosen items k is order has =
    let schemas : c.create.new.catalog ≡ with_database c.args.self.now.schemas c.args.database.now = c.in_ok-create.ensures.made ∙ ap (λ (x : ClusterState). with_database x.schemas c.args.database.now) c.self.view_is in
    c.in_ok-add_tables.ensures.added _ (adding c.args.self.now _ c.args.ids.now (target.Database c.args.database.now) c.args.made c.args.published old chosen c.args.tables.items (entries_of c.args.rows.now) items k c.requires.made c.requires.published
    refl (ap (λ (x : Schemas). x.tables) schemas) (ap (λ (x : ClusterState). x.store) c.self.view_is) (ap (λ (x : ClusterState). x.events) c.self.view_is) is order has)
