use Rattle.std.proofs.Common.{ap, subst₂, ◌∙◌, List, []}
use Rattle.std.specs.Prelude.{IfErr, IfOk}
use Rattle.table_descriptors.specs.Descriptors.{Schema}
use Rattle.schema_catalog.specs.Catalogs.{Schemas}
use Rattle.key_rewriter.specs.Ids.{are_ascending}
use Rattle.id_remap.specs.Remapping.{ids_of}
use Rattle.cluster_core.specs.ClusterView.{ClusterState}
use Rattle.cluster_core.specs.Standing.{RefusedBy}
use Rattle.cluster_core.specs.Restores.{IsPlanned, refusal_of_chosen, shown_tables}
use Rattle.cluster_core.proofs.Ascending.{shown-ascend}
use Rattle.cluster_core.proofs.cluster.Cluster.plan_restore.Goals as goal

pub plan_tables-requires : goal.plan_tables-requires
plan_tables-requires c = ap (λ (xs : List Schema). are_ascending (ids_of xs)) (c.in_ok-chosen.ensures ∙ ap (shown_tables c.args.database.now c.args.time) c.in_ok-copy.ensures) ∙ shown-ascend c.args.database.now c.args.time c.args.m.now c.requires

pub returns-clause-planned : goal.returns-clause-planned
returns-clause-planned c = subst₂ (λ (s : Schemas) (xs : List Schema). IfOk c.plan_tables.result (IsPlanned s c.args.new.now c.args.made xs))
    (ap (λ (x : ClusterState). x.schemas) c.self.view_is) (c.in_ok-chosen.ensures ∙ ap (shown_tables c.args.database.now c.args.time) c.in_ok-copy.ensures) c.plan_tables.ensures.planned

pub returns-clause-refused : goal.returns-clause-refused
returns-clause-refused c = subst₂ (λ (s : Schemas) (xs : List Schema). IfErr c.plan_tables.result (λ e. RefusedBy e (refusal_of_chosen s c.args.new.now c.args.made xs [])))
    (ap (λ (x : ClusterState). x.schemas) c.self.view_is) (c.in_ok-chosen.ensures ∙ ap (shown_tables c.args.database.now c.args.time) c.in_ok-copy.ensures) c.plan_tables.ensures.refused
