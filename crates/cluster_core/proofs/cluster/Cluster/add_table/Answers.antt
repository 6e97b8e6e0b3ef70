use Rattle.std.proofs.Common.{◌≡◌, ◌+◌, ◌<◌, ◌^◌, ◌∙◌, length, sym, ap, subst, arith}
use Rattle.schema_catalog.specs.Catalogs.{Schemas, next_id, with_table}
use Rattle.table_rows.specs.RowTables.{HasRows}
use Rattle.version_store.specs.MapHolding.{KeepsAll}
use Rattle.version_store.specs.declared.mvcc_map.MvccMap.{MvccMap}
use Rattle.cluster_core.specs.ClusterView.{ClusterState}
use Rattle.cluster_core.proofs.Restored.{added, may-publish, published-is, published-more, published-rest, published-within}
use Rattle.cluster_core.proofs.cluster.Cluster.add_table.Goals as goal

pub publish-requires : goal.publish-requires
publish-requires c =
    let s = c.args.self.now.schemas in
    let is : c.self-2.inside.catalog ≡ with_table s c.args.d = ap (λ (x : ClusterState). x.schemas) (c.self-2.view_is ∙ c.in_ok-install.ensures.made) in
    let place : c.next_id-id.result ≡ next_id s = c.next_id-id.ensures ∙ ap (λ (x : ClusterState). next_id x.schemas) c.self.view_is in
    may-publish s c.self-2.inside.catalog c.args.d c.next_id-id.result c.args.made c.args.published c.requires.later c.requires.first is place

pub invariant_of-self-2 : goal.invariant_of-self-2
invariant_of-self-2 c =
    let s = c.args.self.now.schemas in
    let view = c.self-2.view_is ∙ c.in_ok-install.ensures.made in
    let is : c.self-2.inside.catalog ≡ with_table s c.args.d = ap (λ (x : ClusterState). x.schemas) view in
    let place : c.next_id-id.result ≡ next_id s = c.next_id-id.ensures ∙ ap (λ (x : ClusterState). next_id x.schemas) c.self.view_is in
    let events : c.self-2.inside.events ≡ c.args.self.now.events = ap (λ (x : ClusterState). x.events) view in
    let most : c.self-2.inside.most_events ≡ c.args.self.now.most_events = ap (λ (x : ClusterState). x.most_events) view in
    record {
      room = (let fits = c.requires.events in omega (arith, fits, events, most));
      versions = published-within s c.self-2.inside.catalog c.args.d c.next_id-id.result c.args.made c.args.published c.requires.later c.requires.first is place c.publish.new.catalog c.in_ok-publish.ensures.made (c.self-2.inside.changes + 2) (omega arith) c.self-2.invariant.versions;
      changes = c.self-2.invariant.changes;
      steps = c.self-2.invariant.steps;
      few = c.self-2.invariant.few;
      jobs = c.self-2.invariant.jobs;
    }

pub returns-clause-added : goal.returns-clause-added
returns-clause-added c =
    let s = c.args.self.now.schemas in
    let view = c.self-2.view_is ∙ c.in_ok-install.ensures.made in
    let is : c.self-2.inside.catalog ≡ with_table s c.args.d = ap (λ (x : ClusterState). x.schemas) view in
    let place : c.next_id-id.result ≡ next_id s = c.next_id-id.ensures ∙ ap (λ (x : ClusterState). next_id x.schemas) c.self.view_is in
    let store : c.self-2.inside.rows ≡ c.args.self.now.store = ap (λ (x : ClusterState). x.store) view in
    let small : c.next_id-id.result < 2 ^ 32 = omega (arith, c.next_id-id.type_inv) in
    added c.args.self.now _ c.args.d c.args.entries.now c.args.ids.now c.args.made c.args.published c.requires.later c.requires.first (rw place at small)
    (ap (λ (x : Schemas). x.tables) (published-is s c.self-2.inside.catalog c.args.d c.next_id-id.result c.args.made c.args.published c.requires.later c.requires.first is place c.publish.new.catalog c.in_ok-publish.ensures.made))
    (ap (λ (x : ClusterState). x.clock) view) (ap (λ (x : ClusterState). x.events + length c.args.entries.now) view)
    (λ T from to items has. c.in-Ok.ensures.added T from to items (subst (λ (m : MvccMap). HasRows (λ h. KeepsAll m.tables.entries h) T) (sym store) has))

pub returns-clause-tables : goal.returns-clause-tables
returns-clause-tables c =
    let s = c.args.self.now.schemas in
    let is : c.self-2.inside.catalog ≡ with_table s c.args.d = ap (λ (x : ClusterState). x.schemas) (c.self-2.view_is ∙ c.in_ok-install.ensures.made) in
    let place : c.next_id-id.result ≡ next_id s = c.next_id-id.ensures ∙ ap (λ (x : ClusterState). next_id x.schemas) c.self.view_is in
    published-more s c.self-2.inside.catalog c.args.d c.next_id-id.result c.args.made c.args.published c.requires.later c.requires.first is place c.publish.new.catalog c.in_ok-publish.ensures.made

pub returns-clause-rest : goal.returns-clause-rest
returns-clause-rest c =
    let s = c.args.self.now.schemas in
    let n = length c.args.entries.now in
    let view = c.self-2.view_is ∙ c.in_ok-install.ensures.made in
    let is : c.self-2.inside.catalog ≡ with_table s c.args.d = ap (λ (x : ClusterState). x.schemas) view in
    let place : c.next_id-id.result ≡ next_id s = c.next_id-id.ensures ∙ ap (λ (x : ClusterState). next_id x.schemas) c.self.view_is in
    ap (λ (x : ClusterState). record x { schemas = c.publish.new.catalog; store = c.put_rows.new.rows; events = x.events + n }) view
    ∙ ap (λ (x : Schemas). record c.args.self.now { schemas = x; store = c.put_rows.new.rows; events = c.args.self.now.events + n })
    (published-rest s c.self-2.inside.catalog c.args.d c.next_id-id.result c.args.made c.args.published c.requires.later c.requires.first is place c.publish.new.catalog c.in_ok-publish.ensures.made)
