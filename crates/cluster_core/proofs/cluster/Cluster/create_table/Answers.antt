use Rattle.std.proofs.Common.{◌+◌, ◌<◌, sym, subst, arith}
use Rattle.schema_catalog.specs.Catalogs.{first_schema}
use Rattle.cluster_core.specs.ClusterView.{AreWithin}
use Rattle.cluster_core.proofs.Versions.{within-new}
use Rattle.cluster_core.proofs.SchemaCommands.{table-made, first-version}
use Rattle.cluster_core.proofs.cluster.Cluster.create_table.Goals as goal

pub invariant_of-self-2 : goal.invariant_of-self-2
invariant_of-self-2 c =
    let s = c.self.inside.catalog in
    let d = first_schema s c.in_ok-at.at c.args.name.now c.args.columns.now c.args.key.now c.args.references.now in
    record {
      room = c.self.invariant.room;
      versions = subst (λ n. AreWithin (c.self.inside.changes + 1 + 2) n.tables) (sym c.in_ok-table.ensures.made.2) (within-new (c.self.inside.changes + 2) (c.self.inside.changes + 1 + 2) s.tables d c.self.invariant.versions (omega arith) (rw (first-version s c.in_ok-at.at c.args.name.now c.args.columns.now c.args.key.now c.args.references.now) (omega arith)));
      changes = (let less : c.self.inside.changes < c.self.inside.steps = rw (sym c.self.view_is) at c.requires.room in omega (arith, less));
      steps = c.self.invariant.steps;
      few = c.self.invariant.few;
      jobs = c.self.invariant.jobs;
    }

pub returns-clause-step : goal.returns-clause-step
returns-clause-step c = rw (← c.self.view_is) (
    table-made c.args.name.now c.args.columns.now c.args.key.now c.args.references.now _ c.in_ok-at.at c.in_ok-table.table c.create_table-made.new.self
    c.in_ok-at.ensures.drawn c.in_ok-table.ensures.made.0 c.in_ok-table.ensures.made.1 c.in_ok-table.ensures.made.2)
