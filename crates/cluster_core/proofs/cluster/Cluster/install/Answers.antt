use Rattle.std.proofs.Common.{◌+◌, ◌∙◌, sym, ap, subst, arith}
use Rattle.schema_catalog.specs.Catalogs.{with_tables}
use Rattle.cluster_core.specs.ClusterView.{AreWithin}
use Rattle.cluster_core.proofs.Versions.{within-new}
use Rattle.cluster_core.proofs.cluster.Cluster.install.Goals as goal

pub invariant_of-self-2 : goal.invariant_of-self-2
invariant_of-self-2 c =
    let s = c.self.inside.catalog in
    let n = c.self.inside.changes + 2 in
    record {
      room = c.self.invariant.room;
      versions = subst (λ x. AreWithin n x.tables) (sym (c.in_ok-install.ensures.made ∙ ap (with_tables s) c.in_ok-tables.ensures)) (within-new n n s.tables c.args.d c.self.invariant.versions (omega arith) (rw c.requires.version (omega arith)));
      changes = c.self.invariant.changes;
      steps = c.self.invariant.steps;
      few = c.self.invariant.few;
      jobs = c.self.invariant.jobs;
    }
