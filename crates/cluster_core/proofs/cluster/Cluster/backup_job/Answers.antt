use Rattle.std.proofs.Common.{ap, subst, ◌∙◌, ◌<◌, ◌^◌, length}
use Rattle.std.specs.List.{AllByRecursion}
use Rattle.layer_manifest.specs.declared.manifest.Manifest.{Manifest}
use Rattle.layer_manifest.specs.declared.manifest.TablePart.{TablePart}
use Rattle.cluster_core.proofs.Backing.{layer-job}
use Rattle.cluster_core.proofs.cluster.Cluster.backup_job.Goals as goal

pub returns-clause-job : goal.returns-clause-job
returns-clause-job c = rw (← c.self.view_is) (λ tables k.
    layer-job _ tables k c.args.extent c.args.last c.in_ok-name.name c.in_ok-plan.plan c.in_ok-job.job c.requires.next
    ((rw (← c.self.view_is) at c.in_ok-plan.ensures.passed) tables k) ((rw (← c.self.view_is) at c.in_ok-name.ensures.name) tables) c.in_ok-name.ensures.form
    ((rw (← c.self.view_is) at c.in_ok-plan.ensures.plan) tables k) c.in_ok-plan.ensures.floor c.in_ok-job.ensures.job c.in_ok-job.ensures.proper
    (subst (AllByRecursion (λ (t : TablePart). length t.descriptors < 2 ^ 64)) (c.as_slice.ensures ∙ ap (λ (m : Manifest). m.tables) c.manifest.ensures) c.are_counted.ensures)
    ((rw (← c.self.view_is) at c.in_ok-plan.ensures.allowed) tables k)
    (rw (← c.self.view_is) at c.in_ok-plan.ensures.few) c.self.invariant.room c.self.invariant.few)
