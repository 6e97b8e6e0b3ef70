use Rattle.std.proofs.Common.{Ok, ap, refl, ◌∙◌}
use Rattle.cluster_core.specs.ClusterView.{ClusterState}
use Rattle.cluster_core.specs.Backing.{with_backup, with_job}
use Rattle.cluster_core.proofs.BackingUp.{done-runs, done-still, failed-still, fault-counts, fault-runs, few-chunks, may-run, memory-runs, own-changes, refused-runs, still-by}
use Rattle.cluster_core.proofs.cluster.Cluster.back_up.Goals as goal

pub returns-in_err-job-clause-step : goal.returns-in_err-job-clause-step
returns-in_err-job-clause-step g c = refused-runs c.args.self.now c.args.extent c.args.last c.args.clock (g.D.Disk.view c.args.disk.now) c.from_residual.result c.in_err-job.field-0.0 c.from_residual.ensures.1 c.in_err-job.ensures.refused (g.met.D.Disk.only_now c.args.disk.now)

pub run_to_end-requires : goal.run_to_end-requires
run_to_end-requires g c = may-run c.args.self.now c.args.extent c.args.last c.args.clock c.requires.scopes c.requires.within.0 c.requires.within.1 c.in_ok-job.job c.in_ok-job.ensures.job c.store.result.now (c.store.ensures ∙ ap (λ (x : ClusterState). x.store) c.self.view_is) (Ok tt) c.in_ok-job.job (λ h keeps may. record { name = refl; manifest = refl }) c.requires.stands

pub keep_backup-requires-clause-few : goal.keep_backup-requires-clause-few
keep_backup-requires-clause-few g c = few-chunks c.args.self.now c.args.extent c.args.last c.args.clock c.requires.scopes c.requires.within.0 c.requires.within.1 c.in_ok-job.job c.in_ok-job.ensures.job c.store.result.now (c.store.ensures ∙ ap (λ (x : ClusterState). x.store) c.self.view_is) c.run_to_end.result c.run_to_end.new.self c.run_to_end.ensures.kept c.in-Ok.ensures.whole c.requires.stands

pub returns-in_err-keep_backup-in-Ok-clause-step : goal.returns-in_err-keep_backup-in-Ok-clause-step
returns-in_err-keep_backup-in-Ok-clause-step g c = memory-runs c.args.self.now c.args.extent c.args.last c.args.clock c.requires.scopes c.requires.within.0 c.requires.within.1 c.in_ok-job.job c.in_ok-job.ensures.job c.store.result.now (c.store.ensures ∙ ap (λ (x : ClusterState). x.store) c.self.view_is) c.run_to_end.result c.run_to_end.new.self c.run_to_end.ensures.kept (g.D.Disk.view c.args.disk.now) (g.D.Disk.view c.run_to_end.new.disk) c.run_to_end.ensures.disk (λ t image known le is. g.met.D.Disk.counts_now c.run_to_end.new.disk t image known le is) _ c.from_residual-in_err-keep_backup-in-Ok.result c.from_residual-in_err-keep_backup-in-Ok.ensures.1

pub returns-in_err-keep_backup-in-Ok-clause-changes : goal.returns-in_err-keep_backup-in-Ok-clause-changes
returns-in_err-keep_backup-in-Ok-clause-changes g c = own-changes c.args.self.now c.args.extent c.args.last c.args.clock c.requires.scopes c.requires.within.0 c.requires.within.1 c.in_ok-job.job c.in_ok-job.ensures.job c.store.result.now (c.store.ensures ∙ ap (λ (x : ClusterState). x.store) c.self.view_is) c.run_to_end.result c.run_to_end.new.self c.run_to_end.ensures.kept _ _ c.run_to_end.ensures.changes c.requires.stands

pub returns-in_ok-keep_backup-in-Ok-clause-step : goal.returns-in_ok-keep_backup-in-Ok-clause-step
returns-in_ok-keep_backup-in-Ok-clause-step g c = done-runs c.args.self.now c.args.extent c.args.last c.args.clock c.requires.scopes c.requires.within.0 c.requires.within.1 c.in_ok-job.job c.in_ok-job.ensures.job c.store.result.now (c.store.ensures ∙ ap (λ (x : ClusterState). x.store) c.self.view_is) c.run_to_end.result c.run_to_end.new.self c.run_to_end.ensures.kept (g.D.Disk.view c.args.disk.now) (g.D.Disk.view c.run_to_end.new.disk) c.run_to_end.ensures.disk (λ t image known le is. g.met.D.Disk.counts_now c.run_to_end.new.disk t image known le is) c.in-Ok.field-0 c.in-Ok.is c.in-Ok.ensures.whole _ (c.in_ok-keep_backup-in-Ok.ensures.kept ∙ ap (λ (x : ClusterState). with_backup (record x { clock = c.args.clock }) c.run_to_end.new.self) c.self.view_is) _ c.in_ok-keep_backup-in-Ok.ensures.answer

pub returns-in_ok-keep_backup-in-Ok-clause-stays : goal.returns-in_ok-keep_backup-in-Ok-clause-stays
returns-in_ok-keep_backup-in-Ok-clause-stays g c = done-still c.args.self.now c.args.extent c.args.last c.args.clock c.requires.scopes c.requires.within.0 c.requires.within.1 c.in_ok-job.job c.in_ok-job.ensures.job c.store.result.now (c.store.ensures ∙ ap (λ (x : ClusterState). x.store) c.self.view_is) c.run_to_end.result c.run_to_end.new.self c.run_to_end.ensures.kept c.in-Ok.ensures.whole _ (c.in_ok-keep_backup-in-Ok.ensures.kept ∙ ap (λ (x : ClusterState). with_backup (record x { clock = c.args.clock }) c.run_to_end.new.self) c.self.view_is) c.requires.stands

pub returns-in_ok-keep_backup-in-Ok-clause-changes : goal.returns-in_ok-keep_backup-in-Ok-clause-changes
returns-in_ok-keep_backup-in-Ok-clause-changes g c = own-changes c.args.self.now c.args.extent c.args.last c.args.clock c.requires.scopes c.requires.within.0 c.requires.within.1 c.in_ok-job.job c.in_ok-job.ensures.job c.store.result.now (c.store.ensures ∙ ap (λ (x : ClusterState). x.store) c.self.view_is) c.run_to_end.result c.run_to_end.new.self c.run_to_end.ensures.kept _ _ c.run_to_end.ensures.changes c.requires.stands

pub returns-in-Err-clause-step : goal.returns-in-Err-clause-step
returns-in-Err-clause-step g c = fault-runs c.args.self.now c.args.extent c.args.last c.args.clock c.requires.scopes c.requires.within.0 c.requires.within.1 c.in_ok-job.job c.in_ok-job.ensures.job c.store.result.now (c.store.ensures ∙ ap (λ (x : ClusterState). x.store) c.self.view_is) c.run_to_end.result c.run_to_end.new.self c.run_to_end.ensures.kept (g.D.Disk.view c.args.disk.now) (g.D.Disk.view c.run_to_end.new.disk) c.run_to_end.ensures.disk (λ t image known le is. g.met.D.Disk.counts_now c.run_to_end.new.disk t image known le is) _ c.in-Err.fault c.keep_failed.result c.in-Err.is c.keep_failed.ensures.of_disk

pub returns-in-Err-clause-stays : goal.returns-in-Err-clause-stays
returns-in-Err-clause-stays g c = still-by _ c.keep_failed.result (λ refusal is. failed-still c.args.self.now c.args.extent c.args.last c.args.clock c.requires.scopes c.requires.within.0 c.requires.within.1 c.in_ok-job.job c.in_ok-job.ensures.job c.store.result.now (c.store.ensures ∙ ap (λ (x : ClusterState). x.store) c.self.view_is) c.run_to_end.result c.run_to_end.new.self c.run_to_end.ensures.kept _ (c.keep_failed.ensures.kept refusal is ∙ ap (λ (x : ClusterState). with_job (record x { clock = c.args.clock }) c.run_to_end.new.self) c.self.view_is) c.requires.stands)

pub returns-in-Err-clause-changes : goal.returns-in-Err-clause-changes
returns-in-Err-clause-changes g c = own-changes c.args.self.now c.args.extent c.args.last c.args.clock c.requires.scopes c.requires.within.0 c.requires.within.1 c.in_ok-job.job c.in_ok-job.ensures.job c.store.result.now (c.store.ensures ∙ ap (λ (x : ClusterState). x.store) c.self.view_is) c.run_to_end.result c.run_to_end.new.self c.run_to_end.ensures.kept _ _ c.run_to_end.ensures.changes c.requires.stands

pub returns-in-Err-clause-cause : goal.returns-in-Err-clause-cause
returns-in-Err-clause-cause g c = fault-counts _ _ c.run_to_end.result c.in-Err.fault c.keep_failed.result c.in-Err.is c.run_to_end.ensures.cause (c.keep_failed.ensures.counts _ _)
