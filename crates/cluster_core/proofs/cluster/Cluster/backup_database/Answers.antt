use Rattle.std.proofs.Common.{[], ◌∷◌, sym, ap, subst, ◌∙◌}
use Rattle.table_descriptors.specs.declared.scopes.Scope.TheVariants.{Database}
use Rattle.schema_catalog.specs.Catalogs.{Schemas}
use Rattle.machine_model.specs.Machine.{catalog_of}
use Rattle.machine_model.specs.Backups.{absent_refusal, backup_database, full_backup}
use Rattle.cluster_core.specs.ClusterView.{view_of}
use Rattle.cluster_core.specs.Standing.{RefusedBy}
use Rattle.cluster_core.proofs.Ending.{backup-halted, backup-runs, ending-halted, first-passes, first-stops, memory-halted, stood-catalog}
use Rattle.cluster_core.proofs.Flow.{catalog-is}
use Rattle.cluster_core.proofs.cluster.Cluster.backup_database.Goals as goal

pub returns-in_err-end-clause-step : goal.returns-in_err-end-clause-step
unfolding backup_database
returns-in_err-end-clause-step g c = rw (← c.self.view_is) (
    ending-halted (view_of c.self.inside) c.args.at (λ m end clock. full_backup m (absent_refusal (catalog_of m) c.args.database.now ∷ []) c.args.collection.now (Database c.args.database.now) c.args.history end clock) c.from_residual.result c.in_err-end.field-0.0 c.from_residual.ensures.1 c.in_err-end.ensures.fault (g.D.Disk.view c.args.disk.now) (g.met.D.Disk.only_now c.args.disk.now))

pub returns-in_err-check_database-clause-step : goal.returns-in_err-check_database-clause-step
unfolding backup_database
returns-in_err-check_database-clause-step g c = rw (← c.self.view_is) (
    backup-halted (view_of c.self.inside) c.args.at (c.in_ok-end.end, c.in_ok-end.clock) c.in_ok-end.ensures.ending c.args.collection.now (λ m end. Database c.args.database.now) c.args.history (λ m end. absent_refusal (catalog_of m) c.args.database.now ∷ []) (λ m. absent_refusal (catalog_of m) c.args.database.now) (g.D.Disk.view c.args.disk.now) (g.met.D.Disk.only_now c.args.disk.now) c.from_residual-in_err-check_database.result c.in_err-check_database.field-0.0 c.from_residual-in_err-check_database.ensures.1
    (λ tables k. subst (λ (s : Schemas). RefusedBy c.in_err-check_database.field-0.0 (absent_refusal s c.args.database.now)) (sym (catalog-is (view_of c.self.inside) tables k)) c.in_err-check_database.ensures.refused)
    (λ m s. first-stops m c.args.collection.now (Database c.args.database.now) c.args.history c.in_ok-end.end c.in_ok-end.clock (absent_refusal (catalog_of m) c.args.database.now) []))

pub returns-in_err-copy-clause-step : goal.returns-in_err-copy-clause-step
returns-in_err-copy-clause-step g c = λ m to may. memory-halted c.args.self.now m (backup_database m c.args.database.now c.args.collection.now c.args.at c.args.history) to (g.D.Disk.view c.args.disk.now) (g.met.D.Disk.only_now c.args.disk.now) c.from_residual-in_err-copy.result c.from_residual-in_err-copy.ensures.1 may

pub returns-clause-step : goal.returns-clause-step
unfolding backup_database
returns-clause-step g c = rw (← c.self.view_is) (
    backup-runs (view_of c.self.inside) c.args.at (c.in_ok-end.end, c.in_ok-end.clock) c.in_ok-end.ensures.ending c.args.collection.now (λ m end. Database c.args.database.now) c.args.history (λ m end. absent_refusal (catalog_of m) c.args.database.now ∷ [])
    (Database c.in_ok-copy.field-0) c.back_up_full.new.self c.back_up_full.result (g.D.Disk.view c.args.disk.now) (g.D.Disk.view c.back_up_full.new.disk)
    (λ m s. first-passes m c.args.collection.now (Database c.args.database.now) c.args.history c.in_ok-end.end c.in_ok-end.clock (absent_refusal (catalog_of m) c.args.database.now) []
    (ap (λ (x : Schemas). absent_refusal x c.args.database.now) (stood-catalog (view_of c.self.inside) m s) ∙ c.in_ok-check_database.ensures.passed)
    ∙ ap (λ n. full_backup m [] c.args.collection.now (Database n) c.args.history c.in_ok-end.end c.in_ok-end.clock) (sym c.in_ok-copy.ensures.same))
    (rw (← c.self.view_is) at c.back_up_full.ensures.step))
