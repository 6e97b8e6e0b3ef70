use Rattle.std.proofs.Common.{[], ◌∷◌, refl, sym, ap, subst, ◌∙◌, List}
use Rattle.table_descriptors.specs.declared.scopes.Scope.TheVariants.{Tables}
use Rattle.table_descriptors.specs.Descriptors.{Schema}
use Rattle.history_model.specs.Histories.{schemas_of}
use Rattle.schema_catalog.specs.Catalogs.{Schemas, missing_fault, offline_fault}
use Rattle.machine_model.specs.Machine.{catalog_of}
use Rattle.machine_model.specs.Refusals.{catalog_refusal}
use Rattle.machine_model.specs.Backups.{backup_tables, full_backup, ids_named}
use Rattle.cluster_core.specs.ClusterView.{view_of}
use Rattle.cluster_core.specs.Standing.{RefusedBy}
use Rattle.cluster_core.proofs.Ending.{backup-halted, backup-runs, ending-halted, first-passes, first-stops, ids-proper, memory-halted, stood-catalog, stood-schemas}
use Rattle.cluster_core.proofs.Flow.{catalog-is}
use Rattle.cluster_core.proofs.cluster.Cluster.backup_tables.Goals as goal

pub returns-in_err-end-clause-step : goal.returns-in_err-end-clause-step
unfolding backup_tables
returns-in_err-end-clause-step g c = rw (← c.self.view_is) (
    ending-halted (view_of c.self.inside) c.args.at (λ m end clock. full_backup m (catalog_refusal (missing_fault (catalog_of m) end c.args.tables.now) ∷ catalog_refusal (offline_fault (catalog_of m) end c.args.tables.now) ∷ []) c.args.collection.now (Tables (ids_named (schemas_of m.history.tables) c.args.tables.now end)) c.args.history end clock) c.from_residual.result c.in_err-end.field-0.0 c.from_residual.ensures.1 c.in_err-end.ensures.fault (g.D.Disk.view c.args.disk.now) (g.met.D.Disk.only_now c.args.disk.now))

pub returns-in_err-check_names-clause-step : goal.returns-in_err-check_names-clause-step
unfolding backup_tables
returns-in_err-check_names-clause-step g c = rw (← c.self.view_is) (
    backup-halted (view_of c.self.inside) c.args.at (c.in_ok-end.end, c.in_ok-end.clock) c.in_ok-end.ensures.ending c.args.collection.now (λ m end. Tables (ids_named (schemas_of m.history.tables) c.args.tables.now end)) c.args.history (λ m end. catalog_refusal (missing_fault (catalog_of m) end c.args.tables.now) ∷ catalog_refusal (offline_fault (catalog_of m) end c.args.tables.now) ∷ []) (λ m. catalog_refusal (missing_fault (catalog_of m) c.in_ok-end.end c.args.tables.now)) (g.D.Disk.view c.args.disk.now) (g.met.D.Disk.only_now c.args.disk.now) c.from_residual-in_err-check_names.result c.in_err-check_names.field-0.0 c.from_residual-in_err-check_names.ensures.1
    (λ tables k. subst (λ (s : Schemas). RefusedBy c.in_err-check_names.field-0.0 (catalog_refusal (missing_fault s c.in_ok-end.end c.args.tables.now))) (sym (catalog-is (view_of c.self.inside) tables k)) c.in_err-check_names.ensures.refused)
    (λ m s. first-stops m c.args.collection.now (Tables (ids_named (schemas_of m.history.tables) c.args.tables.now c.in_ok-end.end)) c.args.history c.in_ok-end.end c.in_ok-end.clock (catalog_refusal (missing_fault (catalog_of m) c.in_ok-end.end c.args.tables.now)) (catalog_refusal (offline_fault (catalog_of m) c.in_ok-end.end c.args.tables.now) ∷ [])))

pub returns-in_err-check_states-clause-step : goal.returns-in_err-check_states-clause-step
unfolding backup_tables
returns-in_err-check_states-clause-step g c = rw (← c.self.view_is) (
    backup-halted (view_of c.self.inside) c.args.at (c.in_ok-end.end, c.in_ok-end.clock) c.in_ok-end.ensures.ending c.args.collection.now (λ m end. Tables (ids_named (schemas_of m.history.tables) c.args.tables.now end)) c.args.history (λ m end. catalog_refusal (missing_fault (catalog_of m) end c.args.tables.now) ∷ catalog_refusal (offline_fault (catalog_of m) end c.args.tables.now) ∷ []) (λ m. catalog_refusal (offline_fault (catalog_of m) c.in_ok-end.end c.args.tables.now)) (g.D.Disk.view c.args.disk.now) (g.met.D.Disk.only_now c.args.disk.now) c.from_residual-in_err-check_states.result c.in_err-check_states.field-0.0 c.from_residual-in_err-check_states.ensures.1
    (λ tables k. subst (λ (s : Schemas). RefusedBy c.in_err-check_states.field-0.0 (catalog_refusal (offline_fault s c.in_ok-end.end c.args.tables.now))) (sym (catalog-is (view_of c.self.inside) tables k)) c.in_err-check_states.ensures.refused)
    (λ m s refusal is. first-passes m c.args.collection.now (Tables (ids_named (schemas_of m.history.tables) c.args.tables.now c.in_ok-end.end)) c.args.history c.in_ok-end.end c.in_ok-end.clock (catalog_refusal (missing_fault (catalog_of m) c.in_ok-end.end c.args.tables.now)) (catalog_refusal (offline_fault (catalog_of m) c.in_ok-end.end c.args.tables.now) ∷ [])
    (ap (λ (x : Schemas). catalog_refusal (missing_fault x c.in_ok-end.end c.args.tables.now)) (stood-catalog (view_of c.self.inside) m s) ∙ c.in_ok-check_names.ensures.passed)
    ∙ first-stops m c.args.collection.now (Tables (ids_named (schemas_of m.history.tables) c.args.tables.now c.in_ok-end.end)) c.args.history c.in_ok-end.end c.in_ok-end.clock (catalog_refusal (offline_fault (catalog_of m) c.in_ok-end.end c.args.tables.now)) [] refusal is))

pub returns-in_err-ids-clause-step : goal.returns-in_err-ids-clause-step
returns-in_err-ids-clause-step g c = λ m to may. memory-halted c.args.self.now m (backup_tables m c.args.tables.now c.args.collection.now c.args.at c.args.history) to (g.D.Disk.view c.args.disk.now) (g.met.D.Disk.only_now c.args.disk.now) c.from_residual-in_err-ids.result c.from_residual-in_err-ids.ensures.1 may

pub returns-then-is_empty-clause-step : goal.returns-then-is_empty-clause-step
returns-then-is_empty-clause-step g c = λ m to may. memory-halted c.args.self.now m (backup_tables m c.args.tables.now c.args.collection.now c.args.at c.args.history) to (g.D.Disk.view c.args.disk.now) (g.met.D.Disk.only_now c.args.disk.now) _ refl may

pub back_up_full-requires-clause-scope : goal.back_up_full-requires-clause-scope
back_up_full-requires-clause-scope g c = ids-proper (view_of c.self.inside).schemas.tables c.args.tables.now c.in_ok-end.end c.in_ok-ids.ids.items c.from_vec.result c.in_ok-ids.ids.len c.in_ok-ids.ids.cap c.in_ok-ids.ids.ok (sym c.is_empty.ensures ∙ c.if-is_empty.false) c.in_ok-ids.ids.small c.in_ok-ids.ensures.ids c.in_ok-ids.ensures.fits c.from_vec.ensures

pub returns-clause-step : goal.returns-clause-step
unfolding backup_tables
returns-clause-step g c = rw (← c.self.view_is) (
    backup-runs (view_of c.self.inside) c.args.at (c.in_ok-end.end, c.in_ok-end.clock) c.in_ok-end.ensures.ending c.args.collection.now (λ m end. Tables (ids_named (schemas_of m.history.tables) c.args.tables.now end)) c.args.history (λ m end. catalog_refusal (missing_fault (catalog_of m) end c.args.tables.now) ∷ catalog_refusal (offline_fault (catalog_of m) end c.args.tables.now) ∷ []) (Tables c.from_vec.result) c.back_up_full.new.self c.back_up_full.result (g.D.Disk.view c.args.disk.now) (g.D.Disk.view c.back_up_full.new.disk)
    (λ m s. first-passes m c.args.collection.now (Tables (ids_named (schemas_of m.history.tables) c.args.tables.now c.in_ok-end.end)) c.args.history c.in_ok-end.end c.in_ok-end.clock (catalog_refusal (missing_fault (catalog_of m) c.in_ok-end.end c.args.tables.now)) (catalog_refusal (offline_fault (catalog_of m) c.in_ok-end.end c.args.tables.now) ∷ [])
    (ap (λ (x : Schemas). catalog_refusal (missing_fault x c.in_ok-end.end c.args.tables.now)) (stood-catalog (view_of c.self.inside) m s) ∙ c.in_ok-check_names.ensures.passed)
    ∙ (first-passes m c.args.collection.now (Tables (ids_named (schemas_of m.history.tables) c.args.tables.now c.in_ok-end.end)) c.args.history c.in_ok-end.end c.in_ok-end.clock (catalog_refusal (offline_fault (catalog_of m) c.in_ok-end.end c.args.tables.now)) []
    (ap (λ (x : Schemas). catalog_refusal (offline_fault x c.in_ok-end.end c.args.tables.now)) (stood-catalog (view_of c.self.inside) m s) ∙ c.in_ok-check_states.ensures.passed)
    ∙ ap (λ ids. full_backup m [] c.args.collection.now (Tables ids) c.args.history c.in_ok-end.end c.in_ok-end.clock)
    (ap (λ (ts : List (List Schema)). ids_named ts c.args.tables.now c.in_ok-end.end) (stood-schemas (view_of c.self.inside) m s) ∙ sym (c.from_vec.ensures ∙ c.in_ok-ids.ensures.ids))))
    (rw (← c.self.view_is) at c.back_up_full.ensures.step))
