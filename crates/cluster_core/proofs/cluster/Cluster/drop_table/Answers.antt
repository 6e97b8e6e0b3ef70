use Rattle.std.proofs.Common.{◌+◌, ◌<◌, ◌∙◌, sym, ap, arith}
use Rattle.table_descriptors.specs.declared.changes.Change.TheVariants.{Become}
use Rattle.table_descriptors.specs.declared.columns.State.TheVariants.{Dropped}
use Rattle.schema_catalog.specs.Catalogs.{dropped}
use Rattle.machine_model.specs.Tables.{drop_table}
use Rattle.cluster_core.specs.ClusterView.{view_of}
use Rattle.cluster_core.proofs.Flow.{exit_missing, exit_catalog}
use Rattle.cluster_core.proofs.Versions.{found-force, one-changeable, one-dropped, redescribed-keeps, version-within}
use Rattle.cluster_core.proofs.SchemaCommands.{redefined, drop-missing, drop-refused, drop-made, next_version}
use Rattle.cluster_core.proofs.cluster.Cluster.drop_table.Goals as goal

pub returns-in_err-table-clause-step : goal.returns-in_err-table-clause-step
returns-in_err-table-clause-step c = rw (← c.self.view_is) (
    exit_missing _ (λ m. drop_table m c.args.name.now) _ c.in_err-table.field-0.0 c.args.name.now _ c.from_residual-in_err-table.ensures.1 c.in_err-table.ensures.missing
    (drop-missing c.args.name.now _ c.in_ok-at.at c.in_ok-at.ensures.drawn))

pub overflow_add-version : goal.overflow_add-version
overflow_add-version c =
    let bound = version-within (c.self.inside.changes + 2) c.self.inside.catalog c.args.name.now c.in_ok-at.at c.in_ok-table.table c.in_ok-table.d.now c.self.invariant.versions c.in_ok-table.ensures.found in
    omega (arith, bound, c.version-version.ensures, c.self.invariant.changes, c.self.invariant.steps)

pub drop_tables-requires : goal.drop_tables-requires
drop_tables-requires c =
    one-changeable (c.self.inside.changes + 2) c.self.inside.catalog c.args.name.now c.in_ok-at.at c.in_ok-table.table c.in_ok-table.d.now c.self.invariant.versions
    (omega (arith, c.self.invariant.changes, c.self.invariant.steps)) c.in_ok-table.ensures.found

pub returns-in_err-drop_tables-clause-step : goal.returns-in_err-drop_tables-clause-step
returns-in_err-drop_tables-clause-step c = rw (← c.self.view_is) (
    exit_catalog _ _ (λ m. drop_table m c.args.name.now) _ c.in_err-drop_tables.field-0.0 _ (ap (redefined (view_of c.self.inside)) c.in_err-drop_tables.ensures.kept) c.from_residual-in_err-drop_tables.ensures.1
    c.in_err-drop_tables.ensures.fault
    (drop-refused c.args.name.now _ c.in_ok-at.at c.in_ok-table.table c.in_ok-table.d.now c.in_ok-at.ensures.drawn c.in_ok-table.ensures.found))

pub invariant_of-self-2 : goal.invariant_of-self-2
invariant_of-self-2 c =
    let d = c.in_ok-table.d.now in
    let made = c.in_ok-drop_tables.ensures.made.1 ∙ one-dropped c.self.inside.catalog c.in_ok-at.at c.in_ok-table.table d (found-force c.self.inside.catalog c.args.name.now c.in_ok-at.at c.in_ok-table.table d c.in_ok-table.ensures.found) in
    let less : c.self.inside.changes < c.self.inside.steps = rw (sym c.self.view_is) at c.requires in
    redescribed-keeps c.self.inside c.args.name.now c.in_ok-at.at c.in_ok-table.table d (dropped d c.in_ok-at.at) c.drop_tables.new.self c.self.invariant less c.in_ok-table.ensures.found
    (λ bound. next_version d (Become Dropped) c.in_ok-at.at (c.self.inside.changes + 2) (c.self.inside.changes + 1 + 2) bound (omega arith)) made

pub returns-clause-step : goal.returns-clause-step
returns-clause-step c =
    let d = c.in_ok-table.d.now in
    let made = c.in_ok-drop_tables.ensures.made.1 ∙ one-dropped c.self.inside.catalog c.in_ok-at.at c.in_ok-table.table d (found-force c.self.inside.catalog c.args.name.now c.in_ok-at.at c.in_ok-table.table d c.in_ok-table.ensures.found) in
    rw (← c.self.view_is, c.version-version.ensures) (
    drop-made c.args.name.now _ c.in_ok-at.at c.in_ok-table.table d c.drop_tables.new.self c.in_ok-at.ensures.drawn c.in_ok-table.ensures.found c.in_ok-table.ensures.proper c.in_ok-drop_tables.ensures.made.0 made)
