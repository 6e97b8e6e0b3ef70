use Rattle.std.proofs.Common.{◌+◌, ◌<◌, refl, sym, ap, arith}
use Rattle.table_descriptors.specs.Descriptors.{changed_schema}
use Rattle.machine_model.specs.Tables.{alter}
use Rattle.cluster_core.specs.ClusterView.{view_of}
use Rattle.cluster_core.proofs.Flow.{exit_by, exit_missing, exit_catalog}
use Rattle.cluster_core.proofs.Versions.{found-force, changeable, redescribed-keeps}
use Rattle.cluster_core.proofs.SchemaCommands.{redefined, alter-missing, alter-offline, alter-refused, alter-made, next_version}
use Rattle.cluster_core.proofs.cluster.Cluster.alter.Goals as goal

pub returns-in_err-table-clause-step : goal.returns-in_err-table-clause-step
returns-in_err-table-clause-step c = rw (← c.self.view_is) (
    exit_missing _ (λ m. alter m c.args.name.now c.args.change.now) _ c.in_err-table.field-0.0 c.args.name.now _ c.from_residual-in_err-table.ensures.1 c.in_err-table.ensures.missing
    (alter-missing c.args.name.now c.args.change.now _ c.in_ok-at.at c.in_ok-at.ensures.drawn))

pub returns-in_err-check_public-clause-step : goal.returns-in_err-check_public-clause-step
returns-in_err-check_public-clause-step c = rw (← c.self.view_is) (
    exit_by _ _ (λ m. alter m c.args.name.now c.args.change.now) _ c.in_err-check_public.field-0.0 _ refl c.from_residual-in_err-check_public.ensures.1 c.in_err-check_public.ensures.refused
    (alter-offline c.args.name.now c.args.change.now _ c.in_ok-at.at c.in_ok-table.table c.in_ok-table.d.now c.in_ok-at.ensures.drawn c.in_ok-table.ensures.found))

pub change-requires : goal.change-requires
change-requires c =
    changeable (c.self.inside.changes + 2) c.self.inside.catalog c.args.name.now c.in_ok-at.at c.in_ok-table.table c.in_ok-table.d.now c.self.invariant.versions
    (omega (arith, c.self.invariant.changes, c.self.invariant.steps)) c.in_ok-table.ensures.found

pub returns-in_err-version-clause-step : goal.returns-in_err-version-clause-step
returns-in_err-version-clause-step c = rw (← c.self.view_is) (
    exit_catalog _ _ (λ m. alter m c.args.name.now c.args.change.now) _ c.in_err-version.field-0.0 _ (ap (redefined (view_of c.self.inside)) c.in_err-version.ensures.kept) c.from_residual-in_err-version.ensures.1
    (c.in_err-version.ensures.fault c.in_ok-table.d.now (found-force c.self.inside.catalog c.args.name.now c.in_ok-at.at c.in_ok-table.table c.in_ok-table.d.now c.in_ok-table.ensures.found))
    (alter-refused c.args.name.now c.args.change.now _ c.in_ok-at.at c.in_ok-table.table c.in_ok-table.d.now c.in_ok-at.ensures.drawn c.in_ok-table.ensures.found c.in_ok-check_public.ensures.passed))

pub invariant_of-self-2 : goal.invariant_of-self-2
invariant_of-self-2 c =
    let d = c.in_ok-table.d.now in
    let made = c.in_ok-version.ensures.made d (found-force c.self.inside.catalog c.args.name.now c.in_ok-at.at c.in_ok-table.table d c.in_ok-table.ensures.found) in
    let less : c.self.inside.changes < c.self.inside.steps = rw (sym c.self.view_is) at c.requires in
    redescribed-keeps c.self.inside c.args.name.now c.in_ok-at.at c.in_ok-table.table d (changed_schema d c.args.change.now c.in_ok-at.at) c.change.new.self c.self.invariant less c.in_ok-table.ensures.found
    (λ bound. next_version d c.args.change.now c.in_ok-at.at (c.self.inside.changes + 2) (c.self.inside.changes + 1 + 2) bound (omega arith)) made.2

pub returns-clause-step : goal.returns-clause-step
returns-clause-step c =
    let d = c.in_ok-table.d.now in
    let made = c.in_ok-version.ensures.made d (found-force c.self.inside.catalog c.args.name.now c.in_ok-at.at c.in_ok-table.table d c.in_ok-table.ensures.found) in
    rw (← c.self.view_is) (
    alter-made c.args.name.now c.args.change.now _ c.in_ok-at.at c.in_ok-table.table d c.change.new.self c.in_ok-version.version c.in_ok-at.ensures.drawn c.in_ok-table.ensures.found c.in_ok-table.ensures.proper c.in_ok-check_public.ensures.passed made.0 made.2 made.1)
