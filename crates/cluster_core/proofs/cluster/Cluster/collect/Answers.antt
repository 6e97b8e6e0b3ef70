use Rattle.std.proofs.Common.{refl, sym, subst}
use Rattle.machine_model.specs.TableRows.{collect}
use Rattle.table_rows.specs.RowTables.{bytes_of}
use Rattle.version_store.specs.declared.mvcc_map.MvccMap.{MvccMap}
use Rattle.version_store.specs.MapHolding.{KeepsAll}
use Rattle.cluster_core.proofs.Flow.{exit_by, exit_missing}
use Rattle.cluster_core.proofs.Reading.{collect-missing, collect-offline, collect-future, collect-done}
use Rattle.cluster_core.proofs.cluster.Cluster.collect.Goals as goal

pub returns-in_err-table-clause-step : goal.returns-in_err-table-clause-step
returns-in_err-table-clause-step c = rw (← c.self.view_is) (
    exit_missing _ (λ m. collect m c.args.name.now c.args.g) _ c.in_err-table.field-0.0 c.args.name.now _ c.from_residual.ensures.1 c.in_err-table.ensures.missing (collect-missing c.args.name.now c.args.g _))

pub returns-in_err-check_public-clause-step : goal.returns-in_err-check_public-clause-step
returns-in_err-check_public-clause-step c = rw (← c.self.view_is) (
    exit_by _ _ (λ m. collect m c.args.name.now c.args.g) _ c.in_err-check_public.field-0.0 _ refl c.from_residual-in_err-check_public.ensures.1 c.in_err-check_public.ensures.refused
    (collect-offline c.args.name.now c.args.g _ c.in_ok-table.table c.in_ok-table.d.now c.in_ok-table.ensures.found))

pub returns-in_err-check_past-clause-step : goal.returns-in_err-check_past-clause-step
returns-in_err-check_past-clause-step c = rw (← c.self.view_is) (
    exit_by _ _ (λ m. collect m c.args.name.now c.args.g) _ c.in_err-check_past.field-0.0 _ refl c.from_residual-in_err-check_past.ensures.1 c.in_err-check_past.ensures.refused
    (collect-future c.args.name.now c.args.g _ c.in_ok-table.table c.in_ok-table.d.now c.in_ok-table.ensures.found c.in_ok-check_public.ensures.passed))

pub returns-clause-step : goal.returns-clause-step
returns-clause-step c = rw (← c.self.view_is) (
    collect-done c.args.name.now c.args.g _ c.collect.new.self c.in_ok-table.table c.in_ok-table.d.now c.threshold-threshold.result c.in_ok-table.ensures.found c.in_ok-check_public.ensures.passed c.in_ok-check_past.ensures.passed
    c.in_ok-collect.ensures.raised
    (λ T has. c.threshold-threshold.ensures (bytes_of T) (subst (λ (s : MvccMap). KeepsAll s.tables.entries (bytes_of T)) (sym c.store.ensures) has.bytes)))
