use Rattle.std.proofs.Common.{refl, subst, ◌∙◌, Err}
use Rattle.machine_model.specs.TableRows.{select}
use Rattle.cluster_core.specs.ClusterView.{ClusterState, view_of}
use Rattle.cluster_core.specs.Standing.{Does}
use Rattle.cluster_core.proofs.Flow.{exit_by, exit_missing}
use Rattle.cluster_core.proofs.Reading.{select-missing, select-offline, select-fault, select-shown}
use Rattle.cluster_core.proofs.cluster.Cluster.select.Goals as goal

pub returns-in_err-table : goal.returns-in_err-table
returns-in_err-table c = rw (← c.self.view_is) (
    exit_missing _ (λ m. select m c.args.name.now c.args.at) _ c.in_err-table.field-0.0 c.args.name.now _ c.from_residual-in_err-table.ensures.1 c.in_err-table.ensures.missing (select-missing c.args.name.now c.args.at c.unwrap_or-t.result _ c.unwrap_or-t.ensures c.in_ok-check_past.ensures.passed))

pub returns-in_err-check_public : goal.returns-in_err-check_public
returns-in_err-check_public c = rw (← c.self.view_is) (
    exit_by _ _ (λ m. select m c.args.name.now c.args.at) _ c.in_err-check_public.field-0.0 _ refl c.from_residual-in_err-check_public.ensures.1 c.in_err-check_public.ensures.refused
    (select-offline c.args.name.now c.args.at c.unwrap_or-t.result _ c.in_ok-table.table c.in_ok-table.d.now c.unwrap_or-t.ensures c.in_ok-check_past.ensures.passed c.in_ok-table.ensures.found))

pub returns-in-Ok : goal.returns-in-Ok
returns-in-Ok c = rw (← c.self.view_is) (
    select-shown c.args.name.now c.args.at c.unwrap_or-t.result _ c.in_ok-table.table c.in_ok-table.d.now c.from_vec.result c.unwrap_or-t.ensures c.in_ok-check_past.ensures.passed c.in_ok-table.ensures.found c.in_ok-check_public.ensures.passed
    (λ T has table. let s = c.in-Ok.ensures T has table in (s.0, c.from_vec.ensures ∙ s.1)))

pub returns-in-Err : goal.returns-in-Err
returns-in-Err c =
    let does : Does (view_of c.self.inside) (view_of c.self.inside) (λ m. select m c.args.name.now c.args.at) (Err c.halt_of_select.result) = rw c.halt_of_select.ensures (
    select-fault c.args.name.now c.args.at c.unwrap_or-t.result _ c.in_ok-table.table c.in_ok-table.d.now c.in-Err.fault c.unwrap_or-t.ensures c.in_ok-check_past.ensures.passed c.in_ok-table.ensures.found c.in_ok-check_public.ensures.passed c.in-Err.ensures) in
    subst (λ (s : ClusterState). Does s s (λ m. select m c.args.name.now c.args.at) (Err c.halt_of_select.result)) c.self.view_is does
