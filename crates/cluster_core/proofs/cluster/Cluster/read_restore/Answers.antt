use Rattle.std.proofs.Common.{ap, subst, sym, ◌∙◌, List}
use Rattle.std.specs.List.{AllByRecursion}
use Rattle.std.specs.Global.{Vec}
use Rattle.std.specs.Prelude.{option_and_then}
use Rattle.mvcc_keys.specs.declared.entries.Entry.{Entry}
use Rattle.layer_chains.specs.Chains.{IsShown}
use Rattle.machine_model.specs.Restores.{count_to_restore, refusal_of_remap}
use Rattle.cluster_core.specs.Standing.{RefusedBy}
use Rattle.cluster_core.specs.Restoring.{count_rows, entries_of}
use Rattle.cluster_core.specs.Restores.{room_test}
use Rattle.cluster_core.proofs.Restorings.{count-is, ended, ends-late}
use Rattle.cluster_core.proofs.cluster.Cluster.read_restore.Goals as goal

pub returns-in_err-count-clause-rows : goal.returns-in_err-count-clause-rows
returns-in_err-count-clause-rows g c tables scope rs tells stands all =
    let planned = c.in_ok-plan.ensures.planned in
    let shown = c.deref.ensures.value ∙ planned.chosen_is in
    let t = c.args.chain.now.time in
    let read = (c.in_ok-rows.ensures.rows tables scope rs tells stands (subst (AllByRecursion (IsShown tables scope t)) (sym shown) all)).0 in
    let count = ap (λ (vs : List (Vec Entry)). count_rows (entries_of vs)) c.deref-2.ensures.value ∙ (count-is tables t c.deref.result.now c.in_ok-rows.rows.items read ∙ ap (count_to_restore tables t) shown) in
    ended _ _ c.from_residual-in_err-count.result c.in_err-count.field-0.0 c.from_residual-in_err-count.ensures.1
    (ends-late _ _ _ c.in_err-count.field-0.0 planned.some (ap (option_and_then refusal_of_remap) planned.passed) (subst (λ n. RefusedBy c.in_err-count.field-0.0 (room_test c.args.self.now n)) count c.in_err-count.ensures.refused))
