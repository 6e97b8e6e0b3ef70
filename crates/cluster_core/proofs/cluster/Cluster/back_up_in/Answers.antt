use Rattle.std.proofs.Common.{[], Some, refl, sym, ap, ◌∙◌}
use Rattle.layer_manifest.specs.declared.manifest.Manifest.{Manifest}
use Rattle.reply_texts.specs.declared.refusals.Refusal.TheVariants.{NoSuchBackup}
use Rattle.machine_model.specs.Backups.{backup, increment_in}
use Rattle.cluster_core.specs.declared.halts.Halt.TheVariants.{Refused}
use Rattle.cluster_core.proofs.BackingUp.{halted-runs}
use Rattle.cluster_core.proofs.Covers.{booked}
use Rattle.cluster_core.proofs.Ending.{memory-halted, runs-by}
use Rattle.cluster_core.proofs.Flow.{same-refused}
use Rattle.cluster_core.proofs.Increments.{after-is, after-next, after-none, after-own, after-scopes, same-next}
use Rattle.cluster_core.proofs.cluster.Cluster.back_up_in.Goals as goal

pub returns-in_err-scope-in-Some-clause-step : goal.returns-in_err-scope-in-Some-clause-step
returns-in_err-scope-in-Some-clause-step g c = λ m to may. memory-halted c.args.self.now m (increment_in m c.args.collection.now c.args.subdirectory.now c.args.history c.args.times.0 c.args.times.1) to (g.D.Disk.view c.args.disk.now) (g.met.D.Disk.only_now c.args.disk.now) c.from_residual.result c.from_residual.ensures.1 may

pub returns-in_err-copy-in-Some-clause-step : goal.returns-in_err-copy-in-Some-clause-step
returns-in_err-copy-in-Some-clause-step g c = λ m to may. memory-halted c.args.self.now m (increment_in m c.args.collection.now c.args.subdirectory.now c.args.history c.args.times.0 c.args.times.1) to (g.D.Disk.view c.args.disk.now) (g.met.D.Disk.only_now c.args.disk.now) c.from_residual-in_err-copy-in-Some.result c.from_residual-in_err-copy-in-Some.ensures.1 may

pub back_up-requires-clause-next : goal.back_up-requires-clause-next
back_up-requires-clause-next g c =
    let p = c.in-Some.field-0.now in
    let s = c.requires.stands.1 in
    after-next c.args.self.now.book c.args.collection.now c.args.subdirectory.now.0 c.args.subdirectory.now.1 p (rw (← c.self.view_is) (sym c.in-Some.ensures)) c.args.history c.args.times.0 c.last_end-last.result (rw (← c.self.view_is) c.last_end-last.ensures) _
    (same-next _ _ _ _ _ _ _ _ c.in_ok-copy-in-Some.ensures.same (ap (λ (m : Manifest). m.scope) c.in_ok-scope-in-Some.ensures))
    (booked c.args.self.now s.tables s.backups p (after-own c.args.self.now.book c.args.collection.now c.args.subdirectory.now.0 c.args.subdirectory.now.1 p (rw (← c.self.view_is) (sym c.in-Some.ensures)))).1.is

pub back_up-requires-clause-scopes : goal.back_up-requires-clause-scopes
back_up-requires-clause-scopes g c =
    let s = c.requires.stands.1 in
    λ later. after-scopes c.args.self.now.book c.args.collection.now c.args.subdirectory.now.0 c.args.subdirectory.now.1 c.in-Some.field-0.now (rw (← c.self.view_is) (sym c.in-Some.ensures)) c.args.history c.args.times.0 c.last_end-last.result (rw (← c.self.view_is) c.last_end-last.ensures) _
    (same-next _ _ _ _ _ _ _ _ c.in_ok-copy-in-Some.ensures.same (ap (λ (m : Manifest). m.scope) c.in_ok-scope-in-Some.ensures))
    c.args.self.now s.tables s.backups refl

pub returns-in_ok-copy-in-Some-clause-step : goal.returns-in_ok-copy-in-Some-clause-step
returns-in_ok-copy-in-Some-clause-step g c =
    runs-by c.args.self.now c.back_up.new.self (λ m. backup m [] _ c.last_end-last.result c.args.times.1) (λ m. increment_in m c.args.collection.now c.args.subdirectory.now c.args.history c.args.times.0 c.args.times.1) c.back_up.result (g.D.Disk.view c.args.disk.now) (g.D.Disk.view c.back_up.new.disk)
    (after-is c.args.self.now c.args.collection.now c.args.subdirectory.now c.args.history c.args.times.0 c.args.times.1 c.in-Some.field-0.now (rw (← c.self.view_is) (sym c.in-Some.ensures)) c.last_end-last.result (rw (← c.self.view_is) c.last_end-last.ensures) _ (same-next _ _ _ _ _ _ _ _ c.in_ok-copy-in-Some.ensures.same (ap (λ (m : Manifest). m.scope) c.in_ok-scope-in-Some.ensures)))
    c.back_up.ensures.step

pub returns-in-None-clause-step : goal.returns-in-None-clause-step
returns-in-None-clause-step g c = λ m to may. halted-runs c.args.self.now m (increment_in m c.args.collection.now c.args.subdirectory.now c.args.history c.args.times.0 c.args.times.1) to (g.D.Disk.view c.args.disk.now) (Refused NoSuchBackup) (Some NoSuchBackup) refl
    (λ refusal same. after-none c.args.self.now c.args.collection.now c.args.subdirectory.now c.args.history c.args.times.0 c.args.times.1 (rw (← c.self.view_is) (sym c.in-None.ensures)) m may.stands ∙ same-refused m NoSuchBackup refusal same) (g.met.D.Disk.only_now c.args.disk.now) may.stands may.ready
