use Rattle.std.proofs.Common.{Some, refl, sym, ap, ◌∙◌}
use Rattle.reply_texts.specs.declared.refusals.Refusal.TheVariants.{NoSuchBackup}
use Rattle.machine_model.specs.Backups.{backup_latest, ending, increment_in, source_among}
use Rattle.script_grammar.specs.declared.backups.Src.TheVariants.{Latest}
use Rattle.cluster_core.specs.declared.halts.Halt.TheVariants.{Refused}
use Rattle.cluster_core.specs.ClusterView.{view_of}
use Rattle.cluster_core.proofs.BackingUp.{halted-runs}
use Rattle.cluster_core.proofs.Ending.{ending-halted, memory-halted, runs-by}
use Rattle.cluster_core.proofs.Flow.{same-refused}
use Rattle.cluster_core.proofs.Latest.{after-latest, latest-is, latest-none}
use Rattle.cluster_core.proofs.cluster.Cluster.backup_latest.Goals as goal

pub returns-in_err-end-clause-step : goal.returns-in_err-end-clause-step
unfolding backup_latest
returns-in_err-end-clause-step g c = rw (← c.self.view_is) (
    ending-halted (view_of c.self.inside) c.args.at (λ m. after-latest m c.args.collection.now c.args.history) c.from_residual.result c.in_err-end.field-0.0 c.from_residual.ensures.1 c.in_err-end.ensures.fault (g.D.Disk.view c.args.disk.now) (g.met.D.Disk.only_now c.args.disk.now))

pub returns-in_err-subdirectories-clause-step : goal.returns-in_err-subdirectories-clause-step
returns-in_err-subdirectories-clause-step g c = λ m to may. memory-halted c.args.self.now m (backup_latest m c.args.collection.now c.args.at c.args.history) to (g.D.Disk.view c.args.disk.now) (g.met.D.Disk.only_now c.args.disk.now) c.from_residual-in_err-subdirectories.result c.from_residual-in_err-subdirectories.ensures.1 may

pub returns-in-Some-clause-step : goal.returns-in-Some-clause-step
unfolding backup_latest
returns-in-Some-clause-step g c = rw (← c.self.view_is) (
    runs-by (view_of c.self.inside) c.back_up_in.new.self (λ m. increment_in m c.args.collection.now c.in-Some.subdirectory.now c.args.history c.in_ok-end.end c.in_ok-end.clock) (λ m. ending m c.args.at (after-latest m c.args.collection.now c.args.history)) c.back_up_in.result (g.D.Disk.view c.args.disk.now) (g.D.Disk.view c.back_up_in.new.disk)
    (latest-is (view_of c.self.inside) c.args.collection.now c.args.history c.args.at (c.in_ok-end.end, c.in_ok-end.clock) c.in_ok-end.ensures.ending c.in-Some.subdirectory.now (ap (source_among Latest) (sym (c.deref.ensures.value ∙ c.in_ok-subdirectories.ensures)) ∙ sym c.in-Some.ensures))
    (rw (← c.self.view_is) at c.back_up_in.ensures.step))

pub returns-clause-step : goal.returns-clause-step
unfolding backup_latest
returns-clause-step g c = rw (← c.self.view_is) (λ m to may. halted-runs (view_of c.self.inside) m (ending m c.args.at (after-latest m c.args.collection.now c.args.history)) to (g.D.Disk.view c.args.disk.now) (Refused NoSuchBackup) (Some NoSuchBackup) refl
    (λ refusal same. latest-none (view_of c.self.inside) c.args.collection.now c.args.history c.args.at (c.in_ok-end.end, c.in_ok-end.clock) c.in_ok-end.ensures.ending (ap (source_among Latest) (sym (c.deref.ensures.value ∙ c.in_ok-subdirectories.ensures)) ∙ sym c.in-None.ensures) m may.stands ∙ same-refused m NoSuchBackup refusal same)
    (g.met.D.Disk.only_now c.args.disk.now) may.stands may.ready)
