use Rattle.std.proofs.Common.{[]}
use Rattle.machine_model.specs.Backups.{backup, full_backup}
use Rattle.cluster_core.proofs.Ending.{memory-halted, runs-by}
use Rattle.cluster_core.proofs.Increments.{full-is, full-next, full-scopes, same-extent}
use Rattle.cluster_core.proofs.cluster.Cluster.back_up_full.Goals as goal

pub returns-in_err-copy-clause-step : goal.returns-in_err-copy-clause-step
returns-in_err-copy-clause-step g c = λ m to may. memory-halted c.args.self.now m (full_backup m [] c.args.collection.now c.args.scope c.args.history c.args.times.0 c.args.times.1) to (g.D.Disk.view c.args.disk.now) (g.met.D.Disk.only_now c.args.disk.now) c.from_residual.result c.from_residual.ensures.1 may

pub back_up-requires-clause-next : goal.back_up-requires-clause-next
back_up-requires-clause-next g c = full-next c.args.collection.now c.args.scope c.args.history c.args.times.0 c.last_full-last.result _ (same-extent _ _ _ _ _ _ _ _ c.in_ok-copy.ensures.same c.zero.ensures) c.requires.scope

pub back_up-requires-clause-scopes : goal.back_up-requires-clause-scopes
back_up-requires-clause-scopes g c = full-scopes c.args.self.now.book c.args.collection.now c.args.scope c.args.history c.args.times.0 c.last_full-last.result _ (same-extent _ _ _ _ _ _ _ _ c.in_ok-copy.ensures.same c.zero.ensures) (rw (← c.self.view_is) c.last_full-last.ensures)

pub returns-clause-step : goal.returns-clause-step
returns-clause-step g c = runs-by c.args.self.now c.back_up.new.self (λ m. backup m [] _ c.last_full-last.result c.args.times.1) (λ m. full_backup m [] c.args.collection.now c.args.scope c.args.history c.args.times.0 c.args.times.1) c.back_up.result (g.D.Disk.view c.args.disk.now) (g.D.Disk.view c.back_up.new.disk)
    (full-is c.args.self.now c.args.collection.now c.args.scope c.args.history c.args.times.0 c.last_full-last.result c.args.times.1 _ (same-extent _ _ _ _ _ _ _ _ c.in_ok-copy.ensures.same c.zero.ensures) (rw (← c.self.view_is) c.last_full-last.ensures))
    c.back_up.ensures.step
