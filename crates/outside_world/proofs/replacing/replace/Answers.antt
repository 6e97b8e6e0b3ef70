use Rattle.std.proofs.Common.{inl, inr, refl}
use Rattle.outside_world.proofs.PutSyncPut.{only_put_sync, only_put_sync_put, only_put_sync_put_sync, run_gate, run_last, run_put, run_put_sync}
use Rattle.outside_world.proofs.Runs.{only_put}
use Rattle.outside_world.proofs.ReplacingSteps.{stages}
use Rattle.outside_world.proofs.replacing.replace.Goals as goal

pub returns-in_err-put-clause-moments : goal.returns-in_err-put-clause-moments
returns-in_err-put-clause-moments g c may = (run_put (stages _ _ _ _ may (g.met.D.Disk.only_now c.args.disk.now may.known)) c.put.ensures.changes).so_far

pub returns-in_err-sync-clause-moments : goal.returns-in_err-sync-clause-moments
returns-in_err-sync-clause-moments g c may = (run_put_sync (stages _ _ _ _ may (g.met.D.Disk.only_now c.args.disk.now may.known)) c.put.ensures.changes c.sync.ensures.settles).so_far

pub returns-in_err-put-2-clause-moments : goal.returns-in_err-put-2-clause-moments
returns-in_err-put-2-clause-moments g c may =
    (run_gate (stages _ _ _ _ may (g.met.D.Disk.only_now c.args.disk.now may.known)) c.in_ok-put.ensures.changes c.in_ok-sync.ensures.settles c.put-2.ensures.changes).so_far

pub returns-clause-moments : goal.returns-clause-moments
returns-clause-moments g c may =
    (run_last (stages _ _ _ _ may (g.met.D.Disk.only_now c.args.disk.now may.known)) c.in_ok-put.ensures.changes c.in_ok-sync.ensures.settles c.put-2.ensures.changes c.sync-2.ensures.settles).so_far

pub returns-in_err-put-clause-changes : goal.returns-in_err-put-clause-changes
returns-in_err-put-clause-changes g c = only_put (inl refl) c.put.ensures.changes

pub returns-in_err-sync-clause-changes : goal.returns-in_err-sync-clause-changes
returns-in_err-sync-clause-changes g c = only_put_sync (inl refl) c.put.ensures.changes c.sync.ensures.settles

pub returns-in_err-put-2-clause-changes : goal.returns-in_err-put-2-clause-changes
returns-in_err-put-2-clause-changes g c = only_put_sync_put (inl refl) (inr refl) c.put.ensures.changes c.sync.ensures.settles c.put-2.ensures.changes

pub returns-clause-changes : goal.returns-clause-changes
returns-clause-changes g c = only_put_sync_put_sync (inl refl) (inr refl) c.put.ensures.changes c.sync.ensures.settles c.put-2.ensures.changes c.sync-2.ensures.settles
