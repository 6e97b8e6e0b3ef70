use Rattle.std.proofs.lemmas.Result.{err_from_is_err_and}
use Rattle.backup_job.specs.declared.job.Progress.TheVariants.{Done}
use Rattle.backup_job.proofs.Disks.{finish_at_layer, finish_done, finish_failed}
use Rattle.backup_job.proofs.job.BackupJob.finish.Goals as goal

pub returns-in_err-finish_layer-clause-disk : goal.returns-in_err-finish_layer-clause-disk
returns-in_err-finish_layer-clause-disk g c =
    let p = err_from_is_err_and c.from_residual.result c.from_residual.ensures.1 in
    let e = c.in_err-finish_layer.ensures in
    rw (← c.self.view_is, p.1, p.2) (λ w same is. finish_failed {T = Unit {0}} w c.self.inside.manifest c.in_err-finish_layer.field-0.0 same is
    (record { finished = e.finished; differs = e.differs; same = e.same; calls = e.calls; put = e.put; open_now = e.«open»; opens = e.opens; fresh = e.fresh; settled = e.settled; layer = e.layer; whole = e.whole; changes = e.changes; fault = e.fault }))

pub returns-in_err-finish_layer-clause-changes : goal.returns-in_err-finish_layer-clause-changes
returns-in_err-finish_layer-clause-changes g c = rw (← c.self.view_is) (finish_at_layer c.self.inside.name c.finish_layer.ensures.changes)

pub returns-clause-disk : goal.returns-clause-disk
returns-clause-disk g c =
    let e = c.in_ok-finish_layer.ensures in
    rw (← c.self.view_is) (λ w same is. finish_done {T = Unit {0}} w c.self.inside.manifest tt Done same is
    (record { finished = e.finished; differs = e.differs; same = e.same; calls = e.calls; put = e.put; open_now = e.«open»; opens = e.opens; fresh = e.fresh; settled = e.settled; layer = e.layer; whole = e.whole; changes = e.changes; fault = e.fault }))

pub returns-clause-changes : goal.returns-clause-changes
returns-clause-changes g c = rw (← c.self.view_is) (finish_at_layer c.self.inside.name c.finish_layer.ensures.changes)
