use Rattle.backup_run.proofs.Runs.{ran_nothing}
use Rattle.backup_run.proofs.top.run_script.Goals as goal

pub returns-clause-ran : goal.returns-clause-ran
returns-clause-ran g c = ran_nothing _ _ _ _ (g.met.D.Disk.only_now c.args.disk.now)
