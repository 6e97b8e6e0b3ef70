use Rattle.backup_job.proofs.Starts.{started_run}
use Rattle.backup_job.proofs.laws.started_jobs_run.Goals as goal

pub returns : goal.returns
returns c = started_run
