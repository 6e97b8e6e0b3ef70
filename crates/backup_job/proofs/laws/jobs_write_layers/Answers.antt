use Rattle.backup_job.proofs.Going.{jobs-write}
use Rattle.backup_job.proofs.laws.jobs_write_layers.Goals as goal

pub returns : goal.returns
returns c = jobs-write
