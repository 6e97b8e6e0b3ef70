use Rattle.backup_job.proofs.Going.{jobs-go-on}
use Rattle.backup_job.proofs.laws.jobs_go_on.Goals as goal

pub returns : goal.returns
returns c = jobs-go-on
