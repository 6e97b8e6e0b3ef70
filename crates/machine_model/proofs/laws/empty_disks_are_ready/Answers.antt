use Rattle.machine_model.proofs.ReadyLaws.{empty-ready}
use Rattle.machine_model.proofs.laws.empty_disks_are_ready.Goals as goal

pub returns : goal.returns
returns g c = λ disk. empty-ready (g.D.Disk.view disk)
