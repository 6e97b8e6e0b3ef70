use Rattle.machine_model.proofs.ReadyLaws.{complete-done}
use Rattle.machine_model.proofs.laws.complete_disks_are_done.Goals as goal

pub returns : goal.returns
returns g c = λ disk. complete-done (g.D.Disk.view disk)
