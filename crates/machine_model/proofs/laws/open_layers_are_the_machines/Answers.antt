use Rattle.machine_model.proofs.ReadyLaws.{open-kept}
use Rattle.machine_model.proofs.laws.open_layers_are_the_machines.Goals as goal

pub returns : goal.returns
returns g c = λ disk. open-kept (g.D.Disk.view disk)
