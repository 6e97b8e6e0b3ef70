use Rattle.std.proofs.Common.{◌≡◌, ◌-◌, ℕ, List}
use Rattle.version_store.specs.Tables.{Tables}
use Rattle.outside_world.specs.Moments.{ChangesOnly, NoName}
use Rattle.layer_model.specs.Layers.{LayerObjects}
use Rattle.layer_model.specs.Stands.{Setting}
use Rattle.backup_job.specs.Jobs.{MayRun, completed, written}
use Rattle.backup_job.specs.Units.{AtLayer}
use Rattle.backup_job.specs.Whole.{IsAmong, IsUnderWay, IsWriting}
use Rattle.backup_job.proofs.job.BackupJob.run_to_end.Given as goal

abbrev pub invariant-units : goal.invariant-units
invariant-units g l =
    ((h : Tables) × g.V.Versions.stands l.store h × MayRun h l.self)
    × ((h : Tables) → g.V.Versions.stands l.store h → (older : LayerObjects → List ℕ) (s : Setting) (w : LayerObjects) → IsAmong s w → IsWriting older s w h l.fn.self (g.D.Disk.view l.fn.disk)
    → IsUnderWay older s w h l.fn.self l.self (g.D.Disk.view l.fn.disk) (g.D.Disk.view l.disk))
    × (l.self.name ≡ l.fn.self.name)
    × ChangesOnly (AtLayer l.fn.self.name) NoName (g.D.Disk.view l.fn.disk) (g.D.Disk.view l.disk)
    × ((g.D.Disk.view l.disk).faults ≡ (g.D.Disk.view l.fn.disk).faults)
    × ((h : Tables) → g.V.Versions.stands l.store h → MayRun h l.fn.self → MayRun h l.self × (completed h l.self ≡ completed h l.fn.self))

abbrev pub decreases-units : goal.decreases-units
decreases-units g l = 1000001 - written l.self
