use Rattle.std.proofs.Common.{◌≡◌, ◌<◌, length}
use Rattle.backup_run.specs.Run.{Running}
use Rattle.backup_run.proofs.top.run_session.Given as goal

abbrev pub invariant-pieces : goal.invariant-pieces
invariant-pieces g l =
    Running (g.S.Source.left l.fn.source) (g.S.Source.left l.source) (g.K.Sink.held l.fn.sink) (g.K.Sink.held l.sink) (g.D.Disk.view l.fn.disk) (g.D.Disk.view l.disk) l.fn.session l.session
    × (g.S.Source.faults l.source ≡ g.S.Source.faults l.fn.source) × (g.K.Sink.faults l.sink ≡ g.K.Sink.faults l.fn.sink) × ((g.D.Disk.view l.disk).faults ≡ (g.D.Disk.view l.fn.disk).faults)
    × (0 < length l.room)

abbrev pub decreases-pieces : goal.decreases-pieces
decreases-pieces g l = l.session.room
