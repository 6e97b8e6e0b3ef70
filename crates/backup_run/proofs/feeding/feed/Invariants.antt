use Rattle.std.proofs.Common.{◌≡◌, ◌+◌, take}
use Rattle.backup_run.specs.Run.{Fed}
use Rattle.backup_run.proofs.feeding.feed.Given as goal

abbrev pub invariant-loop-byte : goal.invariant-loop-byte
invariant-loop-byte g l =
    Fed (g.K.Sink.held l.fn.sink) (g.K.Sink.held l.sink) (g.D.Disk.view l.fn.disk) (g.D.Disk.view l.disk) l.fn.session l.session (take l.byte-index l.piece)
    × (l.session.room + l.byte-index ≡ l.fn.session.room) × (g.K.Sink.faults l.sink ≡ g.K.Sink.faults l.fn.sink) × ((g.D.Disk.view l.disk).faults ≡ (g.D.Disk.view l.fn.disk).faults)
