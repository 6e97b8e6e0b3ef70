use Rattle.std.proofs.Common.{◌≡◌, drop}
use Rattle.outside_world.specs.Disk.{OnlyReads, Tells}
use Rattle.restore_rows.specs.Checks.{check_from, check_part, last_in}
use Rattle.restore_rows.proofs.ToldFaults.{HasBefore}
use Rattle.restore_rows.proofs.checking.check_chunks.Given as goal

abbrev pub invariant-loop-chunk : goal.invariant-loop-chunk
invariant-loop-chunk g l =
    OnlyReads (g.D.Disk.view l.fn.disk) (g.D.Disk.view l.disk)
    × ((g.D.Disk.view l.disk).faults ≡ (g.D.Disk.view l.fn.disk).faults)
    × (Tells (g.D.Disk.view l.fn.disk) → check_from l.part l.table l.kinds (g.D.Disk.view l.fn.disk).objects l.chunk (last_in l.last) (drop l.chunk l.part.chunks) ≡ check_part l.table l.kinds (g.D.Disk.view l.fn.disk).objects l.part)
    × HasBefore l.part l.table l.kinds l.chunk l.last
