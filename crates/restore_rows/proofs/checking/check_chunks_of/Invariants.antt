use Rattle.std.proofs.Common.{◌≡◌, drop}
use Rattle.outside_world.specs.Disk.{OnlyReads, Tells}
use Rattle.restore_rows.specs.Checks.{check_parts}
use Rattle.restore_rows.proofs.checking.check_chunks_of.Given as goal

abbrev pub invariant-loop-part : goal.invariant-loop-part
invariant-loop-part g l =
    OnlyReads (g.D.Disk.view l.fn.disk) (g.D.Disk.view l.disk)
    × ((g.D.Disk.view l.disk).faults ≡ (g.D.Disk.view l.fn.disk).faults)
    × (Tells (g.D.Disk.view l.fn.disk) → check_parts l.table l.kinds (g.D.Disk.view l.fn.disk).objects (drop l.part-index l.parts) ≡ check_parts l.table l.kinds (g.D.Disk.view l.fn.disk).objects l.parts)
