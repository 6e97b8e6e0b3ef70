use Rattle.std.proofs.Common.{rules}
use Rattle.outside_world.proofs.Kept.{settles_done}
use Rattle.outside_world.proofs.memory_disk.MemoryDiskDisk.sync.Goals as goal

pub returns-then-branch-clause-settles : goal.returns-then-branch-clause-settles
returns-then-branch-clause-settles c = settles_done _ _ _ _ _ _ _ _ _ _ _ c.settle.ensures.objects (search rules) (search rules) (search rules)
