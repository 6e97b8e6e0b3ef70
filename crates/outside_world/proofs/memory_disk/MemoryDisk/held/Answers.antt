use Rattle.std.proofs.Common.{sym, ◌∙◌}
use Rattle.std.specs.FinMap.{entries-from_sorted}
use Rattle.std.specs.Cmp.Lexicographic.{slice_cmp}
use Rattle.std.specs.Ordering.{nat_cmp}
use Rattle.outside_world.proofs.memory_disk.MemoryDisk.held.Goals as goal

pub returns : goal.returns
returns c = c.as_slice.ensures.value ∙ sym (entries-from_sorted (slice_cmp nat_cmp) _ c.args.self.now.sorted)
