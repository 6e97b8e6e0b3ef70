use Rattle.std.proofs.Common.{◌≡◌, ◌≤◌, ◌*◌, ◌+◌, drop}
use Rattle.layer_manifest.specs.Manifests.{chunk_count, entry_count}
use Rattle.layer_manifest.proofs.counts.entry_count.Given as goal

abbrev pub invariant-loop-table : goal.invariant-loop-table
invariant-loop-table l = (l.count + entry_count (drop l.table-index l.tables) ≡ entry_count l.tables) × (l.count + chunk_count (drop l.table-index l.tables) * 4294967295 ≤ 4294967295000000)
