use Rattle.std.proofs.Common.{◌≡◌, ◌+◌, drop}
use Rattle.layer_manifest.specs.Manifests.{chunk_count}
use Rattle.layer_manifest.proofs.counts.chunk_count.Given as goal

abbrev pub invariant-loop-table : goal.invariant-loop-table
invariant-loop-table l = l.count + chunk_count (drop l.table-index l.tables) ≡ chunk_count l.tables
