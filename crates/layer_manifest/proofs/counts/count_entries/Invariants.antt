use Rattle.std.proofs.Common.{◌≡◌, ◌≤◌, ◌*◌, ◌+◌, drop, sum_by}
use Rattle.layer_manifest.specs.Manifests.{chunk_entries}
use Rattle.layer_manifest.proofs.counts.count_entries.Given as goal

abbrev pub invariant-loop-chunk : goal.invariant-loop-chunk
invariant-loop-chunk l = (l.count + sum_by chunk_entries (drop l.chunk-index l.chunks) ≡ sum_by chunk_entries l.chunks) × (l.count ≤ l.chunk-index * 4294967295)
