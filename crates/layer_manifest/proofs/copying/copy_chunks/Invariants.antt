use Rattle.std.proofs.Common.{◌≡◌, ◌++◌, drop}
use Rattle.layer_manifest.proofs.copying.copy_chunks.Given as goal

abbrev pub invariant-loop-chunk : goal.invariant-loop-chunk
invariant-loop-chunk l = l.copies.items ++ drop l.chunk-index l.chunks ≡ l.chunks
