use Rattle.std.proofs.Common.{◌≡◌, ◌++◌, map, take, drop}
use Rattle.collection_dir.specs.Versions.{first_chunk}
use Rattle.collection_dir.proofs.versions.drop_chunk_bounds.Given as goal

abbrev pub invariant-loop-chunk : goal.invariant-loop-chunk
invariant-loop-chunk l = l.chunks ≡ map first_chunk (take l.chunk-index l.initial.chunks) ++ drop l.chunk-index l.initial.chunks
