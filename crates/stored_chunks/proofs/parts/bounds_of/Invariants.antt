use Rattle.std.proofs.Common.{◌≡◌, map, take}
use Rattle.layer_manifest.specs.declared.manifest.ChunkInfo.{ChunkInfo}
use Rattle.stored_chunks.proofs.parts.bounds_of.Given as goal

abbrev pub invariant-loop-info : goal.invariant-loop-info
invariant-loop-info l = l.all.items ≡ map (λ (info : ChunkInfo). info.bounds) (take l.info-index l.chunks)
