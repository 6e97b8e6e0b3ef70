use Rattle.std.proofs.Common.{◌∙◌, ap, slice_set, sym}
use Rattle.std.proofs.lemmas.List.Edits.{map_over_more}
use Rattle.layer_manifest.specs.declared.manifest.ChunkInfo.{ChunkInfo}
use Rattle.collection_dir.specs.Versions.{first_chunk}
use Rattle.collection_dir.proofs.versions.drop_chunk_bounds.Goals as goal

pub loop-chunk-preserved : goal.loop-chunk-preserved
loop-chunk-preserved c = ap (λ (x : ChunkInfo). slice_set c.loop-chunk.chunks c.loop-chunk.chunk-index x) c.drop_bounds.ensures ∙ ap (λ (x : ChunkInfo). slice_set c.loop-chunk.chunks c.loop-chunk.chunk-index (first_chunk x)) (sym c.chunk-item.is) ∙ map_over_more first_chunk c.args.chunks.now c.loop-chunk.chunks c.loop-chunk.chunk-index c.chunk-item.result c.loop-chunk-test.true c.loop-chunk.invariant c.chunk-item.is
