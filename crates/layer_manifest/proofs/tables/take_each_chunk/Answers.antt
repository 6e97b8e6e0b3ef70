use Rattle.std.proofs.Common.{◌≡◌, [], ◌++◌, ◌∷◌, length-append, arith, rules}
use Rattle.table_descriptors.specs.Fields.{read_items}
use Rattle.layer_manifest.specs.ManifestFiles.{read_chunk}
use Rattle.layer_manifest.proofs.Steps.{read_step}
use Rattle.layer_manifest.proofs.tables.take_each_chunk.Goals as goal

pub chunks-preserved : goal.chunks-preserved
chunks-preserved c =
    let chunks = c.chunks.chunks.items in
    let pushed : c.keep.new.items.items ≡ chunks ++ c.in_ok-chunk.chunk ∷ [] = search rules in
    record {
      read = read_step (λ before. read_chunk c.args.version c.args.table c.args.kinds.now) c.chunks.wanted chunks c.keep.new.items.items c.chunks.left.now c.in_ok-chunk.rest.now c.in_ok-chunk.chunk
          (read_items (λ before. read_chunk c.args.version c.args.table c.args.kinds.now) c.args.count [] c.args.b.now) (omega (arith, c.chunks-test.true)) (search rules) pushed c.chunks.invariant.read;
      all = rw pushed (omega (arith, length-append chunks (c.in_ok-chunk.chunk ∷ []), c.chunks.invariant.all, c.chunks-test.true));
    }
