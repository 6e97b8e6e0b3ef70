use Rattle.std.proofs.Common.{◌≡◌, ◌++◌, ◌≤◌, drop, length, take}
use Rattle.table_descriptors.specs.Fields.{codes_of, list_code}
use Rattle.layer_manifest.specs.ManifestFiles.{chunk_code}
use Rattle.layer_manifest.proofs.writing.put_chunks.Given as goal

abbrev pub invariant-loop-chunk : goal.invariant-loop-chunk
invariant-loop-chunk l = record {
  written : l.out.items ++ codes_of chunk_code (drop l.chunk-index l.chunks) ≡ l.fn.out.items ++ list_code chunk_code l.chunks;
  kept : take (length l.fn.out.items) l.out.items ≡ l.fn.out.items;
  longer : length l.fn.out.items ≤ length l.out.items;
}
