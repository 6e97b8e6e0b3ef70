use Rattle.std.proofs.Common.{◌≡◌, ◌++◌, ◌≤◌, drop, length, take}
use Rattle.table_descriptors.specs.Fields.{codes_of, list_code}
use Rattle.layer_manifest.specs.ManifestFiles.{descriptor_code}
use Rattle.layer_manifest.proofs.writing.put_descriptors.Given as goal

abbrev pub invariant-loop-d : goal.invariant-loop-d
invariant-loop-d l = record {
  written : l.out.items ++ codes_of descriptor_code (drop l.d-index l.descriptors) ≡ l.fn.out.items ++ list_code descriptor_code l.descriptors;
  kept : take (length l.fn.out.items) l.out.items ≡ l.fn.out.items;
  longer : length l.fn.out.items ≤ length l.out.items;
}
