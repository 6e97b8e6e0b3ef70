use Rattle.std.proofs.Common.{◌≡◌, ◌++◌, ◌≤◌, drop, length, take}
use Rattle.table_descriptors.specs.Fields.{codes_of, list_code}
use Rattle.layer_manifest.specs.ManifestFiles.{table_code}
use Rattle.layer_manifest.proofs.writing.put_tables.Given as goal

abbrev pub invariant-loop-table : goal.invariant-loop-table
invariant-loop-table l = record {
  written : l.out.items ++ codes_of table_code (drop l.table-index l.tables) ≡ l.fn.out.items ++ list_code table_code l.tables;
  kept : take (length l.fn.out.items) l.out.items ≡ l.fn.out.items;
  longer : length l.fn.out.items ≤ length l.out.items;
}
