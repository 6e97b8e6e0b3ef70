use Rattle.std.proofs.Common.{◌≡◌, ◌++◌, ◌≤◌, drop, length, take}
use Rattle.table_descriptors.specs.Fields.{codes_of, list_code}
use Rattle.table_descriptors.specs.DescriptorFiles.{column_code}
use Rattle.table_descriptors.proofs.descriptor_files.put_columns.Given as goal

abbrev pub invariant-loop-column : goal.invariant-loop-column
invariant-loop-column l = record {
  written : l.out.items ++ codes_of column_code (drop l.column-index l.columns) ≡ l.fn.out.items ++ list_code column_code l.columns;
  kept : take (length l.fn.out.items) l.out.items ≡ l.fn.out.items;
  longer : length l.fn.out.items ≤ length l.out.items;
}
