use Rattle.std.proofs.Common.{◌≡◌, ◌++◌, ◌≤◌, drop, length, take, nat_lt}
use Rattle.table_descriptors.specs.Fields.{codes_of, list_code}
use Rattle.table_descriptors.specs.DescriptorFiles.{key_code, directed}
use Rattle.table_descriptors.proofs.descriptor_files.put_keys.Given as goal

abbrev pub invariant-loop-id : goal.invariant-loop-id
invariant-loop-id l = record {
  written : l.out.items ++ codes_of (key_code (nat_lt 0 (length l.down))) (directed l.down (drop l.id-index l.ids)) ≡ l.fn.out.items ++ list_code (key_code (nat_lt 0 (length l.down))) (directed l.down l.ids);
  kept : take (length l.fn.out.items) l.out.items ≡ l.fn.out.items;
  longer : length l.fn.out.items ≤ length l.out.items;
}
