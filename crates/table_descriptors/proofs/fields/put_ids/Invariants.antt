use Rattle.std.proofs.Common.{◌≡◌, ◌++◌, ◌≤◌, drop, length, take}
use Rattle.key_encoding.specs.Spelling.{uvarint}
use Rattle.table_descriptors.specs.Fields.{codes_of, list_code}
use Rattle.table_descriptors.proofs.fields.put_ids.Given as goal

abbrev pub invariant-loop-id : goal.invariant-loop-id
invariant-loop-id l = record {
  written : l.out.items ++ codes_of uvarint (drop l.id-index l.ids) ≡ l.fn.out.items ++ list_code uvarint l.ids;
  kept : take (length l.fn.out.items) l.out.items ≡ l.fn.out.items;
  longer : length l.fn.out.items ≤ length l.out.items;
}
