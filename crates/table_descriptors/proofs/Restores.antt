-- A restored table is a proper one.
use Rattle.std.proofs.Common.{◌≡◌, ℕ, ◌<◌, ◌^◌, true, false, List, arith}
use Rattle.std.specs.List.{list_all}
use Rattle.mvcc_keys.specs.Times.{Time, IsTime}
use Rattle.table_descriptors.specs.Names.{is_name}
use Rattle.table_descriptors.specs.Fields.{is_id}
use Rattle.table_descriptors.specs.Descriptors.{Schema, repeats_id, IsProperSchema}
use Rattle.table_descriptors.specs.Restoring.{restored_schema}

pub restored-proper : (d : Schema) (id : ℕ) (database references : List ℕ) (at : Time) → IsProperSchema d → id < 2 ^ 32 → is_name database ≡ true → list_all is_id references ≡ true → repeats_id references ≡ false → IsTime at
    → IsProperSchema (restored_schema d id database references at)
unfolding restored_schema
restored-proper d id database references at h fits named ids once time = record {
  id = fits;
  from_one = omega arith;
  version = omega arith;
  database = named;
  name = h.name;
  columns = h.columns;
  key = h.key;
  key_columns = h.key_columns;
  differ = h.differ;
  references = ids;
  once = once;
  next = h.next;
  next_column = h.next_column;
  modified = time;
  down = h.down;
}
