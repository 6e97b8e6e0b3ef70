-- A table that a restore makes of an older one.
use Rattle.std.specs.Prelude.{ℕ, List}
use Rattle.mvcc_keys.specs.Times.{Time}
use Rattle.table_descriptors.specs.declared.columns.State.TheVariants.{Offline}
use Rattle.table_descriptors.specs.Descriptors.{Schema}

-- the same name, columns, key columns with their directions, and next column id, under a new id: Offline, of version 1
unfoldable pub restored_schema : Schema → ℕ → List ℕ → List ℕ → Time → Schema
restored_schema d id database references at = record {
  id = id;
  version = 1;
  database = database;
  name = d.name;
  state = Offline;
  columns = d.columns;
  key_columns = d.key_columns;
  references = references;
  next_column = d.next_column;
  modified = at;
  down = d.down;
}
