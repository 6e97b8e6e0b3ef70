use Rattle.table_descriptors.specs.Descriptors.{Schema}
use Rattle.table_descriptors.specs.declared.descriptors.Descriptor.TheInside.{Inside}

abbrev pub view_of : Inside → Schema
view_of d = record {
  id = d.id;
  version = d.version;
  database = d.database;
  name = d.name;
  state = d.state;
  columns = d.columns.items;
  key_columns = d.key_columns.items;
  references = d.references.items;
  next_column = d.next_column;
  modified = d.modified;
  down = d.down.items;
}
