use Rattle.std.proofs.Common.{◌≡◌, Ok, arith, rules}
use Rattle.row_codec.proofs.ValueLaws.{bytes_by_index}
use Rattle.table_descriptors.specs.Descriptors.{Schema}
use Rattle.table_descriptors.specs.DescriptorFiles.{read_schema}
use Rattle.table_descriptors.proofs.DescriptorLaws.{schema-format}
use Rattle.table_descriptors.proofs.descriptor_files.take_descriptor.Goals as goal

pub invariant_of-d : goal.invariant_of-d
unfolding read_schema
invariant_of-d c =
    let d : Schema = record {
      id = c.in_ok-id.id;
      version = c.in_ok-version.version;
      database = c.in_ok-database.database;
      name = c.in_ok-name.name;
      state = c.in_ok-state.state;
      columns = c.in_ok-columns.columns.items;
      key_columns = c.in_ok-key_columns.key_columns.items;
      references = c.in_ok-references.references.items;
      next_column = c.in_ok-next_column.next_column;
      modified = c.in-Ok.read.0;
      down = c.in_ok-down.down.items;
    } in
    let read : read_schema c.args.b.now ≡ Ok (d, c.in-Ok.read.1.now) = search rules in
    (schema-format.only c.args.b.now d c.in-Ok.read.1.now (bytes_by_index c.args.b.now (λ i. omega (arith, c.type_inv.b i))) read).0
