use Rattle.std.proofs.Common.{◌≡◌, ◌++◌, ◌+◌, true, drop}
use Rattle.std.specs.List.{list_all}
use Rattle.table_descriptors.specs.Names.{is_name}
use Rattle.table_descriptors.specs.Descriptors.{numbered}
use Rattle.table_descriptors.specs.declared.columns.Column.{Column}
use Rattle.table_descriptors.proofs.descriptors.number_columns.Given as goal

abbrev pub invariant-loop-column : goal.invariant-loop-column
invariant-loop-column l = record {
  id : l.id ≡ l.column-index + 1;
  made : l.made.items ++ numbered l.id (drop l.column-index l.columns) ≡ numbered 1 l.columns;
  named : list_all (λ (c : Column). is_name c.name) l.made.items ≡ true;
}
