use Rattle.std.proofs.Common.{◌≡◌, ◌++◌, true, drop, map}
use Rattle.std.specs.List.{list_all}
use Rattle.table_descriptors.specs.Names.{is_name}
use Rattle.table_descriptors.specs.Descriptors.{renamed}
use Rattle.table_descriptors.specs.declared.columns.Column.{Column}
use Rattle.table_descriptors.proofs.changing.rename_columns.Given as goal

abbrev pub invariant-loop-column : goal.invariant-loop-column
invariant-loop-column l = record {
  made : l.made.items ++ map (renamed l.from l.to) (drop l.column-index l.columns) ≡ map (renamed l.from l.to) l.columns;
  named : list_all (λ (c : Column). is_name c.name) l.made.items ≡ true;
}
