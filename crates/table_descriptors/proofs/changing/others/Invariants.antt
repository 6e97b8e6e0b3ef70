use Rattle.std.proofs.Common.{◌≡◌, ◌++◌, true, drop}
use Rattle.std.specs.Prelude.{not, filter}
use Rattle.std.specs.Str.{bytes_eq}
use Rattle.std.specs.List.{list_all}
use Rattle.table_descriptors.specs.Names.{is_name}
use Rattle.table_descriptors.specs.declared.columns.Column.{Column}
use Rattle.table_descriptors.proofs.changing.others.Given as goal

abbrev pub invariant-loop-column : goal.invariant-loop-column
invariant-loop-column l = record {
  made : l.made.items ++ filter (λ (c : Column). not (bytes_eq c.name l.name)) (drop l.column-index l.columns) ≡ filter (λ (c : Column). not (bytes_eq c.name l.name)) l.columns;
  named : list_all (λ (c : Column). is_name c.name) l.made.items ≡ true;
}
