use Rattle.std.proofs.Common.{drop}
use Rattle.std.specs.List.{AllByRecursion}
use Rattle.row_codec.specs.RowKeys.{IsValue}
use Rattle.table_rows.proofs.values.prove_values_fit.Given as goal

abbrev pub invariant-loop-x : goal.invariant-loop-x
invariant-loop-x l = AllByRecursion IsValue (drop l.x-index l.x-items) → AllByRecursion IsValue l.x-items
