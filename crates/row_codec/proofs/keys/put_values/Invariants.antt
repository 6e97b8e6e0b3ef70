use Rattle.std.proofs.Common.{◌≡◌, ◌++◌, ◌≤◌, length, take}
use Rattle.row_codec.specs.RowKeys.{values_code}
use Rattle.row_codec.proofs.keys.put_values.Given as goal

abbrev pub invariant-values : goal.invariant-values
invariant-values l = record {
  written : l.out.items ++ values_code l.kinds_left l.left ≡ l.fn.out.items ++ values_code l.kinds l.values;
  kept : take (length l.fn.out.items) l.out.items ≡ l.fn.out.items;
  longer : length l.fn.out.items ≤ length l.out.items;
}

abbrev pub decreases-values : goal.decreases-values
decreases-values l = length l.left
