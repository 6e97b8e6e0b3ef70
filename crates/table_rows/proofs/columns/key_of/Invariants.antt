use Rattle.std.proofs.Common.{◌≡◌, ◌++◌, drop, map}
use Rattle.history_model.specs.Rows.{or_null, value_in}
use Rattle.table_rows.proofs.columns.key_of.Given as goal

abbrev pub invariant-loop-id : goal.invariant-loop-id
invariant-loop-id l = l.key.items ++ map (λ id. or_null (value_in l.columns l.values id)) (drop l.id-index l.id-items) ≡ map (λ id. or_null (value_in l.columns l.values id)) l.id-items
