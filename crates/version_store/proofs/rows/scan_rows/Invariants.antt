use Rattle.std.proofs.Common.{◌≡◌, ◌++◌}
use Rattle.version_store.specs.Rows.{hits}
use Rattle.version_store.proofs.rows.scan_rows.Given as goal

abbrev pub invariant-loop-key : goal.invariant-loop-key
invariant-loop-key l = l.seen.items ++ hits l.t l.ranges l.key-iterator ≡ hits l.t l.ranges l.initial.key-iterator
