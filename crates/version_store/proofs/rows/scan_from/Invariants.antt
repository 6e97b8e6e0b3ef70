use Rattle.std.proofs.Common.{◌≡◌, ◌++◌}
use Rattle.version_store.specs.Rows.{hits_past}
use Rattle.version_store.proofs.rows.scan_from.Given as goal

abbrev pub invariant-loop-key : goal.invariant-loop-key
invariant-loop-key l = l.seen.items ++ hits_past l.place l.t l.ranges l.key-iterator ≡ hits_past l.place l.t l.ranges l.initial.key-iterator
