use Rattle.std.proofs.Common.{◌≡◌, ◌++◌, drop}
use Rattle.fact_model.specs.Facts.{value}
use Rattle.version_store.specs.Tables.{bytes_cmp}
use Rattle.version_store.specs.Lists.{facts_of, of_table}
use Rattle.version_store.proofs.Walks.{keys_of, seen_of}
use Rattle.version_store.proofs.walk.scan_of.Given as goal

abbrev pub invariant-loop-put : goal.invariant-loop-put
invariant-loop-put l = l.seen.items ++ seen_of (λ k. value bytes_cmp k l.t (facts_of (of_table l.table l.facts))) (keys_of (drop l.put-index l.put-items)) ≡ seen_of (λ k. value bytes_cmp k l.t (facts_of (of_table l.table l.facts))) (keys_of l.put-items)
