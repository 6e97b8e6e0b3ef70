use Rattle.std.proofs.Common.{◌≡◌, ◌++◌, drop, filter}
use Rattle.fact_model.specs.Scans.{image}
use Rattle.version_store.specs.Tables.{bytes_cmp, entries_of}
use Rattle.version_store.specs.Lists.{facts_of, of_table, stays}
use Rattle.version_store.proofs.walk.collected.Given as goal

abbrev pub invariant-loop-fact : goal.invariant-loop-fact
invariant-loop-fact l = l.held.items ++ filter (stays l.table l.g) (drop l.fact-index l.facts) ≡ entries_of (image bytes_cmp l.g (facts_of (of_table l.table l.facts))) ++ filter (stays l.table l.g) l.facts
