use Rattle.std.proofs.Common.{◌≡◌, ◌≤◌, length, option_map, drop}
use Rattle.fact_model.specs.Facts.{newest}
use Rattle.version_store.specs.Tables.{bytes_cmp}
use Rattle.version_store.specs.Lists.{fact_of, facts_of, of_table}
use Rattle.version_store.proofs.walk.newest_of.Given as goal

abbrev pub invariant-loop-left : goal.invariant-loop-left
invariant-loop-left l = (l.left ≤ length l.facts) × (option_map (λ e. fact_of e.now) l.best ≡ newest bytes_cmp l.key l.t (facts_of (of_table l.table (drop l.left l.facts))))

abbrev pub decreases-loop-left : goal.decreases-loop-left
decreases-loop-left l = l.left
