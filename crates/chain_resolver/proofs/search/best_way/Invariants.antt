use Rattle.std.proofs.Common.{◌≡◌, ℕ, ◌-◌, ◌<◌, length, None, false}
use Rattle.chain_resolver.specs.Tasks.{route_of, AreRows, CanStart}
use Rattle.chain_resolver.proofs.search.best_way.Given as goal

abbrev pub invariant-rows : goal.invariant-rows
invariant-rows l = record {
  kept : AreRows (route_of l.task) l.layers l.rows.items;
  none : (j : ℕ) → j < length l.rows.items → CanStart (route_of l.task) l.layers None j ≡ false;
}

abbrev pub decreases-rows : goal.decreases-rows
decreases-rows l = length l.layers - length l.rows.items
