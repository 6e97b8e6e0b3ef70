use Rattle.std.proofs.Common.{◌≡◌, ℕ, ◌+◌, List, ◌++◌, length, None}
use Rattle.chain_resolver.specs.Tasks.{route_of, StartsAt}
use Rattle.chain_resolver.specs.Steps.{Walks}
use Rattle.chain_resolver.proofs.search.walk.Given as goal

abbrev pub invariant-loop-left : goal.invariant-loop-left
invariant-loop-left l = record {
  number : length l.places.items + l.left ≡ length l.rows;
  starts : StartsAt (route_of l.task) l.layers l.before l.left;
  so_far : (rest : List ℕ) → length rest ≡ l.left → Walks (route_of l.task) l.layers l.before rest → Walks (route_of l.task) l.layers None (l.places.items ++ rest);
}

abbrev pub decreases-loop-left : goal.decreases-loop-left
decreases-loop-left l = l.left
