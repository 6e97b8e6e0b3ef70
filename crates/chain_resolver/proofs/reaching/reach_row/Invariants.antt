use Rattle.std.proofs.Common.{◌≡◌, map, take}
use Rattle.chain_resolver.specs.Reaching.{reach_on}
use Rattle.chain_resolver.proofs.reaching.reach_row.Given as goal

abbrev pub invariant-loop-layer : goal.invariant-loop-layer
invariant-loop-layer l = l.marks.items ≡ map (reach_on l.layers l.row) (take l.layer-index l.layers)
