use Rattle.std.proofs.Common.{◌≡◌, map, take}
use Rattle.chain_resolver.specs.Reaching.{reach}
use Rattle.chain_resolver.proofs.reaching.no_row.Given as goal

abbrev pub invariant-loop-layer : goal.invariant-loop-layer
invariant-loop-layer l = l.marks.items ≡ map (reach l.layers 0) (take l._layer-index l.layers)
