use Rattle.std.proofs.Common.{◌≡◌, map}
use Rattle.chain_resolver.specs.Reaching.{reach}
use Rattle.chain_resolver.proofs.reaching.last_row.Given as goal

abbrev pub invariant-loop-k : goal.invariant-loop-k
invariant-loop-k l = l.row ≡ map (reach l.layers l.k) l.layers
