use Rattle.std.proofs.Common.{◌≡◌, ◌+◌, ◌++◌, drop}
use Rattle.key_rewriter.specs.Ids.{numbered}
use Rattle.key_rewriter.proofs.id_map.IdMap.new.Given as goal

abbrev pub invariant-loop-i : goal.invariant-loop-i
invariant-loop-i l = l.pairs.items ++ numbered (l.first + l.i) (drop l.i l.old) ≡ numbered l.first l.old
