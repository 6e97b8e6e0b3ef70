use Rattle.std.proofs.Common.{◌≡◌, drop}
use Rattle.key_rewriter.specs.Ids.{ascends_from}
use Rattle.key_rewriter.proofs.id_map.are_ascending.Given as goal

abbrev pub invariant-loop-id : goal.invariant-loop-id
invariant-loop-id l = ascends_from l.least (drop l.id-index l.ids) ≡ ascends_from 0 l.ids
