use Rattle.std.proofs.Common.{◌≡◌, drop, nat_eq}
use Rattle.std.specs.Map.{lookup}
use Rattle.key_rewriter.proofs.id_map.partner_among.Given as goal

abbrev pub invariant-loop-pair : goal.invariant-loop-pair
invariant-loop-pair l = lookup (nat_eq l.id) (drop l.pair-index l.pairs) ≡ lookup (nat_eq l.id) l.pairs
