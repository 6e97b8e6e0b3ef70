use Rattle.std.proofs.Common.{◌≡◌, drop}
use Rattle.row_codec.specs.KeyReading.{read_values, with_all}
use Rattle.row_codec.proofs.keys.take_values.Given as goal

abbrev pub invariant-loop-kind : goal.invariant-loop-kind
invariant-loop-kind l = with_all l.values.items (read_values (drop l.kind-index l.kinds) l.len l.left) ≡ read_values l.kinds l.len l.b
