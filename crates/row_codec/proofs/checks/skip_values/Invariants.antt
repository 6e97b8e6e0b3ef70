use Rattle.std.proofs.Common.{◌≡◌, ℕ, drop}
use Rattle.row_codec.specs.KeyReading.{read_values}
use Rattle.row_codec.specs.KeyChecking.{values_left}
use Rattle.row_codec.proofs.checks.skip_values.Given as goal

abbrev pub invariant-loop-kind : goal.invariant-loop-kind
invariant-loop-kind l = (len : ℕ) → values_left (read_values (drop l.kind-index l.kinds) len l.left) ≡ values_left (read_values l.kinds len l.b)
