use Rattle.std.proofs.Common.{◌≡◌, ◌≤◌, ℕ, length, false}
use Rattle.key_encoding.specs.Reading.{unescaped}
use Rattle.row_codec.specs.KeyChecking.{left_after}
use Rattle.row_codec.proofs.checks.skip_escaped.Given as goal

abbrev pub invariant-loop-rest : goal.invariant-loop-rest
invariant-loop-rest l = record {
  read : (len : ℕ) → left_after (unescaped l.down len false l.left) ≡ left_after (unescaped l.down len false l.b);
  shorter : length l.left ≤ length l.b;
}

abbrev pub decreases-loop-rest : goal.decreases-loop-rest
decreases-loop-rest l = length l.left
