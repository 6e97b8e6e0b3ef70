use Rattle.std.proofs.Common.{◌≡◌, ◌≤◌, ℕ, [], length, false}
use Rattle.key_encoding.specs.Reading.{unescaped}
use Rattle.row_codec.specs.KeyChecking.{IsPart, held_bytes, text_after}
use Rattle.row_codec.proofs.checks.skip_escaped_text.Given as goal

abbrev pub invariant-loop-byte : goal.invariant-loop-byte
invariant-loop-byte l = record {
  read : (len : ℕ) → text_after (held_bytes l.held) (unescaped l.down len false l.left) ≡ text_after [] (unescaped l.down len false l.b);
  part : IsPart l.held;
  shorter : length l.left ≤ length l.b;
}

abbrev pub decreases-loop-byte : goal.decreases-loop-byte
decreases-loop-byte l = length l.left
