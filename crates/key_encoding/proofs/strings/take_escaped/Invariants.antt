use Rattle.std.proofs.Common.{◌≡◌, ◌++◌, ◌≤◌, length, false}
use Rattle.key_encoding.specs.Reading.{unescaped, on_value}
use Rattle.key_encoding.proofs.strings.take_escaped.Given as goal

abbrev pub invariant-loop-byte : goal.invariant-loop-byte
invariant-loop-byte l = record {
  read : on_value (λ v. l.value.items ++ v) (unescaped l.down l.len false l.left) ≡ unescaped l.down l.len false l.b;
  shorter : length l.left ≤ l.len;
}

abbrev pub decreases-loop-byte : goal.decreases-loop-byte
decreases-loop-byte l = length l.left
