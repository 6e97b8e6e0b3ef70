use Rattle.std.proofs.Common.{◌≡◌, ◌++◌, ◌∷◌, ◌≤◌, drop, take, length, map}
use Rattle.key_encoding.specs.Spelling.{turned, escaped}
use Rattle.key_encoding.proofs.strings.put_each.Given as goal

abbrev pub invariant-loop-byte : goal.invariant-loop-byte
invariant-loop-byte l = record {
  written : l.out.items ++ map (turned l.down) (escaped (drop l.byte-index l.b)) ≡ l.fn.out.items ++ l.marker ∷ map (turned l.down) (escaped l.b);
  kept : take (length l.fn.out.items) l.out.items ≡ l.fn.out.items;
  longer : length l.fn.out.items ≤ length l.out.items;
}
