use Rattle.std.proofs.Common.{◌≡◌, ◌++◌, length}
use Rattle.script_tokens.specs.Tokens.{hex_bytes}
use Rattle.script_tokens.proofs.quoted.hex_bytes.Given as goal

abbrev pub invariant-pairs : goal.invariant-pairs
invariant-pairs l = l.found.items ++ hex_bytes l.rest ≡ hex_bytes l.digits

abbrev pub decreases-pairs : goal.decreases-pairs
decreases-pairs l = length l.rest
