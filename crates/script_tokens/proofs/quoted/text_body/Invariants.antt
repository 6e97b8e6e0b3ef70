use Rattle.std.proofs.Common.{◌≡◌, ◌≤◌, ◌-◌, length}
use Rattle.script_tokens.specs.Tokens.{text_body}
use Rattle.script_tokens.proofs.Lexing.{found_then}
use Rattle.script_tokens.proofs.quoted.text_body.Given as goal

abbrev pub invariant-all : goal.invariant-all
invariant-all l = (length l.rest ≤ length l.bytes) × (l.len ≡ length l.bytes - length l.rest) × (found_then l.found.items l.len (text_body l.rest) ≡ text_body l.bytes)

abbrev pub decreases-all : goal.decreases-all
decreases-all l = length l.rest
