use Rattle.std.proofs.Common.{◌≡◌, drop}
use Rattle.script_tokens.specs.Tokens.{number_from}
use Rattle.script_tokens.proofs.lexer.magnitude.Given as goal

abbrev pub invariant-loop-d : goal.invariant-loop-d
invariant-loop-d l = number_from l.n (drop l.d-index l.digits) ≡ number_from 0 l.digits
