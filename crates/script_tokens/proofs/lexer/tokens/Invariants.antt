use Rattle.std.proofs.Common.{◌≡◌, ◌≤◌, ◌-◌, ◌+◌, ◌++◌, map, length}
use Rattle.script_tokens.specs.Tokens.{tokens, places, pieces_after}
use Rattle.script_tokens.proofs.lexer.tokens.Given as goal

abbrev pub invariant-all : goal.invariant-all
invariant-all l = (length l.rest ≤ length l.line)
    × (l.found.items ++ map (λ p. p.token) (pieces_after 0 (1 + (length l.line - length l.rest)) l.rest) ≡ tokens l.line)
    × (l.places.items ++ map (λ p. p.place) (pieces_after 0 (1 + (length l.line - length l.rest)) l.rest) ≡ places l.line)

abbrev pub decreases-all : goal.decreases-all
decreases-all l = length l.rest
