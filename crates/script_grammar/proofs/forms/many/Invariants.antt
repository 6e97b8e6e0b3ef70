use Rattle.std.proofs.Common.{◌≡◌, ◌-◌, length}
use Rattle.script_grammar.specs.Grammar.{read_within, with_front}
use Rattle.script_grammar.proofs.forms.many.Given as goal

abbrev pub invariant-loop : goal.invariant-loop
invariant-loop g l = with_front l.found.items (read_within (length l.tokens - l.counter) g.P.Part.starts g.P.Part.reads l.rest) ≡ read_within (length l.tokens) g.P.Part.starts g.P.Part.reads l.tokens
