use Rattle.std.proofs.Common.{rules, ◌∙◌, sym}
use Rattle.row_codec.proofs.CharSteps.{whole_step, last_step}
use Rattle.row_codec.proofs.checks.with_byte.Goals as goal

pub returns-then-is_text-clause-value : goal.returns-then-is_text-clause-value
returns-then-is_text-clause-value c = λ read. whole_step c.args.held c.args.byte read c.requires (search rules) (sym c.is_text.ensures ∙ c.if-is_text.true)

pub returns-then-count-eq4-clause-value : goal.returns-then-count-eq4-clause-value
returns-then-count-eq4-clause-value c = λ read. last_step c.args.held c.args.byte read c.requires (search rules) (sym c.is_text.ensures ∙ c.if-is_text.false) c.if-count-eq4.true
