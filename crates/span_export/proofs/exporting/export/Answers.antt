use Rattle.std.proofs.Common.{◌∙◌}
use Rattle.span_export.proofs.Left.{parts-left}
use Rattle.span_export.proofs.exporting.export.Goals as goal

pub returns-clause-piece : goal.returns-clause-piece
returns-clause-piece g c = λ h stood le. c.truncate.ensures.items ∙ (c.in_ok-entries.ensures h stood le ∙ parts-left h c.args.table c.args.plan.now c.args.cursor.now c.args.n c.in_ok-points.points.items (c.in_ok-points.ensures h stood le))
