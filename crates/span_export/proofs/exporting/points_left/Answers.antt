use Rattle.std.proofs.Common.{◌∙◌, ap, sym, take, filter}
use Rattle.std.proofs.lemmas.Result.{IfOk-weaker}
use Rattle.version_store.specs.Tables.{entries_of, is_past}
use Rattle.span_export.specs.Plans.{plan_points}
use Rattle.span_export.proofs.Left.{no-points_left, points-left}
use Rattle.span_export.proofs.exporting.points_left.Goals as goal

pub returns-then-is_past_points : goal.returns-then-is_past_points
returns-then-is_past_points g c = λ h stood le. c.new.ensures.items ∙ no-points_left h c.args.table c.args.plan.now c.args.cursor.now c.args.n (sym c.is_past_points.ensures ∙ c.if-is_past_points.true)

pub returns : goal.returns
returns g c = IfOk-weaker c.points_after.result _ _ (λ v is h stood le. is h stood le ∙ (ap (λ place. entries_of (take c.args.n (filter (is_past place) (plan_points (h.facts c.args.table) c.args.plan.now)))) c.in_ok-place.ensures ∙ points-left h c.args.table c.args.plan.now c.args.cursor.now c.args.n (sym c.is_past_points.ensures ∙ c.if-is_past_points.false))) c.points_after.ensures
