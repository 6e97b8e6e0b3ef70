use Rattle.std.proofs.Common.{◌∙◌, ap, ap₂, take}
use Rattle.span_export.specs.Lists.{merged}
use Rattle.span_export.proofs.Merges.{whole-after}
use Rattle.span_export.proofs.parts.whole_points_after.Goals as goal

pub returns : goal.returns
returns g c = λ h stood le. c.truncate.ensures.items ∙ (ap (take c.args.n) (c.in_ok-all.ensures ∙ ap₂ merged (c.in_ok-older.ensures h stood le) (c.in_ok-newer.ensures h stood le)) ∙ whole-after c.args.floor c.args.upto (h.facts c.args.table) c.args.place.now c.args.n)
