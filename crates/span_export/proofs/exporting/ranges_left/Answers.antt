use Rattle.std.proofs.Common.{rules, ◌≡◌, ◌∙◌, ap, filter}
use Rattle.std.proofs.lemmas.Fn.{filter_same}
use Rattle.span_export.specs.Pieces.{after_place, is_left}
use Rattle.span_export.proofs.exporting.ranges_left.Goals as goal

pub returns : goal.returns
returns g c =
    let kept : c.retain.new.self.items ≡ filter (is_left c.args.cursor.now) c.in_ok-ranges.ranges.items = filter_same _ _ _ (λ x b f' k. search rules) _ _ c.retain.ensures.filtered in
    λ h stood le. kept ∙ ap (after_place c.args.cursor.now) (c.in_ok-ranges.ensures h stood le)
