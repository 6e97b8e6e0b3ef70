use Rattle.std.proofs.Common.{rules, ◌∙◌, ap, map}
use Rattle.std.specs.List.{dedup}
use Rattle.std.proofs.lemmas.Fn.{dedup_same}
use Rattle.range_tombstones.specs.Pieces.{dated_after, same_dates}
use Rattle.range_tombstones.proofs.Lists.{written}
use Rattle.range_tombstones.proofs.changes.collect.Goals as goal

pub returns : goal.returns
returns c =
    let kept = dedup_same _ same_dates _ (λ x y b f' x' y' k. search rules) _ _ c.dedup_by.ensures.filtered in
    kept ∙ ap (dedup same_dates) (written c.args.pieces.now.len c.keep_after.new.pieces c.args.pieces.now.items (c.keep_after.auto.pieces ∙ c.as_mut_slice.ensures.len) ∙ (c.keep_after.ensures ∙ ap (map (dated_after c.args.g)) c.as_mut_slice.ensures.value))
