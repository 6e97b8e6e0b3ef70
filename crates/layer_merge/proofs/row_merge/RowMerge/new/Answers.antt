-- A merge over the entries of the parts that count.
use Rattle.std.proofs.Common.{◌∙◌, ap, refl}
use Rattle.layer_merge.specs.declared.wanted.Wanted.{Wanted}
use Rattle.layer_merge.proofs.NewMerges.{made, rows-made}
use Rattle.layer_merge.proofs.WithinLaws.{asked-whole, new-wanted, wanted-counted}
use Rattle.layer_merge.proofs.OrderLaws.{loaded-new}
use Rattle.layer_merge.proofs.row_merge.RowMerge.new.Goals as goal

pub returns-in-Ok-clause-rows : goal.returns-in-Ok-clause-rows
returns-in-Ok-clause-rows c =
    let new = c.in-Ok.ensures in
    let v = c.wanted_from.ensures in
    λ w p. (
      made w c.args.parts.now _ c.in-Ok.walk refl (asked-whole c.wanted_from.result _ _ v.lo v.hi new.asked) new.stands new.ranges new.begun p,
      rows-made w c.args.parts.now c.in-Ok.walk.wanted c.in-Ok.walk.done c.args.t (ap (λ (x : Wanted). x.lo) new.wanted ∙ v.lo) (ap (λ (x : Wanted). x.hi) new.wanted ∙ v.hi) (ap (λ (x : Wanted). x.upto) new.wanted ∙ v.upto) new.last,
    )

pub returns-in-Ok-clause-asks : goal.returns-in-Ok-clause-asks
returns-in-Ok-clause-asks c = let new = c.in-Ok.ensures in λ layer number h. wanted-counted c.wanted_from.result c.args.parts.now layer number (new-wanted c.wanted_from.result c.args.parts.now c.in-Ok.walk new.asked new.stands new.begun layer number h)

pub returns-in-Ok-clause-waits : goal.returns-in-Ok-clause-waits
returns-in-Ok-clause-waits c = let v = c.wanted_from.ensures in asked-whole c.wanted_from.result _ _ v.lo v.hi c.in-Ok.ensures.asked

pub returns-in-Ok-clause-made : goal.returns-in-Ok-clause-made
returns-in-Ok-clause-made c = loaded-new c.in-Ok.walk c.in-Ok.ensures.begun c.in-Ok.ensures.stands
