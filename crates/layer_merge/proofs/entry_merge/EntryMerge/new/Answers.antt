-- A merge over the entries of the parts that count.
use Rattle.std.proofs.Common.{◌∙◌, ap, refl}
use Rattle.layer_merge.specs.declared.wanted.Wanted.{Wanted}
use Rattle.layer_merge.proofs.EntryLaws.{merge-made}
use Rattle.layer_merge.proofs.NewMerges.{made}
use Rattle.layer_merge.proofs.WithinLaws.{asked-whole, new-wanted, wanted-counted}
use Rattle.layer_merge.proofs.OrderLaws.{loaded-new}
use Rattle.layer_merge.proofs.entry_merge.EntryMerge.new.Goals as goal

pub returns-in-Ok-clause-entries : goal.returns-in-Ok-clause-entries
returns-in-Ok-clause-entries c =
    let new = c.in-Ok.ensures in
    let v = c.wanted_from-wanted.ensures in
    λ w p. (
      made w c.args.parts.now _ c.in-Ok.walk refl (asked-whole c.wanted_from-wanted.result _ _ v.lo v.hi new.asked) new.stands new.ranges new.begun p,
      merge-made w c.args.parts.now c.args.from c.args.to c.in-Ok.walk _ (ap (λ (x : Wanted). x.lo) new.wanted ∙ v.lo) (ap (λ (x : Wanted). x.hi) new.wanted ∙ v.hi) (ap (λ (x : Wanted). x.after) new.wanted ∙ v.after ∙ c.first_date.ensures) (ap (λ (x : Wanted). x.upto) new.wanted ∙ v.upto) new.last,
    )

pub returns-in-Ok-clause-asks : goal.returns-in-Ok-clause-asks
returns-in-Ok-clause-asks c = let new = c.in-Ok.ensures in λ layer number h. wanted-counted c.wanted_from-wanted.result c.args.parts.now layer number (new-wanted c.wanted_from-wanted.result c.args.parts.now c.in-Ok.walk new.asked new.stands new.begun layer number h)

pub returns-in-Ok-clause-waits : goal.returns-in-Ok-clause-waits
returns-in-Ok-clause-waits c = let v = c.wanted_from-wanted.ensures in asked-whole c.wanted_from-wanted.result _ _ v.lo v.hi c.in-Ok.ensures.asked

pub returns-in-Ok-clause-made : goal.returns-in-Ok-clause-made
returns-in-Ok-clause-made c = loaded-new c.in-Ok.walk c.in-Ok.ensures.begun c.in-Ok.ensures.stands
