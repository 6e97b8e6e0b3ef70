-- A merge over the chunks that may hold a key that is asked for.
use Rattle.std.proofs.Common.{◌∙◌, ◌+◌, ℕ, ap, subst}
use Rattle.layer_merge.specs.declared.wanted.Wanted.{Wanted}
use Rattle.layer_merge.specs.FromLast.{from_last}
use Rattle.layer_merge.specs.Parts.{is_introduced}
use Rattle.layer_merge.specs.Steps.{times}
use Rattle.layer_merge.specs.Within.{AreAsked, keys_within, wanted_loads}
use Rattle.layer_merge.proofs.WithinLaws.{made-within, may-asked, new-wanted, rows-made_within}
use Rattle.layer_merge.proofs.OrderLaws.{loaded-new}
use Rattle.layer_merge.proofs.row_merge.RowMerge.within.Goals as goal

pub returns-in-Ok-over-clause-rows : goal.returns-in-Ok-over-clause-rows
returns-in-Ok-over-clause-rows c =
    let new = c.in-Ok-over.ensures in
    let asked = subst (λ (v : Wanted). AreAsked v (from_last is_introduced c.args.parts.now) c.in-Ok-over.walk.waiting) c.in-Ok.ensures new.asked in
    λ w p b. (
      made-within w (keys_within c.args.lo.now c.args.hi.now c.args.t) c.args.parts.now p c.in-Ok-over.walk asked new.stands new.ranges new.begun,
      rows-made_within w c.args.parts.now c.args.t c.args.lo.now c.args.hi.now c.in-Ok-over.walk.wanted c.in-Ok-over.walk.done p b (new.wanted ∙ c.in-Ok.ensures) new.last,
    )

pub returns-in-Ok-over-clause-loads : goal.returns-in-Ok-over-clause-loads
returns-in-Ok-over-clause-loads c =
    let new = c.in-Ok-over.ensures in
    let asked = subst (λ (v : Wanted). AreAsked v (from_last is_introduced c.args.parts.now) c.in-Ok-over.walk.waiting) c.in-Ok.ensures new.asked in
    λ x. may-asked (keys_within c.args.lo.now c.args.hi.now c.args.t) c.args.parts.now c.in-Ok-over.walk x asked new.stands new.begun ∙ ap (λ (n : ℕ). times x (wanted_loads n (keys_within c.args.lo.now c.args.hi.now c.args.t) c.args.parts.now) + times x (wanted_loads n (keys_within c.args.lo.now c.args.hi.now c.args.t) c.args.parts.now)) new.table

pub returns-in-Ok-over-clause-asks : goal.returns-in-Ok-over-clause-asks
returns-in-Ok-over-clause-asks c =
    let new = c.in-Ok-over.ensures in
    let asked = subst (λ (v : Wanted). AreAsked v (from_last is_introduced c.args.parts.now) c.in-Ok-over.walk.waiting) c.in-Ok.ensures new.asked in
    λ layer number h. new-wanted (keys_within c.args.lo.now c.args.hi.now c.args.t) c.args.parts.now c.in-Ok-over.walk asked new.stands new.begun layer number h

pub returns-in-Ok-over-clause-waits : goal.returns-in-Ok-over-clause-waits
returns-in-Ok-over-clause-waits c = subst (λ (v : Wanted). AreAsked v (from_last is_introduced c.args.parts.now) c.in-Ok-over.walk.waiting) c.in-Ok.ensures c.in-Ok-over.ensures.asked

pub returns-in-Ok-over-clause-made : goal.returns-in-Ok-over-clause-made
returns-in-Ok-over-clause-made c = loaded-new c.in-Ok-over.walk c.in-Ok-over.ensures.begun c.in-Ok-over.ensures.stands
