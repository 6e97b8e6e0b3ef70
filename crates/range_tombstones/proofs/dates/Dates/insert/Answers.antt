use Rattle.std.proofs.Common.{◌≡◌, ◌∙◌, ap, sym, subst, List}
use Rattle.mvcc_keys.specs.Times.{Time, time_lt}
use Rattle.range_tombstones.specs.Dates.{Ascends, has_date, with_date}
use Rattle.range_tombstones.proofs.DateLaws.{with-there, put-date, ascends-with}
use Rattle.range_tombstones.proofs.Lists.{taken}
use Rattle.range_tombstones.proofs.dates.Dates.insert.Goals as goal

pub returns-then-has-clause-ok : goal.returns-then-has-clause-ok
returns-then-has-clause-ok c = rw (← c.self.view_is) (sym (with-there c.args.t c.self.inside.list.items c.self.invariant (ap (has_date c.args.t) c.self.view_is ∙ (sym c.has.ensures ∙ c.if-has.true))))

put : (c : goal.Else-refused) → c.insert.new.self.items ≡ with_date c.args.t c.self.inside.list.items
put c = put-date c.args.t c.self.inside.list.items c.as_slice.result.now c.insert.new.self.items c.count_upto-place.result c.as_slice.ensures.value c.count_upto-place.ensures.front c.count_upto-place.ensures.back (ap (has_date c.args.t) c.self.view_is ∙ (sym c.has.ensures ∙ c.if-has.false)) (taken _ _ _ _ _ c.if-refused.false c.is_err-refused.ensures.negation c.insert.ensures.items)

pub invariant_of-self-2 : goal.invariant_of-self-2
invariant_of-self-2 c = subst (λ (ds : List Time). Ascends time_lt ds) (sym (put c)) (ascends-with c.args.t c.self.inside.list.items c.self.invariant)

pub returns-clause-ok : goal.returns-clause-ok
returns-clause-ok c = rw (← c.self.view_is) (put c)
