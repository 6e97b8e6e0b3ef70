use Rattle.std.proofs.Common.{rules, sym, subst, List, cond, true, false}
use Rattle.std.proofs.lemmas.Fn.{filter_same}
use Rattle.mvcc_keys.specs.Times.{Time, time_lt, time_eq}
use Rattle.range_tombstones.specs.Dates.{Ascends}
use Rattle.range_tombstones.proofs.Lists.{ascends-filter}
use Rattle.range_tombstones.proofs.dates.Dates.remove.Goals as goal

pub invariant_of-self : goal.invariant_of-self
invariant_of-self c =
    let e = filter_same _ (λ (d : Time). cond (time_eq d c.args.t) false true) _ (λ x b f' k. search rules) _ _ c.retain.ensures.filtered in
    subst (λ (ds : List Time). Ascends time_lt ds) (sym e) (ascends-filter time_lt (λ d. cond (time_eq d c.args.t) false true) c.self.inside.list.items c.self.invariant)

pub returns : goal.returns
returns c =
    let e = filter_same _ (λ (d : Time). cond (time_eq d c.args.t) false true) _ (λ x b f' k. search rules) _ _ c.retain.ensures.filtered in
    rw (← c.self.view_is) e
