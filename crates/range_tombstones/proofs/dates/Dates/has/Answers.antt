use Rattle.std.proofs.Common.{◌≡◌, ◌∙◌, ap, sym, subst, List}
use Rattle.mvcc_keys.specs.Times.{Time}
use Rattle.range_tombstones.specs.Dates.{has_date, last_upto}
use Rattle.range_tombstones.proofs.DateLaws.{last-is, is-the}
use Rattle.range_tombstones.proofs.dates.Dates.has.Goals as goal

pub returns-in-Some : goal.returns-in-Some
returns-in-Some c =
    let is = subst (λ (ds : List Time). is-the c.args.t (last_upto c.args.t ds) ≡ has_date c.args.t ds) c.self.view_is (last-is c.args.t c.self.inside.list.items c.self.invariant) in
    c.eq.ensures ∙ (ap (is-the c.args.t) (sym c.in-Some.is ∙ c.last_upto.ensures) ∙ is)

pub returns-in-None : goal.returns-in-None
returns-in-None c =
    let is = subst (λ (ds : List Time). is-the c.args.t (last_upto c.args.t ds) ≡ has_date c.args.t ds) c.self.view_is (last-is c.args.t c.self.inside.list.items c.self.invariant) in
    ap (is-the c.args.t) (sym c.in-None.is ∙ c.last_upto.ensures) ∙ is
