use Rattle.std.proofs.Common.{◌∙◌, ◌≤◌, ◌<◌, ℕ, ap, ap₂, sym, subst, List, insert, length}
use Rattle.std.specs.List.{remove}
use Rattle.range_tombstones.specs.declared.deletion.RangeDeletion.{RangeDeletion}
use Rattle.range_tombstones.specs.Ranges.{range}
use Rattle.range_tombstones.proofs.Lists.{taken}
use Rattle.range_tombstones.proofs.OriginalLaws.{inserted-within, put-range, remove-inserted}
use Rattle.range_tombstones.proofs.deletion.add.Goals as goal

pub returns-clause-ok : goal.returns-clause-ok
returns-clause-ok c = put-range (range c.args.lo.now c.args.hi.now c.args.t) c.args.ranges.now.items c.as_slice.result.now c.insert.new.self.items c.count_before-place.result c.requires.new_date c.as_slice.ensures.value c.count_before-place.ensures.front c.count_before-place.ensures.back (taken _ _ _ _ _ c.if-refused.false c.is_err-refused.ensures.negation c.insert.ensures.items ∙ ap₂ (λ (lo hi : List ℕ). insert c.args.ranges.now.items c.count_before-place.result (range lo hi c.args.t)) c.in_ok-copy_of.ensures c.in_ok-copy_of-2.ensures)

pub returns-clause-place : goal.returns-clause-place
returns-clause-place c =
    let within : c.count_before-place.result ≤ length c.args.ranges.now.items = subst (λ (rs : List RangeDeletion). c.count_before-place.result ≤ length rs) c.as_slice.ensures.value c.count_before-place.ensures.bound in
    subst (λ (rs : List RangeDeletion). c.count_before-place.result < length rs) (sym (taken _ _ _ _ _ c.if-refused.false c.is_err-refused.ensures.negation c.insert.ensures.items)) (inserted-within c.args.ranges.now.items c.count_before-place.result _ within)

pub returns-clause-back : goal.returns-clause-back
returns-clause-back c =
    let within : c.count_before-place.result ≤ length c.args.ranges.now.items = subst (λ (rs : List RangeDeletion). c.count_before-place.result ≤ length rs) c.as_slice.ensures.value c.count_before-place.ensures.bound in
    ap (λ (rs : List RangeDeletion). remove rs c.count_before-place.result) (taken _ _ _ _ _ c.if-refused.false c.is_err-refused.ensures.negation c.insert.ensures.items) ∙ remove-inserted c.args.ranges.now.items c.count_before-place.result _ within
