use Rattle.std.proofs.Common.{◌∙◌, sym}
use Rattle.span_export.specs.Lists.{comes_before}
use Rattle.span_export.proofs.Merges.{fewer-left, front-more, front-none, rest-all, rest-more}
use Rattle.span_export.proofs.merging.move_before.Goals as goal

pub loop-merged-smaller : goal.loop-merged-smaller
loop-merged-smaller c = fewer-left (comes_before c.args.entry.now) c.loop-merged.newer.items c.move_first.new.newer.items (sym c.is_first_before.ensures ∙ c.loop-merged-test.true) c.in_ok-move_first.ensures.left

pub loop-merged-preserved : goal.loop-merged-preserved
loop-merged-preserved c = (front-more (comes_before c.args.entry.now) c.loop-merged.merged.items c.move_first.new.merged.items c.loop-merged.newer.items c.move_first.new.newer.items _ (sym c.is_first_before.ensures ∙ c.loop-merged-test.true) c.in_ok-move_first.ensures.moved c.in_ok-move_first.ensures.left c.loop-merged.invariant.0, rest-more (comes_before c.args.entry.now) c.loop-merged.newer.items c.move_first.new.newer.items _ (sym c.is_first_before.ensures ∙ c.loop-merged-test.true) c.in_ok-move_first.ensures.left c.loop-merged.invariant.1)

pub returns-clause-moved : goal.returns-clause-moved
returns-clause-moved c = front-none (comes_before c.args.entry.now) c.loop-merged.newer.items c.loop-merged.merged.items _ (sym c.is_first_before.ensures ∙ c.loop-merged-test.false) c.loop-merged.invariant.0

pub returns-clause-left : goal.returns-clause-left
returns-clause-left c = sym (rest-all (comes_before c.args.entry.now) c.loop-merged.newer.items (sym c.is_first_before.ensures ∙ c.loop-merged-test.false)) ∙ c.loop-merged.invariant.1
