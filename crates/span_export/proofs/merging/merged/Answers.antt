use Rattle.std.proofs.Common.{◌∙◌, ◌++◌, ap, ap₂, sym}
use Rattle.span_export.specs.Lists.{merged}
use Rattle.span_export.proofs.Merges.{merged-all, merged-more}
use Rattle.span_export.proofs.merging.merged.Goals as goal

pub loop-entry-init : goal.loop-entry-init
loop-entry-init c = ap (λ as'. as' ++ merged c.into_iter-entry-iterator.result.rest.items c.from-newer.result.items) c.new-all.ensures.items ∙ ap₂ merged c.into_iter-entry-iterator.ensures.into_iter_gives.0 c.from-newer.ensures.0

pub loop-entry-preserved : goal.loop-entry-preserved
loop-entry-preserved c = merged-more c.in-Some.entry c.loop-entry.all.items c.add_merged.new.merged.items c.next.new.self.rest.items c.loop-entry.newer.items c.add_merged.new.newer.items _ c.in_ok-add_merged.ensures.moved c.in_ok-add_merged.ensures.left (ap (λ xs. c.loop-entry.all.items ++ merged xs c.loop-entry.newer.items) (sym c.in-Some.ensures.steps.0) ∙ c.loop-entry.invariant)

pub returns : goal.returns
returns c = c.in_ok-append.ensures.items ∙ merged-all c.loop-entry.all.items c.loop-entry.entry-iterator.rest.items c.loop-entry.newer.items c.from-left.result.items _ (sym c.loop-entry.entry-iterator.rest.ok.0 ∙ c.in-None.ensures.steps.0) c.from-left.ensures.0 c.loop-entry.invariant
