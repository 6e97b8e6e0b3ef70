use Rattle.std.proofs.Common.{◌∙◌, ◌++◌, ap, ap₂, sym, None}
use Rattle.version_store.specs.Lists.{entries_same, firsts, last_of}
use Rattle.version_store.proofs.Firsts.{kept-all, kept-more}
use Rattle.version_store.proofs.newest.newest_among.Goals as goal

pub loop-entry-init : goal.loop-entry-init
loop-entry-init c = ap₂ (λ ks xs. ks ++ firsts entries_same (last_of None ks) xs) c.new-kept.ensures.items c.into_iter-entry-iterator.ensures.into_iter_gives.0

pub loop-entry-preserved : goal.loop-entry-preserved
loop-entry-preserved c = kept-more entries_same c.in-Some.entry c.loop-entry.kept.items c.keep.new.kept.items c.next.new.self.rest.items _ c.in_ok-keep.ensures (ap (λ xs. c.loop-entry.kept.items ++ firsts entries_same (last_of None c.loop-entry.kept.items) xs) (sym c.in-Some.ensures.steps.0) ∙ c.loop-entry.invariant)

pub returns : goal.returns
returns c = kept-all entries_same c.loop-entry.kept.items c.loop-entry.entry-iterator.rest.items _ (sym c.loop-entry.entry-iterator.rest.ok.0 ∙ c.in-None.ensures.steps.0) c.loop-entry.invariant
