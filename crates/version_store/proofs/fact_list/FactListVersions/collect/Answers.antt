use Rattle.std.proofs.Common.{rules, ◌≡◌, ◌∙◌, ◌++◌, ap, ap₂, filter, false, ℕ, List}
use Rattle.mvcc_keys.specs.Times.{time_le}
use Rattle.mvcc_keys.specs.declared.entries.Entry.{Entry}
use Rattle.fact_model.specs.Scans.{image}
use Rattle.version_store.specs.Tables.{bytes_cmp, entries_of}
use Rattle.version_store.specs.Lists.{facts_of, of_table, stays}
use Rattle.version_store.specs.Holding.{threshold_in}
use Rattle.version_store.specs.declared.fact_list.Threshold.{Threshold}
use Rattle.version_store.proofs.Collects.{collect-changed}
use Rattle.version_store.proofs.fact_list.FactListVersions.collect.Goals as goal

pub returns-clause-raised : goal.returns-clause-raised
returns-clause-raised c =
    let above : time_le c.args.g c.threshold_of.result ≡ false = search rules in
    collect-changed c.replace.result c.args.self.now.facts.items c.replace.new.self.facts.items c.in_ok-facts.facts.items c.args.self.now.thresholds.items c.replace.new.self.thresholds.items c.args.table c.args.g c.threshold_of.result (c.threshold_of.ensures ∙ ap (λ (ts : List Threshold). threshold_in ts c.args.table) c.as_slice.ensures.value) above (c.in_ok-facts.ensures ∙ ap₂ (λ (id : ℕ) (es : List Entry). entries_of (image bytes_cmp c.args.g (facts_of (of_table id es))) ++ filter (stays id c.args.g) es) c.from.ensures c.as_slice-2.ensures.value) c.replace.ensures.changed
