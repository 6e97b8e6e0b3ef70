use Rattle.std.proofs.Common.{◌∙◌}
use Rattle.fact_model.specs.Facts.{value}
use Rattle.version_store.specs.Tables.{Bytes, bytes_cmp}
use Rattle.version_store.specs.Lists.{facts_of, of_table}
use Rattle.version_store.proofs.Walks.{seen-more, seen-all}
use Rattle.version_store.proofs.walk.scan_of.Goals as goal

pub loop-put-preserved : goal.loop-put-preserved
loop-put-preserved c = seen-more (λ (k : Bytes). value bytes_cmp k c.args.t (facts_of (of_table c.args.table c.args.facts.now))) c.deref-put-items.result.now c.loop-put.put-index c.put-item.result c.key_of.result.now c.loop-put.seen.items c.add_seen.new.seen.items _ c.loop-put-test.true c.put-item.is c.key_of.ensures c.in_ok-add_seen.ensures c.loop-put.invariant

pub returns : goal.returns
returns c = seen-all c.args.table c.args.t c.args.facts.now c.deref-put-items.result.now c.loop-put.seen.items c.loop-put.put-index c.loop-put-test.false (c.deref-put-items.ensures.value ∙ c.in_ok-puts.ensures) c.loop-put.invariant
