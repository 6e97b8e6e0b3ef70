use Rattle.version_store.specs.Lists.{stays}
use Rattle.version_store.proofs.Walks.{staying-more}
use Rattle.version_store.proofs.walk.collected.Goals as goal

pub loop-fact-preserved : goal.loop-fact-preserved
loop-fact-preserved c = staying-more (stays c.args.table c.args.g) c.args.facts.now c.loop-fact.fact-index c.fact-item.result c.loop-fact.held.items c.add_staying.new.held.items _ c.loop-fact-test.true c.fact-item.is c.in_ok-add_staying.ensures c.loop-fact.invariant
