use Rattle.version_store.proofs.Held.{newest-events-found}
use Rattle.version_store.proofs.fact_list.FactListVersions.newest_events.Goals as goal

pub returns : goal.returns
returns c = newest-events-found c.newest_events_of.result c.args.self.now.facts.items c.as_slice-facts.result.now c.args.self.now.thresholds.items c.args.table c.from.result c.args.from c.args.upto c.args.after.now c.args.n c.from.ensures c.as_slice-facts.ensures.value c.newest_events_of.ensures
