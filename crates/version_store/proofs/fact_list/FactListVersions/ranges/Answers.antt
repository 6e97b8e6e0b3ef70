use Rattle.version_store.proofs.Held.{ranges-found}
use Rattle.version_store.proofs.fact_list.FactListVersions.ranges.Goals as goal

pub returns : goal.returns
returns c = ranges-found c.listed.result c.args.self.now.facts.items c.as_slice-facts.result.now c.args.self.now.thresholds.items c.args.table c.from.result c.args.from c.args.upto c.from.ensures c.as_slice-facts.ensures.value c.listed.ensures
