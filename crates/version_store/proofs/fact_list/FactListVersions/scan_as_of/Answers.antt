use Rattle.version_store.proofs.Held.{scanned}
use Rattle.version_store.proofs.fact_list.FactListVersions.scan_as_of.Goals as goal

pub returns : goal.returns
returns c = scanned c.scan_of.result c.args.self.now.facts.items c.as_slice.result.now c.args.self.now.thresholds.items c.args.table c.from.result c.args.t c.from.ensures c.as_slice.ensures.value c.scan_of.ensures
