use Rattle.version_store.proofs.Held.{scanned-after}
use Rattle.version_store.proofs.fact_list.FactListVersions.scan_after.Goals as goal

pub returns : goal.returns
returns c = scanned-after c.scan_after_of.result c.args.self.now.facts.items c.as_slice-facts.result.now c.args.self.now.thresholds.items c.args.table c.from.result c.args.t c.args.after.now c.args.n c.from.ensures c.as_slice-facts.ensures.value c.scan_after_of.ensures
