use Rattle.std.proofs.Common.{sym}
use Rattle.version_store.proofs.Held.{got}
use Rattle.version_store.proofs.fact_list.FactListVersions.get_as_of.Goals as goal

pub returns-in-Some : goal.returns-in-Some
returns-in-Some c = got c.args.self.now.facts.items c.as_slice.result.now c.args.self.now.thresholds.items c.args.key.now c.args.t c.in-Some.table _ c.as_slice.ensures.value (sym c.in-Some.ensures) c.value_of.ensures
