use Rattle.std.proofs.Common.{rules, refl}
use Rattle.version_store.proofs.Held.{added}
use Rattle.version_store.proofs.fact_list.FactList.add.Goals as goal

pub returns-clause-added : goal.returns-clause-added
returns-clause-added c = added c.map_err.result c.args.self.now.facts.items c.push.new.self.items c.args.self.now.thresholds.items c.args.self.now.thresholds.items c.args.fact (search rules) refl
