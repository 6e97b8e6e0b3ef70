use Rattle.version_store.proofs.Held.{holds-none}
use Rattle.version_store.proofs.fact_list.FactList.new.Goals as goal

pub returns : goal.returns
returns c = holds-none c.new.result.items c.new-2.result.items c.new.ensures.items c.new-2.ensures.items
