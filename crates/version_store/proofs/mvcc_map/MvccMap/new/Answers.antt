use Rattle.version_store.proofs.MapHeld.{keeps-none}
use Rattle.version_store.proofs.mvcc_map.MvccMap.new.Goals as goal

pub returns : goal.returns
returns c = keeps-none c.new.result.entries c.new.ensures.empty
