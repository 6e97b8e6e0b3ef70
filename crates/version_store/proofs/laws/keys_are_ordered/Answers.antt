use Rattle.version_store.proofs.Bytes.{bytes_order}
use Rattle.version_store.proofs.laws.keys_are_ordered.Goals as goal

pub returns : goal.returns
returns c = bytes_order
