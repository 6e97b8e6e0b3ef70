use Rattle.chunk_file.proofs.EntryOrder.{entries-ordered}
use Rattle.chunk_file.proofs.laws.entries_are_ordered.Goals as goal

pub returns : goal.returns
returns c = entries-ordered
