use Rattle.outside_world.proofs.Runs.{reads_then}
use Rattle.collection_dir.proofs.finishing.is_finished.Goals as goal

pub returns-clause-reads : goal.returns-clause-reads
returns-clause-reads g c = reads_then c.is_gate_open.ensures.reads c.get_part.ensures.reads
