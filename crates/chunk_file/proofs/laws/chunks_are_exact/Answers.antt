use Rattle.chunk_file.proofs.ChunkLaws.{chunks-exact}
use Rattle.chunk_file.proofs.laws.chunks_are_exact.Goals as goal

pub returns : goal.returns
returns c = chunks-exact
