use Rattle.layer_objects.proofs.Ordered.{pieces_chunks}
use Rattle.layer_objects.proofs.laws.pieces_are_chunks.Goals as goal

pub returns : goal.returns
returns c = pieces_chunks
