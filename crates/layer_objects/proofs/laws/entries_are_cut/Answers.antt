use Rattle.layer_objects.proofs.CutPieces.{entries-cut}
use Rattle.layer_objects.proofs.laws.entries_are_cut.Goals as goal

pub returns : goal.returns
returns c = entries-cut
