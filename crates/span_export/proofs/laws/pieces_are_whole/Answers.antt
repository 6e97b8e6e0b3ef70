use Rattle.span_export.proofs.Cuts.{pieces-whole}
use Rattle.span_export.proofs.laws.pieces_are_whole.Goals as goal

pub returns : goal.returns
returns c = pieces-whole
