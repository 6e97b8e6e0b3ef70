use Rattle.std.proofs.Common.{◌∙◌, ap}
use Rattle.range_tombstones.specs.Dates.{last_of}
use Rattle.range_tombstones.proofs.Lists.{last-get}
use Rattle.range_tombstones.proofs.PieceLaws.{at-begun}
use Rattle.range_tombstones.proofs.pieces.piece_at.Goals as goal

pub returns : goal.returns
returns c = c.last.ensures.value ∙ (last-get _ ∙ (ap last_of c.count_begun.ensures.front ∙ at-begun c.args.key.now c.args.pieces.now))
