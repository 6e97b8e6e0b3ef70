use Rattle.std.proofs.Common.{◌≡◌, length}
use Rattle.stored_chunks.specs.Parts.{AreProperLayers}
use Rattle.stored_chunks.specs.Places.{counted_layers}
use Rattle.stored_chunks.proofs.parts.counted_layers.Given as goal

abbrev pub invariant-loop-others : goal.invariant-loop-others
invariant-loop-others l = AreProperLayers l.rest × (counted_layers l.table l.rest ≡ counted_layers l.table l.layers)

abbrev pub decreases-loop-others : goal.decreases-loop-others
decreases-loop-others l = length l.rest
