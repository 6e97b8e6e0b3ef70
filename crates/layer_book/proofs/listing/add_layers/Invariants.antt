use Rattle.std.proofs.Common.{◌≡◌, ◌≤◌, length, drop}
use Rattle.layer_book.specs.Inserts.{with_layers}
use Rattle.layer_book.proofs.listing.add_layers.Given as goal

abbrev pub invariant-loop-left : goal.invariant-loop-left
invariant-loop-left l = (l.left ≤ length l.layers) × (l.list.items ≡ with_layers l.collection l.cluster l.full (drop l.left l.layers) l.initial.list.items)

abbrev pub decreases-loop-left : goal.decreases-loop-left
decreases-loop-left l = l.left
