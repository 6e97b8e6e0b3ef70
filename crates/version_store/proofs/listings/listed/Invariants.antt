use Rattle.std.proofs.Common.{◌≡◌, ◌≤◌, length, drop}
use Rattle.version_store.specs.Lists.{listed}
use Rattle.version_store.proofs.listings.listed.Given as goal

abbrev pub invariant-loop-left : goal.invariant-loop-left
invariant-loop-left l = (l.left ≤ length l.facts) × (l.list.items ≡ listed l.listing l.table (drop l.left l.facts))

abbrev pub decreases-loop-left : goal.decreases-loop-left
decreases-loop-left l = l.left
