use Rattle.std.proofs.Common.{◌≡◌, ◌≤◌, ◌-◌, length, take, drop, ◌++◌}
use Rattle.fact_model.specs.Ordered.{insert_by}
use Rattle.version_store.specs.Lists.{listing_cmp}
use Rattle.version_store.proofs.listings.place_of.Given as goal

abbrev pub invariant-loop-place : goal.invariant-loop-place
invariant-loop-place l = (l.place ≤ length l.list) × (insert_by (listing_cmp l.listing) l.fact l.list ≡ take l.place l.list ++ insert_by (listing_cmp l.listing) l.fact (drop l.place l.list))

abbrev pub decreases-loop-place : goal.decreases-loop-place
decreases-loop-place l = length l.list - l.place
