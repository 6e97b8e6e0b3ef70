use Rattle.std.proofs.Common.{◌≡◌, ◌++◌, drop, filter_map, slice_get}
use Rattle.cluster_core.proofs.chains.layers_at.Given as goal

abbrev pub invariant-loop-place : goal.invariant-loop-place
invariant-loop-place l = l.list.items ++ filter_map (slice_get l.layers) (drop l.place-index l.places) ≡ filter_map (slice_get l.layers) l.places
