use Rattle.std.proofs.Common.{◌≡◌, ◌++◌, drop, map}
use Rattle.machine_model.specs.Restores.{links_of}
use Rattle.cluster_core.specs.ClusterView.{record_of}
use Rattle.cluster_core.proofs.chains.links_of.Given as goal

abbrev pub invariant-loop-entry : goal.invariant-loop-entry
invariant-loop-entry l = l.links.items ++ links_of (map record_of (drop l.entry-index l.layers)) ≡ links_of (map record_of l.layers)
