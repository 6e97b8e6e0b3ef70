use Rattle.std.proofs.Common.{◌≡◌, ◌++◌, drop, map}
use Rattle.machine_model.specs.Restores.{span_of}
use Rattle.cluster_core.specs.ClusterView.{record_of}
use Rattle.cluster_core.proofs.restores.spans_of.Given as goal

abbrev pub invariant-loop-entry : goal.invariant-loop-entry
invariant-loop-entry l = l.spans.items ++ map span_of (map record_of (drop l.entry-index l.layers)) ≡ map span_of (map record_of l.layers)
