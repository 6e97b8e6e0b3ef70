use Rattle.cluster_core.specs.Restoring.{entries_of}
use Rattle.cluster_core.proofs.Restored.{IsAmid}
use Rattle.cluster_core.proofs.cluster.Cluster.add_tables.Given as goal

abbrev pub invariant-loop-d : goal.invariant-loop-d
invariant-loop-d l = IsAmid l.fn.self l.self l.ids l.made l.published l.initial.d-iterator.rest.items l.d-iterator.rest.items (entries_of l.rows) (entries_of l.rest)
