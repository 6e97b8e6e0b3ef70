use Rattle.std.proofs.Common.{◌≡◌, ◌-◌, List, map}
use Rattle.std.specs.List.{range_with_len}
use Rattle.history_model.specs.Histories.{Table}
use Rattle.mvcc_keys.specs.Times.{zero_time}
use Rattle.layer_objects.specs.Objects.{by_id, table_threshold}
use Rattle.cluster_core.specs.Standing.{Keeps}
use Rattle.cluster_core.proofs.Names.{told}
use Rattle.cluster_core.proofs.cluster.Cluster.thresholds.Given as goal

abbrev pub invariant-loop-table : goal.invariant-loop-table
invariant-loop-table l = (tables : List Table) → Keeps l.fn.self tables → l.thresholds.items ≡ map (told (by_id zero_time table_threshold tables)) (range_with_len 100 (l.table - 100))
