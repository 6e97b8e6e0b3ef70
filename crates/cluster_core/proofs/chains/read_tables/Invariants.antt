use Rattle.std.proofs.Common.{◌≡◌, List, map, take}
use Rattle.std.specs.List.{AllByRecursion}
use Rattle.table_descriptors.specs.declared.scopes.Scope.{Scope}
use Rattle.history_model.specs.Histories.{Table}
use Rattle.history_model.specs.Layers as records
use Rattle.outside_world.specs.Disk.{OnlyReads, Tells}
use Rattle.layer_chains.specs.Chains.{IsShown}
use Rattle.cluster_core.specs.Chains.{AreTypedRows, IsStandingChain, entries_in, stored_rows}
use Rattle.cluster_core.proofs.chains.read_tables.Given as goal

abbrev pub invariant-loop-d : goal.invariant-loop-d
invariant-loop-d g l =
    OnlyReads (g.D.Disk.view l.fn.disk) (g.D.Disk.view l.disk)
    × ((g.D.Disk.view l.disk).faults ≡ (g.D.Disk.view l.fn.disk).faults)
    × AreTypedRows (take l.d-index l.chosen) l.rows.items
    × ((tables : List Table) (scope : Scope) (rs : List records.LayerRecord) → Tells (g.D.Disk.view l.fn.disk) → IsStandingChain tables scope rs l.chain.layers.items l.chain.time (g.D.Disk.view l.fn.disk).objects → AllByRecursion (IsShown tables scope l.chain.time) l.chosen
    → map entries_in l.rows.items ≡ map (stored_rows tables l.chain.time) (take l.d-index l.chosen))
