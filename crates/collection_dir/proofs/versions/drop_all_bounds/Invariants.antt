use Rattle.std.proofs.Common.{◌≡◌, ◌++◌, map, take, drop}
use Rattle.collection_dir.specs.Versions.{first_table}
use Rattle.collection_dir.proofs.versions.drop_all_bounds.Given as goal

abbrev pub invariant-loop-table : goal.invariant-loop-table
invariant-loop-table l = l.tables ≡ map first_table (take l.table-index l.initial.tables) ++ drop l.table-index l.initial.tables
