use Rattle.std.proofs.Common.{map, take}
use Rattle.table_rows.specs.RowTables.{RowTables, HasRows, IsTableOf, MayAddAll, with_facts, deletion}
use Rattle.table_rows.proofs.rows.TableRows.delete.Given as goal

abbrev pub invariant-loop-key : goal.invariant-loop-key
invariant-loop-key g l =
    (T : RowTables) → HasRows (g.V.Versions.stands l.initial.self) T → IsTableOf T l.d → MayAddAll T l.d.id (map (deletion l.at) l.keys)
    → HasRows (g.V.Versions.stands l.self) (with_facts l.d.id (map (deletion l.at) (take l.key-index l.keys)) T)
