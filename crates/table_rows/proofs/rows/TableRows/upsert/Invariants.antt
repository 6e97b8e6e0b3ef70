use Rattle.std.proofs.Common.{map, take}
use Rattle.history_model.specs.Rows.{put_of}
use Rattle.table_rows.specs.RowTables.{RowTables, HasRows, IsTableOf, MayAddAll, with_facts}
use Rattle.table_rows.proofs.rows.TableRows.upsert.Given as goal

abbrev pub invariant-loop-row : goal.invariant-loop-row
invariant-loop-row g l =
    (T : RowTables) → HasRows (g.V.Versions.stands l.initial.self) T → IsTableOf T l.d → MayAddAll T l.d.id (map (put_of l.d l.at) l.rows)
    → HasRows (g.V.Versions.stands l.self) (with_facts l.d.id (map (put_of l.d l.at) (take l.row-index l.rows)) T)
