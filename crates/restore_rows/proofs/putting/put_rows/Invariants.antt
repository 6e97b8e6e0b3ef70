use Rattle.std.proofs.Common.{ℕ, List}
use Rattle.history_model.specs.Rows.{RowItem}
use Rattle.table_rows.specs.RowTables.{HasRows, RowTables}
use Rattle.restore_rows.proofs.Renewed.{HasFirst, MayPut}
use Rattle.restore_rows.proofs.putting.put_rows.Given as goal

abbrev pub invariant-loop-entry : goal.invariant-loop-entry
invariant-loop-entry g l =
    (T : RowTables) (old new : ℕ) (items : List RowItem) (may : MayPut T l.ids l.entries l.at old new items) → HasRows (g.V.Versions.stands l.fn.rows) T
    → HasFirst T l.ids l.entries l.at old new items may (g.V.Versions.stands l.rows) l.entry-index
