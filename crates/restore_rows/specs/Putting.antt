-- The entries of a table under a new id and with a new date.
use Rattle.std.specs.Prelude.{◌≡◌, ◌≢◌, ℕ, List, [], ◌∷◌, Ok}
use Rattle.std.specs.List.{AllByRecursion}
use Rattle.mvcc_keys.specs.Times.{Time}
use Rattle.mvcc_keys.specs.declared.entries.Entry.{Entry}
use Rattle.row_codec.specs.declared.rows.Kind.{Kind}
use Rattle.row_codec.specs.RowKeys.{IsKey}
use Rattle.fact_model.specs.Facts.{Put}
use Rattle.history_model.specs.Rows.{RowFact, RowItem}
use Rattle.table_rows.specs.RowTables.{IsCells}
use Rattle.key_rewriter.specs.Rewriting.{rewritten}

-- the row of an item put anew at a time
abbrev pub put_at : Time → RowItem → RowFact
put_at t item = Put item.key item.value t

-- a key of the table, and cells
abbrev pub IsItem : List Kind → RowItem → Type 0
IsItem kinds item = IsKey kinds item.key × IsCells item.value

-- no two have the same key
abbrev pub DifferInKey : List RowItem → Type 0
DifferInKey [] = Unit {0}
DifferInKey (i ∷ is) = AllByRecursion (λ (j : RowItem). i.key ≢ j.key) is × DifferInKey is

-- items of different keys, each a key and cells of the table
pub record AreItems (kinds : List Kind) (items : List RowItem) : Type 0 where
  pub each : AllByRecursion (IsItem kinds) items
  pub differ : DifferInKey items

-- an entry is a put whose key has an old id in front
abbrev pub IsMapped : List (ℕ × ℕ) → Entry → Type 0
IsMapped ids (Entry.Put key at value) = (new : List ℕ) × (rewritten ids key ≡ Ok new)
IsMapped ids (Entry.Del key at) = ⊥
IsMapped ids (Entry.Range lo hi at) = ⊥
