-- The rows that a merge gives, over the entries of the parts that count.
use Rattle.std.specs.Prelude.{◌≡◌, Bool, ◌&&◌, cond, List, [], ◌∷◌, map, Option, Some, None}
use Rattle.std.specs.Ordering.{is_le}
use Rattle.mvcc_keys.specs.Times.{Time}
use Rattle.mvcc_keys.specs.declared.entries.Entry.{Entry}
use Rattle.fact_model.specs.Scans.{Item, scan}
use Rattle.version_store.specs.Tables.{Bytes, bytes_cmp}
use Rattle.version_store.specs.Lists.{facts_of}
use Rattle.layer_merge.specs.declared.wanted.Wanted.{Wanted}
use Rattle.layer_merge.specs.Nexts.{to_come, is_hidden}
use Rattle.layer_merge.specs.Stands.{is_below}

-- ---- rows

abbrev pub put_of : Item Bytes Bytes → Entry
put_of i = Entry.Put i.key i.at i.value

abbrev pub is_asked : Wanted → Bytes → Bool
is_asked v key = is_le (bytes_cmp v.lo key) && is_below v.hi key

-- the visible puts of keys that are asked for, after the last key that was given
unfoldable pub rows_left : Wanted → Option Bytes → List Entry → List Entry
rows_left v done all = map put_of (to_come bytes_cmp (is_asked v) done (scan bytes_cmp v.upto (facts_of all)))

-- an entry is shown if it is a put that no range deletion hides
abbrev pub shown_of : Option Time → Entry → Option Entry
shown_of c (Entry.Put key at value) = cond (is_hidden c at) None (Some (Entry.Put key at value))
shown_of c (Entry.Del key at) = None
shown_of c (Entry.Range lo hi at) = None

-- one of a list was given, or there was none
abbrev pub Gave : Option Entry → List Entry → List Entry → Type 0
Gave None old new = (old ≡ []) × (new ≡ [])
Gave (Some e) old new = old ≡ e ∷ new
