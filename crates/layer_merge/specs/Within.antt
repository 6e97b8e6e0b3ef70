-- Which chunks a merge needs for the keys that it is asked for.
use Rattle.std.specs.Prelude.{◌≡◌, ℕ, Bool, true, ◌&&◌, List, [], ◌∷◌, ◌++◌, filter, slice_get, Option, Some, None}
use Rattle.std.specs.List.{range_with_len}
use Rattle.std.specs.Ordering.{is_le}
use Rattle.mvcc_keys.specs.Times.{Time}
use Rattle.mvcc_keys.specs.Entries.{end_of, key_of}
use Rattle.mvcc_keys.specs.declared.entries.Entry.{Entry}
use Rattle.list_laws.specs.Members.{Has}
use Rattle.version_store.specs.Tables.{Bytes, bytes_cmp}
use Rattle.layer_merge.specs.declared.parts.Part.{Part}
use Rattle.layer_merge.specs.declared.ranges.Waiting.{Waiting}
use Rattle.layer_merge.specs.declared.wanted.Wanted.{Wanted}
use Rattle.layer_merge.specs.FromLast.{from_last}
use Rattle.layer_merge.specs.Loads.{Load, World}
use Rattle.layer_merge.specs.Parts.{is_introduced, merge_rows}
use Rattle.layer_merge.specs.Rows.{is_asked}
use Rattle.layer_merge.specs.Stands.{entries_in, is_below}
use Rattle.layer_merge.specs.Steps.{loads_of}

-- a chunk of these bounds may hold a key that is asked for
abbrev pub reaches : Wanted → Bytes → Bytes → Bool
reaches v least greatest = is_le (bytes_cmp v.lo greatest) && is_below v.hi least

-- one whose bounds aren't told may
abbrev pub may_hold : Wanted → Option (Option (Bytes × Bytes)) → Bool
may_hold v None = true
may_hold v (Some None) = true
may_hold v (Some (Some b)) = reaches v b.0 b.1

-- the numbers of the chunks of a part that may hold such a key
abbrev pub wanted_numbers : Wanted → Part → List ℕ
wanted_numbers v p = filter (λ (n : ℕ). may_hold v (slice_get p.bounds.items n)) (range_with_len 0 p.chunks)

-- parts whose chunks that may hold such a key are to be loaded
abbrev pub AreAsked : Wanted → List Part → List Waiting → Type 0
AreAsked v [] ws = ws ≡ []
AreAsked v (p ∷ ps) [] = ⊥
AreAsked v (p ∷ ps) (q ∷ ws) = (q.layer ≡ p.layer) × (q.numbers.items ≡ wanted_numbers v p) × AreAsked v ps ws

abbrev pub entries_asked : World → Wanted → List Part → List Entry
entries_asked w v [] = []
entries_asked w v (p ∷ ps) = entries_in w p.layer (wanted_numbers v p) ++ entries_asked w v ps

-- the entries of the chunks, of the parts that count, that may hold such a key
unfoldable pub wanted_entries : World → Wanted → List Part → List Entry
wanted_entries w v ps = entries_asked w v (from_last is_introduced ps)

-- a chunk, of a part that counts, that may hold such a key, by its layer and its number in the part
abbrev pub IsWantedChunk : Wanted → List Part → ℕ → ℕ → Type 0
IsWantedChunk v ps layer number = (p : Part) × (Has p (from_last is_introduced ps) × ((p.layer ≡ layer) × Has number (wanted_numbers v p)))

abbrev pub loads_asked : ℕ → Wanted → List Part → List Load
loads_asked table v [] = []
loads_asked table v (p ∷ ps) = loads_of table p.layer (wanted_numbers v p) ++ loads_asked table v ps

-- a load of each of these chunks
unfoldable pub wanted_loads : ℕ → Wanted → List Part → List Load
wanted_loads table v ps = loads_asked table v (from_last is_introduced ps)

-- no key of a chunk is before its least, or after its greatest
abbrev pub AreBounded : World → List Part → Type 0
AreBounded w ps = (p : Part) (n : ℕ) (b : Bytes × Bytes) (e : Entry) → Has p (from_last is_introduced ps) → slice_get p.bounds.items n ≡ Some (Some b) → Has e (w p.layer n) → (is_le (bytes_cmp b.0 (key_of e)) ≡ true) × (is_le (bytes_cmp (end_of e) b.1) ≡ true)

-- the rows as of t of the keys from lo to below hi
abbrev pub keys_within : Bytes → Bytes → Time → Wanted
keys_within lo hi t = record { lo = lo; hi = Some hi; after = None; upto = t }

-- the rows of a merge that are of these keys
unfoldable pub rows_within : World → List Part → Time → Bytes → Bytes → List Entry
rows_within w ps t lo hi = filter (λ (e : Entry). is_asked (keys_within lo hi t) (key_of e)) (merge_rows w ps t)
