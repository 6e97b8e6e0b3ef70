-- The parts of a merge, and what they hold.
use Rattle.std.specs.Prelude.{◌≡◌, ◌<◌, ℕ, Bool, true, List, [], ◌∷◌, ◌++◌, map, None}
use Rattle.std.specs.List.{range_with_len}
use Rattle.mvcc_keys.specs.Times.{Time}
use Rattle.mvcc_keys.specs.declared.entries.Entry.{Entry}
use Rattle.fact_model.specs.Facts.{IsApart}
use Rattle.list_laws.specs.Members.{Has}
use Rattle.fact_model.specs.Scans.{scan}
use Rattle.chunk_file.specs.Entries.{are_ordered}
use Rattle.layer_merge.specs.declared.parts.Part.{Part}
use Rattle.layer_merge.specs.declared.ranges.Waiting.{Waiting}
use Rattle.layer_merge.specs.FromLast.{from_last}
use Rattle.layer_merge.specs.Loads.{World}
use Rattle.layer_merge.specs.Stands.{entries_in}
use Rattle.version_store.specs.Tables.{bytes_cmp}
use Rattle.version_store.specs.Lists.{facts_of}
use Rattle.layer_merge.specs.Rows.{put_of}
use Rattle.layer_merge.specs.Ranges.{AreDated}

abbrev pub is_introduced : Part → Bool
is_introduced p = p.introduced

-- the entries of a part's chunks
abbrev pub entries_of_part : World → Part → List Entry
entries_of_part w p = entries_in w p.layer (range_with_len 0 p.chunks)

abbrev pub entries_of_parts : World → List Part → List Entry
entries_of_parts w [] = []
entries_of_parts w (p ∷ ps) = entries_of_part w p ++ entries_of_parts w ps

-- a chunk of a part that counts, by its layer and its number in the part
abbrev pub IsCountedChunk : List Part → ℕ → ℕ → Type 0
IsCountedChunk ps layer number = (p : Part) × (Has p (from_last is_introduced ps) × ((p.layer ≡ layer) × (number < p.chunks)))

-- the entries of the parts that count
unfoldable pub counted_entries : World → List Part → List Entry
counted_entries w ps = entries_of_parts w (from_last is_introduced ps)

-- the rows of a merge: the visible puts as of t over the entries of the parts that count
unfoldable pub merge_rows : World → List Part → Time → List Entry
merge_rows w ps t = map put_of (scan bytes_cmp t (facts_of (counted_entries w ps)))

-- each part that counts is in order throughout, facts that touch one key have different dates, and so have range deletions
pub record AreProper (w : World) (ps : List Part) : Type 0 where
  pub ordered : (p : Part) → Has p (from_last is_introduced ps) → are_ordered None (entries_of_part w p) ≡ true
  pub apart : IsApart bytes_cmp (facts_of (counted_entries w ps))
  pub dated : AreDated (counted_entries w ps)

-- parts whose chunks are all to be loaded
abbrev pub AreWaiting : List Part → List Waiting → Type 0
AreWaiting [] ws = ws ≡ []
AreWaiting (p ∷ ps) [] = ⊥
AreWaiting (p ∷ ps) (q ∷ ws) = (q.layer ≡ p.layer) × (q.numbers.items ≡ range_with_len 0 p.chunks) × AreWaiting ps ws
