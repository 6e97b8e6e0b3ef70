-- Where the entries of a chunk begin in its bytes.
use Rattle.std.specs.Prelude.{◌≡◌, ℕ, ◌+◌, ◌≤◌, Result, Ok, Err, List, [], ◌∷◌, ◌++◌, length, drop, nat_eq, if◌then◌else◌}
use Rattle.std.specs.List.{AllByRecursion}
use Rattle.mvcc_keys.specs.declared.entries.Entry.{Entry}
use Rattle.row_codec.specs.declared.rows.Kind.{Kind}
use Rattle.chunk_file.specs.declared.checks.Head.{Head}
use Rattle.chunk_file.specs.declared.malformed.Malformed.{Malformed}
use Rattle.chunk_file.specs.Entries.{IsStored, entries_code, entry_code, listed}
use Rattle.chunk_file.specs.Chunks.{IsSpelled, chunk_bytes, head_code, read_chunk}

-- at this offset of a chunk those of its entries begin that are left; where none is left, its bytes end
pub record Begins (entries : List Entry) (offset : ℕ) (left : List Entry) : Type 0 where
  pub before : List Entry
  pub whole : entries ≡ before ++ left
  pub place : offset ≡ length (head_code entries) + length (entries_code before)

-- an offset at which an entry begins, or the end of the bytes
abbrev pub IsEntryStart : List Entry → ℕ → Type 0
IsEntryStart entries offset = (left : List Entry) × Begins entries offset left

-- the entries of a list from the one that begins at an offset, where the first begins at another
abbrev pub left_from : ℕ → List Entry → ℕ → List Entry
left_from at [] offset = []
left_from at (e ∷ es) offset = if nat_eq offset at then e ∷ es else left_from (at + length (entry_code e)) es offset

-- the entries of a chunk from the one that begins at an offset of its bytes; none at their end
unfoldable pub left_at : List Entry → ℕ → List Entry
left_at entries offset = left_from (length (head_code entries)) entries offset

-- ---- inside

-- bytes that are a chunk's, and the place where its entries begin
pub record IsHeld (b : List ℕ) (first : ℕ) (entries : List Entry) : Type 0 where
  pub bytes : b ≡ chunk_bytes entries
  pub place : first ≡ length (head_code entries)
  pub stored : AllByRecursion IsStored entries

-- what a test of a chunk's bytes found out
pub record IsHead (table : ℕ) (kinds : List Kind) (b : List ℕ) (h : Head) (entries : List Entry) : Type 0 where
  pub within : h.first ≤ length b
  pub read : read_chunk table kinds b ≡ Ok entries
  pub count : length entries ≡ h.count
  pub spelled : IsSpelled table kinds b entries
  pub place : h.first ≡ length (head_code entries)

abbrev pub Checks : ℕ → List Kind → List ℕ → Result Head Malformed → Type 0
Checks table kinds b (Ok h) = IsHead table kinds b h (listed h.count (drop h.first b))
Checks table kinds b (Err m) = read_chunk table kinds b ≡ Err m.offset
