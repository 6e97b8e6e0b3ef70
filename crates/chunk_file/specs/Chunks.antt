-- Chunks: up to 256 entries of one table in order, how they are spelled, and how they are read with the place of the first fault.
use Rattle.std.specs.Prelude.{◌≡◌, ℕ, zero, suc, ◌-◌, ◌^◌, ◌<◌, ◌≤◌, ◌&&◌, Bool, true, nat_le, nat_eq, Option, Some, None, Result, Ok, Err, List, [], ◌∷◌, ◌++◌, length, take, drop, if◌then◌else◌}
use Rattle.std.specs.List.{AllByRecursion}
use Rattle.std.specs.Str.{bytes_eq}
use Rattle.list_laws.specs.Bytes.{AreBytes}
use Rattle.key_encoding.specs.Spelling.{uvarint}
use Rattle.key_encoding.specs.Reading.{read_uvarint}
use Rattle.mvcc_keys.specs.declared.entries.Entry.{Entry}
use Rattle.row_codec.specs.KeyReading.{◌>>=◌, or_at, valued}
use Rattle.row_codec.specs.declared.rows.Kind.{Kind}
use Rattle.chunk_file.specs.declared.malformed.Malformed.{Malformed}
use Rattle.chunk_file.specs.Entries.{IsStored, are_ordered, entries_code, is_entry, may_follow, read_entry}

-- 1 to 256 entries of the table, in order
pub record IsChunk (table : ℕ) (kinds : List Kind) (entries : List Entry) : Type 0 where
  pub some : 1 ≤ length entries
  pub most : length entries ≤ 256
  pub each : AllByRecursion (λ e. is_entry table kinds e ≡ true) entries
  pub ordered : are_ordered None entries ≡ true

-- ---- spelling

-- the four bytes that each chunk begins with
abbrev pub chunk_mark : List ℕ
chunk_mark = 67 ∷ 72 ∷ 75 ∷ 49 ∷ []

-- the mark, and the number of the entries
unfoldable pub head_code : List Entry → List ℕ
head_code entries = chunk_mark ++ uvarint (length entries)

unfoldable pub chunk_bytes : List Entry → List ℕ
chunk_bytes entries = head_code entries ++ entries_code entries

-- bytes that are the one spelling of a chunk of the table
pub record IsSpelled (table : ℕ) (kinds : List Kind) (b : List ℕ) (entries : List Entry) : Type 0 where
  pub chunk : IsChunk table kinds entries
  pub stored : AllByRecursion IsStored entries
  pub bytes : b ≡ chunk_bytes entries

-- ---- reading

abbrev pub if_met : (Entry → Bool) → Option (Entry × List ℕ) → Option (Entry × List ℕ)
if_met test (Some p) = if test p.0 then Some p else None
if_met test None = None

-- the entry in front, if it is one of the table and may follow the one before it, and what follows
unfoldable pub read_next : ℕ → List Kind → Option Entry → List ℕ → Option (Entry × List ℕ)
read_next table kinds last b = if_met (λ e. is_entry table kinds e && may_follow last e) (read_entry b)

abbrev pub with_entry : Entry → Result (List Entry) ℕ → Result (List Entry) ℕ
with_entry e (Ok es) = Ok (e ∷ es)
with_entry e (Err o) = Err o

-- an entry that reads, and those after it
abbrev pub next_entry : (Entry → List ℕ → Result (List Entry) ℕ) → ℕ → Option (Entry × List ℕ) → Result (List Entry) ℕ
next_entry others at (Some p) = with_entry p.0 (others p.0 p.1)
next_entry others at None = Err at

-- n entries and nothing more, at the end of an input of len bytes; an error is the place where the first begins that doesn't read, or the first byte left over
abbrev pub read_entries : ℕ → List Kind → ℕ → ℕ → Option Entry → List ℕ → Result (List Entry) ℕ
read_entries table kinds len zero last b = if nat_eq (length b) 0 then Ok [] else Err (len - length b)
read_entries table kinds len (suc n) last b = next_entry (λ e rest. read_entries table kinds len n (Some e) rest) (len - length b) (read_next table kinds last b)

abbrev pub read_mark : List ℕ → Option (List ℕ)
read_mark b = if bytes_eq (take 4 b) chunk_mark then Some (drop 4 b) else None

abbrev pub a_count : ℕ → Option ℕ
a_count n = if nat_le 1 n && nat_le n 256 then Some n else None

unfoldable pub read_count : List ℕ → Option (ℕ × List ℕ)
read_count b = valued a_count (read_uvarint b)

-- the entries of a chunk, or the place where the first item begins that doesn't read; items are the mark, the number, and each entry
unfoldable pub read_chunk : ℕ → List Kind → List ℕ → Result (List Entry) ℕ
read_chunk table kinds b = do
  rest ← or_at 0 (read_mark b)
  count ← or_at 4 (read_count rest)
  read_entries table kinds (length b) count.0 None count.1

-- what a reader of chunks answers
abbrev pub answered : {X : Type 0} → (X → List Entry) → Result X Malformed → Result (List Entry) ℕ
answered entries (Ok c) = Ok (entries c)
answered entries (Err m) = Err m.offset

-- the place of the first fault
abbrev pub fault_of : Result (List Entry) ℕ → Option ℕ
fault_of (Ok es) = None
fault_of (Err o) = Some o

-- ---- laws

-- what reads are just the spellings of chunks, and a chunk's list is what its spelling reads as
pub record ChunksAreExact : Type 0 where
  pub found : (table : ℕ) (kinds : List Kind) (entries : List Entry) → IsChunk table kinds entries → AllByRecursion IsStored entries → read_chunk table kinds (chunk_bytes entries) ≡ Ok entries
  pub only : (table : ℕ) (kinds : List Kind) (b : List ℕ) (entries : List Entry) → AreBytes b → read_chunk table kinds b ≡ Ok entries → IsSpelled table kinds b entries
  pub apart : (es ds : List Entry) → AllByRecursion IsStored es → AllByRecursion IsStored ds → length es < 2 ^ 64 → length ds < 2 ^ 64 → chunk_bytes es ≡ chunk_bytes ds → es ≡ ds
