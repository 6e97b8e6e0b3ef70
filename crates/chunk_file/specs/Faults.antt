-- Which place is the first fault of bytes that are no chunk, by what is spelled before it.
use Rattle.std.specs.Prelude.{◌≡◌, ℕ, ◌+◌, ◌<◌, ◌≤◌, true, Option, Some, None, Err, List, [], ◌∷◌, ◌++◌, length, ◌⊎◌}
use Rattle.std.specs.List.{AllByRecursion}
use Rattle.list_laws.specs.Bytes.{AreBytes}
use Rattle.key_encoding.specs.Spelling.{uvarint}
use Rattle.mvcc_keys.specs.declared.entries.Entry.{Entry}
use Rattle.row_codec.specs.declared.rows.Kind.{Kind}
use Rattle.chunk_file.specs.Entries.{IsStored, are_ordered, entries_code, entry_code, is_entry, may_follow}
use Rattle.chunk_file.specs.Chunks.{chunk_mark, read_chunk}

-- the bytes don't begin with the mark
pub record IsUnmarked (b : List ℕ) (at : ℕ) : Type 0 where
  pub place : at ≡ 0
  pub none : (r : List ℕ) → b ≡ chunk_mark ++ r → ⊥

-- no number from 1 to 256 is spelled after the mark
pub record IsUncounted (b : List ℕ) (at : ℕ) : Type 0 where
  pub rest : List ℕ
  pub marked : b ≡ chunk_mark ++ rest
  pub place : at ≡ 4
  pub none : (n : ℕ) (r : List ℕ) → 1 ≤ n → n ≤ 256 → rest ≡ uvarint n ++ r → ⊥

-- the last of some entries after another
abbrev pub last_of : Option Entry → List Entry → Option Entry
last_of last [] = last
last_of last (e ∷ es) = last_of (Some e) es

-- no entry of the table that may follow the last one is spelled in front
abbrev pub HasNoEntry : ℕ → List Kind → Option Entry → List ℕ → Type 0
HasNoEntry table kinds last b = (e : Entry) (r : List ℕ) → is_entry table kinds e ≡ true → may_follow last e ≡ true → IsStored e → b ≡ entry_code e ++ r → ⊥

-- some of n entries are spelled in order, and then either no other one is, or all are there and bytes are left over
pub record IsBroken (table : ℕ) (kinds : List Kind) (n : ℕ) (last : Option Entry) (b rest : List ℕ) : Type 0 where
  pub before : List Entry
  pub bytes : b ≡ entries_code before ++ rest
  pub each : AllByRecursion (λ e. is_entry table kinds e ≡ true) before
  pub ordered : are_ordered last before ≡ true
  pub stored : AllByRecursion IsStored before
  pub few : length before ≤ n
  pub none : length before < n → HasNoEntry table kinds (last_of last before) rest
  pub left_over : length before ≡ n → 0 < length rest

-- the entries after the mark and their number are broken off at this place
pub record IsBrokenOff (table : ℕ) (kinds : List Kind) (b : List ℕ) (at : ℕ) : Type 0 where
  pub number : ℕ
  pub entries : List ℕ
  pub rest : List ℕ
  pub some : 1 ≤ number
  pub most : number ≤ 256
  pub counted : b ≡ (chunk_mark ++ uvarint number) ++ entries
  pub broken : IsBroken table kinds number None entries rest
  pub place : at ≡ length (chunk_mark ++ uvarint number) + length (entries_code broken.before)

-- a chunk is refused at the place where the first item begins that isn't spelled or doesn't fit, or of the first byte left over
abbrev pub FaultsAreFirst : Type 0
FaultsAreFirst = (table : ℕ) (kinds : List Kind) (b : List ℕ) (at : ℕ) → AreBytes b → read_chunk table kinds b ≡ Err at → IsUnmarked b at ⊎ (IsUncounted b at ⊎ IsBrokenOff table kinds b at)
