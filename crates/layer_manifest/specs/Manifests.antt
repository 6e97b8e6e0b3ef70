-- What is true of the manifest of every layer.
use Rattle.std.specs.Prelude.{◌≡◌, ℕ, ◌+◌, ◌-◌, ◌<◌, ◌≤◌, ◌^◌, Bool, true, false, ◌&&◌, ◌||◌, ◌==◌, nat_lt, Option, Some, None, List, [], ◌∷◌, length}
use Rattle.std.specs.List.{slice_get, sum_by, AllByRecursion}
use Rattle.std.specs.Str.{bytes_eq}
use Rattle.std.specs.Ordering.{nat_cmp, is_le}
use Rattle.std.specs.Cmp.Lexicographic.{slice_cmp}
use Rattle.mvcc_keys.specs.Times.{IsTime, time_eq, time_lt, time_le}
use Rattle.row_codec.specs.declared.rows.Kind.{Kind}
use Rattle.row_codec.specs.declared.rows.Kind.TheVariants.{Int, Text, Bytes, Bool as Truth, IntDown, TextDown, BytesDown, BoolDown}
use Rattle.row_codec.specs.KeyReading.{read_row_key, is_key_of}
use Rattle.table_descriptors.specs.Names.{is_name}
use Rattle.table_descriptors.specs.Fields.{EachAfter, is_id}
use Rattle.table_descriptors.specs.Descriptors.{Schema, IsProperSchema, key_kinds, last_key}
use Rattle.table_descriptors.specs.declared.scopes.Scope.{Scope}
use Rattle.table_descriptors.specs.declared.scopes.Scope.TheVariants.{Database, Tables}
use Rattle.layer_manifest.specs.declared.manifest.ChunkInfo.{ChunkInfo}
use Rattle.layer_manifest.specs.declared.manifest.TablePart.{TablePart}
use Rattle.layer_manifest.specs.declared.manifest.Manifest.{Manifest}

-- a number is above that of the last one before it, if there is one
abbrev pub comes_after : {X : Type 0} → (X → ℕ) → List X → ℕ → Bool
comes_after key [] n = true
comes_after key (x ∷ before) n = nat_lt (last_key key (x ∷ before)) n

-- ---- chunks

-- row keys of a table with its kinds, of which the least isn't after the greatest
abbrev pub are_bounds : ℕ → List Kind → List ℕ × List ℕ → Bool
are_bounds table kinds keys = is_key_of table (read_row_key kinds keys.0) && is_key_of table (read_row_key kinds keys.1) && is_le (slice_cmp nat_cmp keys.0 keys.1)

-- bounds stand in every version but the first
abbrev pub IsBounded : ℕ → ℕ → List Kind → Option (List ℕ × List ℕ) → Type 0
IsBounded version table kinds None = (version == 1) ≡ true
IsBounded version table kinds (Some keys) = ((version == 1) ≡ false) × (are_bounds table kinds keys ≡ true) × (length keys.0 < 2 ^ 64) × (length keys.1 < 2 ^ 64)

-- from 1 to 256 entries, a length of 64 bits, and 32 bytes of SHA-256
pub record IsProperChunk (version table : ℕ) (kinds : List Kind) (c : ChunkInfo) : Type 0 where
  pub some : 0 < c.entries
  pub few : c.entries ≤ 256
  pub long : c.length < 2 ^ 64
  pub digest : length c.digest ≡ 32
  pub bounded : IsBounded version table kinds c.bounds

-- ---- descriptors of a table

abbrev pub same_kind : Kind → Kind → Bool
same_kind Int Int = true
same_kind Text Text = true
same_kind Bytes Bytes = true
same_kind Truth Truth = true
same_kind IntDown IntDown = true
same_kind TextDown TextDown = true
same_kind BytesDown BytesDown = true
same_kind BoolDown BoolDown = true
same_kind k j = false

abbrev pub same_kinds : List Kind → List Kind → Bool
same_kinds [] [] = true
same_kinds (k ∷ ks) (j ∷ js) = same_kind k j && same_kinds ks js
same_kinds ks js = false

-- the same key columns, of the same kinds and directions
abbrev pub same_key : Schema → Schema → Bool
same_key d e = bytes_eq d.key_columns e.key_columns && same_kinds (key_kinds d) (key_kinds e)

abbrev pub has_key_of : Option Schema → Schema → Bool
has_key_of None d = true
has_key_of (Some first) d = same_key first d

abbrev pub is_dated_after : Option Schema → Schema → Bool
is_dated_after None d = true
is_dated_after (Some last) d = time_lt last.modified d.modified

-- a descriptor of a table after others: of that id, of a later date than the last, with the key columns of the first
abbrev pub is_next_descriptor : ℕ → List Schema → Schema → Bool
is_next_descriptor id before d = (d.id == id) && is_dated_after (slice_get before (length before - 1)) d && has_key_of (slice_get before 0) d

-- the kinds of a table's keys
abbrev pub kinds_of : List Schema → List Kind
kinds_of [] = []
kinds_of (d ∷ ds) = key_kinds d

-- ---- tables

abbrev pub part_id : TablePart → ℕ
part_id t = t.id

abbrev pub chunk_count : List TablePart → ℕ
chunk_count tables = sum_by (λ (t : TablePart). length t.chunks) tables

-- how many entries the chunks of tables have
abbrev pub chunk_entries : ChunkInfo → ℕ
chunk_entries c = c.entries

abbrev pub entry_count : List TablePart → ℕ
entry_count tables = sum_by (λ (t : TablePart). sum_by chunk_entries t.chunks) tables

-- what is true of each table after those before it: a greater id; at least one descriptor; descriptors of its id with ascending dates and
-- equal key columns; no more than 1,000,000 chunks up to here
pub record IsNextTable (version : ℕ) (before : List TablePart) (t : TablePart) : Type 0 where
  pub id : t.id < 2 ^ 32
  pub after : comes_after part_id before t.id ≡ true
  pub some : 0 < length t.descriptors
  pub counted : length t.descriptors < 2 ^ 64
  pub descriptors : EachAfter (λ others d. IsProperSchema d × (is_next_descriptor t.id others d ≡ true)) [] t.descriptors
  pub few : chunk_count before + length t.chunks ≤ 1000000
  pub chunks : AllByRecursion (IsProperChunk version t.id (kinds_of t.descriptors)) t.chunks

-- ---- manifests

-- a name, or at least one table, ids strictly ascending
abbrev pub IsProperScope : Scope → Type 0
IsProperScope (Database name) = is_name name ≡ true
IsProperScope (Tables ids) = (0 < length ids) × (length ids < 2 ^ 64) × EachAfter (λ before id. (is_id id ≡ true) × (comes_after (λ n. n) before id ≡ true)) [] ids

-- what is true of every manifest: version 1 or 2; a job from 1; start < end, start <= floor <= end, full <= end; without history the floor
-- is the start; tables by ascending ids
pub record IsProperManifest (m : Manifest) : Type 0 where
  pub version : ((m.version == 1) || (m.version == 2)) ≡ true
  pub cluster : is_name m.cluster ≡ true
  pub from_one : 0 < m.job
  pub job : m.job < 2 ^ 32
  pub full : IsTime m.full
  pub start : IsTime m.start
  pub end : IsTime m.end
  pub floor : IsTime m.floor
  pub ends : (time_lt m.start m.end && time_le m.full m.end) ≡ true
  pub floors : (time_le m.start m.floor && time_le m.floor m.end) ≡ true
  pub history : (m.history || time_eq m.floor m.start) ≡ true
  pub scope : IsProperScope m.scope
  pub counted : length m.tables < 2 ^ 64
  pub tables : EachAfter (IsNextTable m.version) [] m.tables
