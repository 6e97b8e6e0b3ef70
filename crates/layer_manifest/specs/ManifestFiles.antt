-- Manifests in files: how they are spelled, and how they are read, item by item.
use Rattle.std.specs.Prelude.{◌≡◌, ℕ, ◌+◌, Bool, true, ◌&&◌, ◌||◌, ◌==◌, nat_lt, nat_le, Option, Some, None, Result, Ok, Err, List, [], ◌∷◌, ◌++◌, length, if◌then◌else◌}
use Rattle.std.specs.Str.{bytes_eq}
use Rattle.key_encoding.specs.Spelling.{uvarint}
use Rattle.mvcc_keys.specs.Times.{Time, time_lt, time_le, time_eq}
use Rattle.mvcc_keys.specs.Codes.{time_bytes}
use Rattle.list_laws.specs.Bytes.{AreBytes}
use Rattle.row_codec.specs.declared.rows.Kind.{Kind}
use Rattle.row_codec.specs.RowValues.{sized}
use Rattle.table_descriptors.specs.Fields.{◌then◌, made_of, such, item, list_code, read_list, read_number, read_id, read_count, read_exactly, read_sized, read_name, read_time, read_byte, flag_of, flag_code, whole}
use Rattle.table_descriptors.specs.Descriptors.{Schema}
use Rattle.table_descriptors.specs.DescriptorFiles.{schema_code, read_descriptor}
use Rattle.table_descriptors.specs.declared.scopes.Scope.{Scope}
use Rattle.table_descriptors.specs.declared.scopes.Scope.TheVariants.{Database, Tables}
use Rattle.layer_manifest.specs.Manifests.{comes_after, are_bounds, is_next_descriptor, kinds_of, part_id, chunk_count, IsProperManifest}
use Rattle.layer_manifest.specs.declared.faults.ManifestFault.{ManifestFault}
use Rattle.layer_manifest.specs.declared.faults.ManifestFault.TheVariants.{Malformed, Memory}
use Rattle.layer_manifest.specs.declared.manifest.ChunkInfo.{ChunkInfo}
use Rattle.layer_manifest.specs.declared.manifest.TablePart.{TablePart}
use Rattle.layer_manifest.specs.declared.manifest.Manifest.{Manifest}

-- ---- spelling

-- 4d 41 4e 31 or 4d 41 4e 32
abbrev pub version_code : ℕ → List ℕ
version_code version = 77 ∷ 65 ∷ 78 ∷ (48 + version) ∷ []

abbrev pub bounds_code : Option (List ℕ × List ℕ) → List ℕ
bounds_code None = []
bounds_code (Some keys) = sized keys.0 ++ sized keys.1

-- entries, length, SHA-256, bounds
abbrev pub chunk_code : ChunkInfo → List ℕ
chunk_code c = uvarint c.entries ++ (uvarint c.length ++ (c.digest ++ bounds_code c.bounds))

abbrev pub descriptor_code : Schema → List ℕ
descriptor_code d = sized (schema_code d)

-- id, whether it is introduced, descriptors, chunks
abbrev pub table_code : TablePart → List ℕ
table_code t = uvarint t.id ++ (flag_code t.introduced ∷ (list_code descriptor_code t.descriptors ++ list_code chunk_code t.chunks))

abbrev pub scope_code : Scope → List ℕ
scope_code (Database name) = 1 ∷ sized name
scope_code (Tables ids) = 2 ∷ list_code uvarint ids

-- version, cluster, job
abbrev pub names_code : Manifest → List ℕ
names_code m = version_code m.version ++ (sized m.cluster ++ uvarint m.job)

-- full, start, end, floor, history
abbrev pub times_code : Manifest → List ℕ
times_code m = time_bytes m.full ++ (time_bytes m.start ++ (time_bytes m.end ++ (time_bytes m.floor ++ flag_code m.history ∷ [])))

-- those, the scope, the tables
unfoldable pub manifest_code : Manifest → List ℕ
manifest_code m = names_code m ++ (times_code m ++ (scope_code m.scope ++ list_code table_code m.tables))

-- ---- reading

abbrev pub is_version_code : List ℕ → Bool
is_version_code b = bytes_eq b (version_code 1) || bytes_eq b (version_code 2)

abbrev pub version_of : List ℕ → ℕ
version_of b = if bytes_eq b (version_code 1) then 1 else 2

abbrev pub read_version : List ℕ → Result (ℕ × List ℕ) ℕ
read_version b = made_of version_of (such is_version_code (read_exactly 4) b)

-- the end is after the start, and not before the time of the full layer
abbrev pub read_end : Time → Time → List ℕ → Result (Time × List ℕ) ℕ
read_end full start = such (λ end. time_lt start end && time_le full end) read_time

abbrev pub read_floor : Time → Time → List ℕ → Result (Time × List ℕ) ℕ
read_floor start end = such (λ floor. time_le start floor && time_le floor end) read_time

-- without history the floor is the start
abbrev pub read_history : Time → Time → List ℕ → Result (Bool × List ℕ) ℕ
read_history start floor = such (λ history. history || time_eq floor start) (read_byte flag_of)

-- ---- the scope, as one item

unfoldable pub read_scope_id : List ℕ → List ℕ → Result (ℕ × List ℕ) ℕ
read_scope_id before b = such (comes_after (λ n. n) before) read_id b

abbrev pub read_ids : List ℕ → Result (List ℕ × List ℕ) ℕ
read_ids = read_list (λ n. nat_lt 0 n) (λ n. read_scope_id)

-- 01 and a database, or 02 and tables
abbrev pub scope_at : ℕ → List ℕ → Result (Scope × List ℕ) ℕ
scope_at mark b =
    if mark == 1 then made_of (λ name. Database name) (read_name b)
    else if mark == 2 then made_of (λ ids. Tables ids) (read_ids b)
    else Err (length b)

abbrev pub read_marked_scope : List ℕ → Result (Scope × List ℕ) ℕ
read_marked_scope [] = Err 0
read_marked_scope (mark ∷ b) = scope_at mark b

unfoldable pub read_scope : List ℕ → Result (Scope × List ℕ) ℕ
read_scope b = item read_marked_scope b

-- ---- descriptors

abbrev pub beside_or : {X : Type 0} → ℕ → List ℕ → Result X ℕ → Result (X × List ℕ) ℕ
beside_or at rest (Ok x) = Ok (x, rest)
beside_or at rest (Err offset) = Err at

abbrev pub inside_of : {X : Type 0} → (List ℕ → Result X ℕ) → ℕ → Result (List ℕ × List ℕ) ℕ → Result (X × List ℕ) ℕ
inside_of read at (Ok p) = beside_or at p.1 (read p.0)
inside_of read at (Err left) = Err left

-- a value whose bytes stand after their length, as one item
abbrev pub inside : {X : Type 0} → (List ℕ → Result X ℕ) → List ℕ → Result (X × List ℕ) ℕ
inside read b = inside_of read (length b) (read_sized b)

-- a descriptor of a table after others
unfoldable pub read_next_descriptor : ℕ → List Schema → List ℕ → Result (Schema × List ℕ) ℕ
read_next_descriptor id before b = such (is_next_descriptor id before) (inside read_descriptor) b

abbrev pub read_descriptors : ℕ → List ℕ → Result (List Schema × List ℕ) ℕ
read_descriptors id = read_list (λ n. nat_lt 0 n) (λ n. read_next_descriptor id)

-- ---- chunks

abbrev pub read_keys : ℕ → List Kind → List ℕ → Result ((List ℕ × List ℕ) × List ℕ) ℕ
read_keys table kinds = such (are_bounds table kinds) (read_sized then (λ least. read_sized))

-- bounds stand exactly in version 2
abbrev pub read_bounds : ℕ → ℕ → List Kind → List ℕ → Result (Option (List ℕ × List ℕ) × List ℕ) ℕ
read_bounds version table kinds b = if version == 1 then Ok (None, b) else made_of (λ keys. Some keys) (read_keys table kinds b)

abbrev pub is_entry_count : ℕ → Bool
is_entry_count n = nat_lt 0 n && nat_le n 256

abbrev pub ChunkFields : Type 0
ChunkFields = ℕ × (ℕ × (List ℕ × Option (List ℕ × List ℕ)))

abbrev pub chunk_of : ChunkFields → ChunkInfo
chunk_of p = record { entries = p.0; length = p.1.0; digest = p.1.1.0; bounds = p.1.1.1 }

abbrev pub read_chunk_fields : ℕ → ℕ → List Kind → List ℕ → Result (ChunkInfo × List ℕ) ℕ
read_chunk_fields version table kinds b =
    made_of chunk_of ((such is_entry_count read_number then (λ entries. read_number then (λ len. read_exactly 32 then (λ digest. read_bounds version table kinds)))) b)

-- a chunk, as one item
unfoldable pub read_chunk : ℕ → ℕ → List Kind → List ℕ → Result (ChunkInfo × List ℕ) ℕ
read_chunk version table kinds b = item (read_chunk_fields version table kinds) b

-- no more than 1,000,000 chunks in all
abbrev pub read_chunks : ℕ → ℕ → List Kind → ℕ → List ℕ → Result (List ChunkInfo × List ℕ) ℕ
read_chunks version table kinds so_far = read_list (λ n. nat_le (so_far + n) 1000000) (λ n before. read_chunk version table kinds)

-- ---- tables

abbrev pub TableFields : Type 0
TableFields = ℕ × (Bool × (List Schema × List ChunkInfo))

abbrev pub table_of : TableFields → TablePart
table_of p = record { id = p.0; introduced = p.1.0; descriptors = p.1.1.0; chunks = p.1.1.1 }

-- a table after others
unfoldable pub read_table : ℕ → List TablePart → List ℕ → Result (TablePart × List ℕ) ℕ
read_table version before b =
    made_of table_of ((such (comes_after part_id before) read_id then (λ id. read_byte flag_of then (λ introduced. read_descriptors id then (λ descriptors. read_chunks version id (kinds_of descriptors) (chunk_count before))))) b)

abbrev pub read_tables : ℕ → List ℕ → Result (List TablePart × List ℕ) ℕ
read_tables version = read_list (λ n. true) (λ n. read_table version)

-- ---- manifests

-- version, cluster, job, full, start, end, floor, history, scope, tables
abbrev pub ManifestFields : Type 0
ManifestFields = ℕ × (List ℕ × (ℕ × (Time × (Time × (Time × (Time × (Bool × (Scope × List TablePart))))))))

abbrev pub read_items_of_manifest : List ℕ → Result (ManifestFields × List ℕ) ℕ
read_items_of_manifest =
    read_version then (λ version. read_name then (λ cluster. read_count then (λ job. read_time then (λ full. read_time then (λ start. read_end full start then (λ end.
    read_floor start end then (λ floor. read_history start floor then (λ history. read_scope then (λ scope. read_tables version)))))))))

abbrev pub manifest_of : ManifestFields → Manifest
manifest_of p = record {
  cluster = p.1.0;
  job = p.1.1.0;
  full = p.1.1.1.0;
  start = p.1.1.1.1.0;
  end = p.1.1.1.1.1.0;
  floor = p.1.1.1.1.1.1.0;
  history = p.1.1.1.1.1.1.1.0;
  scope = p.1.1.1.1.1.1.1.1.0;
  tables = p.1.1.1.1.1.1.1.1.1;
  version = p.0;
}

unfoldable pub read_manifest_front : List ℕ → Result (Manifest × List ℕ) ℕ
read_manifest_front b = made_of manifest_of (read_items_of_manifest b)

-- a manifest, or the place where the first item begins that doesn't read or doesn't go with those before it, or the first byte left over
unfoldable pub read_manifest : List ℕ → Result Manifest ℕ
read_manifest b = whole (length b) (read_manifest_front b)

-- what a function returned is the reading, unless memory ran out
abbrev pub FaultAnswers : ManifestFault → Result Manifest ℕ → Type 0
FaultAnswers Memory read = Unit {0}
FaultAnswers (Malformed offset) read = read ≡ Err offset

abbrev pub Answers : Result Manifest ManifestFault → Result Manifest ℕ → Type 0
Answers (Ok m) read = read ≡ Ok m
Answers (Err e) read = FaultAnswers e read

-- manifests of both versions are read as they are written, and different ones have different bytes
pub record ManifestsAreExact : Type 0 where
  pub found : (m : Manifest) → IsProperManifest m → read_manifest (manifest_code m) ≡ Ok m
  pub only : (b : List ℕ) (m : Manifest) → AreBytes b → read_manifest b ≡ Ok m → IsProperManifest m × (b ≡ manifest_code m)
  pub apart : (m n : Manifest) → IsProperManifest m → IsProperManifest n → manifest_code m ≡ manifest_code n → m ≡ n
