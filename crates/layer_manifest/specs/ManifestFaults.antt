-- The items of a manifest in their order, and which place is the first fault of bytes that are no manifest.
use Rattle.std.specs.Prelude.{◌≡◌, ℕ, ◌+◌, ◌<◌, ◌≤◌, ◌^◌, Bool, true, ◌||◌, ◌==◌, List, [], ◌∷◌}
use Rattle.key_encoding.specs.Spelling.{uvarint}
use Rattle.mvcc_keys.specs.Times.{Time, IsTime, time_le, time_lt, time_eq}
use Rattle.mvcc_keys.specs.Codes.{time_bytes}
use Rattle.row_codec.specs.FirstFaults.{Grammar, Over, Item, FaultsAreFirst}
use Rattle.row_codec.specs.declared.rows.Kind.{Kind}
use Rattle.table_descriptors.specs.Fields.{flag_code}
use Rattle.table_descriptors.specs.Descriptors.{Schema, IsProperSchema}
use Rattle.table_descriptors.specs.DescriptorFaults.{counted, flag_item, name_item, number_from_one, time_item}
use Rattle.table_descriptors.specs.declared.scopes.Scope.{Scope}
use Rattle.layer_manifest.specs.Manifests.{IsProperChunk, IsProperScope, chunk_count, comes_after, is_next_descriptor, kinds_of, part_id}
use Rattle.layer_manifest.specs.ManifestFiles.{chunk_code, descriptor_code, read_manifest, scope_code, version_code}
use Rattle.layer_manifest.specs.declared.manifest.ChunkInfo.{ChunkInfo}
use Rattle.layer_manifest.specs.declared.manifest.TablePart.{TablePart}

-- ---- before the tables

-- the mark of version 1 or 2
abbrev pub version_item : (ℕ → Grammar) → Grammar
version_item = Item (λ (version : ℕ). ((version == 1) || (version == 2)) ≡ true) version_code

-- after the start, and not before the time of the full layer
abbrev pub end_item : Time → Time → (Time → Grammar) → Grammar
end_item full start = Item (λ (end : Time). IsTime end × (time_lt start end ≡ true) × (time_le full end ≡ true)) time_bytes

-- from the start to the end
abbrev pub floor_item : Time → Time → (Time → Grammar) → Grammar
floor_item start end = Item (λ (floor : Time). IsTime floor × (time_le start floor ≡ true) × (time_le floor end ≡ true)) time_bytes

-- without history the floor is the start
abbrev pub history_item : Time → Time → (Bool → Grammar) → Grammar
history_item start floor = Item (λ (history : Bool). (history || time_eq floor start) ≡ true) (λ history. flag_code history ∷ [])

-- a database, or tables, as one item
abbrev pub scope_item : (Scope → Grammar) → Grammar
scope_item = Item IsProperScope scope_code

-- ---- tables

-- a descriptor with its length, as one item: of the table, of a later date than the last, with the key columns and kinds of the first
abbrev pub descriptor_item : ℕ → List Schema → (Schema → Grammar) → Grammar
descriptor_item id before = Item (λ (d : Schema). IsProperSchema d × (is_next_descriptor id before d ≡ true)) descriptor_code

-- a chunk's entries, length, SHA-256 and, in version 2, its bounds, as one item
abbrev pub chunk_item : ℕ → ℕ → List Kind → (ChunkInfo → Grammar) → Grammar
chunk_item version table kinds = Item (IsProperChunk version table kinds) chunk_code

-- a table after others: a greater id; whether it is introduced; at least one descriptor; no more than 1,000,000 chunks up to here
abbrev pub table_items : ℕ → List TablePart → (TablePart → Grammar) → Grammar
table_items version before next =
    Item (λ (id : ℕ). (id < 2 ^ 32) × (comes_after part_id before id ≡ true)) uvarint (λ id. flag_item (λ introduced.
    counted (λ n. (0 < n) × (n < 2 ^ 64)) (λ n. descriptor_item id) (λ descriptors.
    counted (λ n. chunk_count before + n ≤ 1000000) (λ n others. chunk_item version id (kinds_of descriptors)) (λ chunks.
    next (record { id = id; introduced = introduced; descriptors = descriptors; chunks = chunks })))))

-- ---- manifests

-- version; cluster; job, from 1; full, start, end, floor; history; scope; tables
abbrev pub manifest_grammar : Grammar
manifest_grammar =
    version_item (λ version. name_item (λ cluster. number_from_one (λ job. time_item (λ full. time_item (λ start. end_item full start (λ end. floor_item start end (λ floor. history_item start floor (λ history. scope_item (λ scope.
    counted (λ n. n < 2 ^ 64) (λ n. table_items version) (λ tables. Over))))))))))

-- bytes that are no manifest of either version are refused where their first fault is
abbrev pub ManifestFaultsAreFirst : Type 0
ManifestFaultsAreFirst = FaultsAreFirst manifest_grammar read_manifest
