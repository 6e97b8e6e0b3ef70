-- A chunk's bytes, tested by what the manifest tells of the chunk.
use Rattle.std.specs.Prelude.{ℕ, Bool, true, ◌&&◌, ◌==◌, List, Option, Some, None, length, Result, Ok, Err, if◌then◌else◌}
use Rattle.std.specs.List.{list_all, list_any}
use Rattle.std.specs.Ordering.{is_eq, is_le}
use Rattle.mvcc_keys.specs.declared.entries.Entry.{Entry}
use Rattle.mvcc_keys.specs.Entries.{key_of, end_of}
use Rattle.row_codec.specs.declared.rows.Kind.{Kind}
use Rattle.version_store.specs.Tables.{bytes_cmp}
use Rattle.chunk_file.specs.Chunks.{read_chunk}
use Rattle.layer_manifest.specs.declared.manifest.ChunkInfo.{ChunkInfo}

-- no entry begins at a lesser key
abbrev pub none_below : List ℕ → List Entry → Bool
none_below key entries = list_all (λ e. is_le (bytes_cmp key (key_of e))) entries

abbrev pub begins_at : List ℕ → List Entry → Bool
begins_at key entries = list_any (λ e. is_eq (bytes_cmp (key_of e) key)) entries

-- no entry names a greater key
abbrev pub none_above : List ℕ → List Entry → Bool
none_above key entries = list_all (λ e. is_le (bytes_cmp (end_of e) key)) entries

abbrev pub ends_at : List ℕ → List Entry → Bool
ends_at key entries = list_any (λ e. is_eq (bytes_cmp (end_of e) key)) entries

-- the least and the greatest key; a manifest of version 1 tells none
abbrev pub are_bounds : Option (List ℕ × List ℕ) → List Entry → Bool
are_bounds None entries = true
are_bounds (Some keys) entries = (none_below keys.0 entries && begins_at keys.0 entries) && (none_above keys.1 entries && ends_at keys.1 entries)

-- the number of entries, the length of the bytes, the bounds
abbrev pub is_told : ChunkInfo → ℕ → List Entry → Bool
is_told info len entries = (length entries == info.entries) && (len == info.length) && are_bounds info.bounds entries

-- a chunk of which the manifest tells something else is malformed at 4, where the number of its entries stands
abbrev pub tested : ChunkInfo → ℕ → Result (List Entry) ℕ → Result (List Entry) ℕ
tested info len (Err offset) = Err offset
tested info len (Ok entries) = if is_told info len entries then Ok entries else Err 4

-- the entries of the chunk in these bytes, or the place where the chunk is malformed
unfoldable pub read_told : ℕ → List Kind → ChunkInfo → List ℕ → Result (List Entry) ℕ
read_told table kinds info bytes = tested info (length bytes) (read_chunk table kinds bytes)
