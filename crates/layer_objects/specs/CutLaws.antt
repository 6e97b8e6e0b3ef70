-- What the pieces of a list are, and what chunks they make.
use Rattle.std.specs.Prelude.{◌≡◌, ◌↔◌, ◌^◌, ℕ, suc, ◌<◌, ◌≤◌, true, List, [], length, Some, flat_map, slice_get}
use Rattle.std.specs.List.{AllByRecursion}
use Rattle.mvcc_keys.specs.declared.entries.Entry.{Entry}
use Rattle.row_codec.specs.declared.rows.Kind.{Kind}
use Rattle.version_store.specs.Tables.{Tables}
use Rattle.introduced_spans.specs.declared.plans.TablePlan.{TablePlan}
use Rattle.chunk_file.specs.Chunks.{IsChunk, chunk_bytes}
use Rattle.chunk_file.specs.Entries.{IsStored, is_entry}
use Rattle.layer_manifest.specs.Manifests.{IsProperChunk}
use Rattle.layer_objects.specs.Contents.{chunk_size, cut, entries_in, info_of, pieces_of}

-- joined, the pieces are the list; all but the last have n elements, and the last has no more; none is empty; and there is no piece
-- exactly where the list is empty
pub record AreItsPieces {X : Type 0} (n : ℕ) (xs : List X) (pieces : List (List X)) : Type 0 where
  pub joined : flat_map (λ (piece : List X). piece) pieces ≡ xs
  pub full : (i : ℕ) (piece : List X) → suc i < length pieces → slice_get pieces i ≡ Some piece → length piece ≡ n
  pub some : (i : ℕ) (piece : List X) → slice_get pieces i ≡ Some piece → (0 < length piece) × (length piece ≤ n)
  pub none : (pieces ≡ []) ↔ (xs ≡ [])

-- entries are cut into pieces of 256
pub record EntriesAreCut : Type 0 where
  pub size : chunk_size ≡ 256
  pub pieces : (n : ℕ) (entries : List Entry) → 0 < n → AreItsPieces n entries (cut n entries)

-- ---- chunks of tables

-- Where the entries of a plan are entries of a table with key columns of these kinds, its pieces are chunks of the table.
abbrev pub PiecesAreChunks : Type 0
PiecesAreChunks = (h : Tables) (kinds : List Kind) (plan : TablePlan) → AllByRecursion (λ (e : Entry). is_entry plan.id kinds e ≡ true) (entries_in h plan) → AllByRecursion (IsChunk plan.id kinds) (pieces_of h plan)

-- What a manifest tells of a chunk of a table, whose bytes have a length of 64 bits, is proper in version 2.
abbrev pub InfosAreProper : Type 0
InfosAreProper = (table : ℕ) (kinds : List Kind) (piece : List Entry) → IsChunk table kinds piece → AllByRecursion IsStored piece → length (chunk_bytes piece) < 2 ^ 64 → IsProperChunk 2 table kinds (info_of piece)
