-- What a layer's objects hold: the entries of each table cut into chunks, and the manifest that tells of them.
use Rattle.std.specs.Prelude.{ℕ, zero, suc, Bool, List, [], ◌∷◌, ◌++◌, length, map, take, drop, fold, Option, Some, None, ◌==◌, if◌then◌else◌}
use Rattle.std.specs.List.{AllByRecursion, flat_map}
use Rattle.std.specs.Ordering.{is_lt}
use Rattle.sha2.specs.Sha256.{sha256}
use Rattle.mvcc_keys.specs.Times.{Time}
use Rattle.mvcc_keys.specs.declared.entries.Entry.{Entry}
use Rattle.table_descriptors.specs.declared.scopes.Scope.{Scope}
use Rattle.table_descriptors.specs.Descriptors.{IsProperSchema}
use Rattle.schema_catalog.specs.Catalogs.{Schemas, history_of}
use Rattle.version_store.specs.Tables.{Tables, bytes_cmp}
use Rattle.span_export.specs.Plans.{plan_entries}
use Rattle.introduced_spans.specs.declared.plans.LayerPlan.{LayerPlan}
use Rattle.introduced_spans.specs.declared.plans.TablePlan.{TablePlan}
use Rattle.chunk_file.specs.Chunks.{chunk_bytes}
use Rattle.mvcc_keys.specs.Entries.{key_of, end_of}
use Rattle.layer_manifest.specs.declared.manifest.ChunkInfo.{ChunkInfo}
use Rattle.layer_manifest.specs.declared.manifest.TablePart.{TablePart}
use Rattle.layer_manifest.specs.declared.manifest.Manifest.{Manifest}
use Rattle.layer_manifest.specs.ManifestFiles.{manifest_code}
use Rattle.layer_model.specs.declared.names.LayerName.{LayerName}
use Rattle.collection_dir.specs.Versions.{first_version}
use Rattle.layer_model.specs.Layers.{LayerObjects}
use Rattle.introduced_spans.specs.Spans.{layer_descriptors}

-- ---- entries, cut into pieces

-- the entries of a chunk; the last of a table has fewer
unfoldable pub chunk_size : ℕ
chunk_size = 256

-- so many pieces of n elements, or fewer where the elements end
abbrev pub cut_times : {X : Type 0} → ℕ → ℕ → List X → List (List X)
cut_times zero n xs = []
cut_times (suc times) n [] = []
cut_times (suc times) n (x ∷ xs) = take n (x ∷ xs) ∷ cut_times times n (drop n (x ∷ xs))

-- pieces of n elements, the last smaller; there are no more pieces than elements
unfoldable pub cut : {X : Type 0} → ℕ → List X → List (List X)
cut n xs = cut_times (length xs) n xs

-- the entries of a table
abbrev pub entries_in : Tables → TablePlan → List Entry
entries_in h plan = plan_entries h plan.id plan.plan

-- the pieces of a table: the entries of its plan, cut
abbrev pub pieces_of : Tables → TablePlan → List (List Entry)
pieces_of h plan = cut chunk_size (entries_in h plan)

-- the pieces of all tables, one after the other
abbrev pub in_a_row : List (List (List Entry)) → List (List Entry)
in_a_row tables = flat_map (λ (pieces : List (List Entry)). pieces) tables

-- ---- what a manifest tells of a chunk

abbrev pub lesser : List ℕ → List ℕ → List ℕ
lesser a b = if is_lt (bytes_cmp b a) then b else a

abbrev pub greater : List ℕ → List ℕ → List ℕ
greater a b = if is_lt (bytes_cmp a b) then b else a

-- the least of a key and the keys of entries
abbrev pub least_key : List ℕ → List Entry → List ℕ
least_key key es = fold (λ k e. lesser k (key_of e)) key es

-- the greatest of a key and the keys and ends of entries
abbrev pub greatest_key : List ℕ → List Entry → List ℕ
greatest_key key es = fold (λ k e. greater k (end_of e)) key es

-- the least and the greatest key of a chunk
abbrev pub bounds_of : List Entry → Option (List ℕ × List ℕ)
bounds_of [] = None
bounds_of (e ∷ es) = Some (least_key (key_of e) es, greatest_key (end_of e) es)

-- its entries, the length and the SHA-256 of its bytes, its bounds
unfoldable pub info_of : List Entry → ChunkInfo
info_of piece = record { entries = length piece; length = length (chunk_bytes piece); digest = sha256 (chunk_bytes piece); bounds = bounds_of piece }

-- ---- tables of a manifest

-- a table without chunks
abbrev pub part_of : Schemas → Bool → Time → Time → TablePlan → TablePart
part_of catalog history floor end plan = record { id = plan.id; introduced = plan.introduced; descriptors = layer_descriptors history floor end (history_of catalog plan.id); chunks = [] }

-- the descriptors of all tables are proper ones
abbrev pub AreProper : List TablePart → Type 0
AreProper tables = AllByRecursion (λ (t : TablePart). AllByRecursion IsProperSchema t.descriptors) tables

-- a table with more pieces as its chunks
abbrev pub with_pieces : TablePart → List (List Entry) → TablePart
with_pieces t pieces = record { id = t.id; introduced = t.introduced; descriptors = t.descriptors; chunks = t.chunks ++ map info_of pieces }

-- the same for each table
abbrev pub with_each : List TablePart → List (List (List Entry)) → List TablePart
with_each [] tables = []
with_each (t ∷ ts) [] = t ∷ ts
with_each (t ∷ ts) (pieces ∷ tables) = with_pieces t pieces ∷ with_each ts tables

-- ---- layers

abbrev pub with_tables : Manifest → List TablePart → Manifest
with_tables m tables = record m { tables = tables }

-- the manifest of a layer before its chunks are known, in version 2
abbrev pub bare_manifest : LayerName → Bool → Scope → LayerPlan → Schemas → Manifest
bare_manifest name history scope plan catalog = record {
  cluster = name.cluster;
  job = name.job;
  full = name.full;
  start = name.start;
  end = name.end;
  floor = plan.floor;
  history = history;
  scope = scope;
  tables = map (part_of catalog history plan.floor name.end) plan.tables;
  version = 2;
}

-- a manifest in a version: the first has no bounds
abbrev pub in_version : ℕ → Manifest → Manifest
in_version version m = if version == 1 then first_version m else m

-- a layer of that name with this manifest, and with these pieces as its chunks
abbrev pub layer_of : LayerName → Manifest → List (List Entry) → LayerObjects
layer_of name m pieces = record { name = name; manifest = manifest_code m; chunks = map chunk_bytes pieces }
