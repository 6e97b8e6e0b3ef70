-- What the layers of a chain store of one table.
use Rattle.std.specs.Prelude.{◌≡◌, ℕ, ◌+◌, ◌-◌, ◌<◌, ◌≤◌, min, Bool, ◌&&◌, ◌==◌, List, [], ◌∷◌, length, take, map, filter_map, position, Option, Some, None, unwrap_or, if◌then◌else◌}
use Rattle.std.specs.List.{list_any, slice_get}
use Rattle.layer_manifest.specs.declared.manifest.ChunkInfo.{ChunkInfo}
use Rattle.layer_manifest.specs.declared.manifest.TablePart.{TablePart}
use Rattle.layer_manifest.specs.declared.manifest.Manifest.{Manifest}
use Rattle.layer_manifest.specs.Manifests.{chunk_count}
use Rattle.layer_merge.specs.FromLast.{from_last}
use Rattle.layer_merge.specs.declared.parts.Part.{Part}
use Rattle.layer_model.specs.declared.names.LayerName.{LayerName}

-- the chunks of a table in a layer, and the number of the first of them in the layer
pub record Stored : Type 0 where
  pub layer : LayerName
  pub introduced : Bool
  pub first : ℕ
  pub chunks : List ChunkInfo

abbrev pub stored : LayerName → Bool → ℕ → List ChunkInfo → Stored
stored layer introduced first chunks = record { layer = layer; introduced = introduced; first = first; chunks = chunks }

-- at least one chunk, with numbers below 1,000,000
pub record IsStoredPart (p : Stored) : Type 0 where
  pub some : 0 < length p.chunks
  pub few : p.first + length p.chunks ≤ 1000000

-- ---- places

-- a number past the last chunk stands for the last, so that each number has a chunk; a merge asks for none past it
abbrev pub index_of : Stored → ℕ → ℕ
index_of p chunk = min chunk (length p.chunks - 1)

-- the number in its layer of a chunk of a part
abbrev pub number_of : Stored → ℕ → ℕ
number_of p chunk = p.first + index_of p chunk

-- the part of a place, or one that stands for places without a part
abbrev pub part_at : List Stored → Stored → ℕ → Stored
part_at parts other layer = unwrap_or (slice_get parts layer) other

-- ---- the parts of a chain that count

abbrev pub is_of : ℕ → TablePart → Bool
is_of table t = t.id == table

-- a manifest says that its layer introduces the table
abbrev pub introduces : ℕ → LayerName × Manifest → Bool
introduces table entry = list_any (λ (t : TablePart). (t.id == table) && t.introduced) entry.1.tables

abbrev pub with_part : LayerName → ℕ → Option TablePart → Option Stored
with_part layer first None = None
with_part layer first (Some t) = if length t.chunks == 0 then None else Some (stored layer t.introduced first t.chunks)

abbrev pub with_place : LayerName → List TablePart → Option ℕ → Option Stored
with_place layer tables None = None
with_place layer tables (Some place) = with_part layer (chunk_count (take place tables)) (slice_get tables place)

-- what a layer stores of a table, if it has a chunk of it
abbrev pub part_of : ℕ → LayerName × Manifest → Option Stored
part_of table entry = with_place entry.0 entry.1.tables (position (is_of table) entry.1.tables)

-- the layers that count: from the last one on that introduces the table, or all where none does
abbrev pub counted_layers : ℕ → List (LayerName × Manifest) → List (LayerName × Manifest)
counted_layers table layers = from_last (introduces table) layers

-- what the layers of a chain that count store of the table
unfoldable pub counted_parts : ℕ → List (LayerName × Manifest) → List Stored
counted_parts table layers = filter_map (part_of table) (counted_layers table layers)

-- ---- the parts of a merge

-- the part of a merge at this place
pub record IsPartOf (place : ℕ) (s : Stored) (p : Part) : Type 0 where
  pub layer : p.layer ≡ place
  pub introduced : p.introduced ≡ s.introduced
  pub chunks : p.chunks ≡ length s.chunks
  pub bounds : p.bounds.items ≡ map (λ (info : ChunkInfo). info.bounds) s.chunks

abbrev pub ArePartsFrom : ℕ → List Stored → List Part → Type 0
ArePartsFrom place [] ps = ps ≡ []
ArePartsFrom place (s ∷ ss) [] = ⊥
ArePartsFrom place (s ∷ ss) (p ∷ ps) = IsPartOf place s p × ArePartsFrom (place + 1) ss ps

-- the parts of a merge, in the order of the chain
abbrev pub AreParts : List Stored → List Part → Type 0
AreParts ss ps = ArePartsFrom 0 ss ps
