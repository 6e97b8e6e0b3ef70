-- The objects of one layer, and when objects hold them.
use Rattle.std.specs.Prelude.{◌≡◌, ◌≢◌, ℕ, ◌<◌, ◌≤◌, List, [], ◌∷◌, length, Option, Some, option_map}
use Rattle.std.specs.List.{slice_get}
use Rattle.sha2.specs.Sha256.{sha256}
use Rattle.outside_world.specs.Objects.{Objects, at}
use Rattle.layer_model.specs.declared.names.LayerName.{LayerName}
use Rattle.layer_model.specs.declared.names.Part.{Part}
use Rattle.layer_model.specs.declared.names.Part.TheVariants.{Gate, Manifest, Chunk, Mark}
use Rattle.layer_model.specs.Names.{object_name, IsNumbered}

-- a layer: its name, the bytes of its manifest, and the bytes of its chunks by number
pub record LayerObjects : Type 0 where
  pub name : LayerName
  pub manifest : List ℕ
  pub chunks : List (List ℕ)

-- the parts of a layer: its gate, its manifest, each of its chunks, and the mark of each
abbrev pub HasPart : LayerObjects → Part → Type 0
HasPart w Gate = Unit {0}
HasPart w Manifest = Unit {0}
HasPart w (Chunk i) = i < length w.chunks
HasPart w (Mark i) = i < length w.chunks

-- the bytes of a part: the byte 1 for the gate, and for a mark the SHA-256 of its chunk
abbrev pub wanted : LayerObjects → Part → Option (List ℕ)
wanted w Gate = Some (1 ∷ [])
wanted w Manifest = Some w.manifest
wanted w (Chunk i) = slice_get w.chunks i
wanted w (Mark i) = option_map sha256 (slice_get w.chunks i)

abbrev pub name_of_part : LayerObjects → Part → List ℕ
name_of_part w part = object_name w.name part

-- the object of a part has its bytes
abbrev pub Holds : LayerObjects → Part → Objects → Type 0
Holds w part objects = at objects (name_of_part w part) ≡ wanted w part

-- the gate holds exactly the byte 1
abbrev pub IsOpen : LayerObjects → Objects → Type 0
IsOpen w objects = Holds w Gate objects

-- the mark of a chunk holds exactly the SHA-256 of the chunk's bytes
abbrev pub IsMarked : LayerObjects → ℕ → Objects → Type 0
IsMarked w i objects = Holds w (Mark i) objects

-- each part is there with its bytes
abbrev pub IsWhole : LayerObjects → Objects → Type 0
IsWhole w objects = (part : Part) → HasPart w part → Holds w part objects

-- Where the gate is open the layer is whole, and a chunk that is marked is there with its bytes.
pub record IsSafe (w : LayerObjects) (objects : Objects) : Type 0 where
  pub open_whole : IsOpen w objects → IsWhole w objects
  pub marked : (i : ℕ) → i < length w.chunks → IsMarked w i objects → Holds w (Chunk i) objects

-- at most 1,000,000 chunks, since their numbers have six digits
pub record IsLayer (w : LayerObjects) : Type 0 where
  pub few : length w.chunks ≤ 1000000

-- a name is that of a part of the layer
abbrev pub IsPartName : LayerObjects → List ℕ → Type 0
IsPartName w n = (part : Part) × HasPart w part × (n ≡ name_of_part w part)

-- a name that is none of the layer's
abbrev pub IsOutside : LayerObjects → List ℕ → Type 0
IsOutside w n = (part : Part) → HasPart w part → n ≢ name_of_part w part

-- different parts of one layer have different names
abbrev pub PartNamesDiffer : Type 0
PartNamesDiffer = (w : LayerObjects) (p q : Part) → IsNumbered p → IsNumbered q → p ≢ q → name_of_part w p ≢ name_of_part w q
