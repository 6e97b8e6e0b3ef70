-- When objects stand for layers: which layers of other clusters they hold, and what they may hold of the layers that the own cluster starts.
use Rattle.std.specs.Prelude.{◌≡◌, ◌≢◌, ℕ, List, [], ◌∷◌, length, ◌<◌, Some, None}
use Rattle.std.specs.List.{Contains}
use Rattle.outside_world.specs.Objects.{Objects, at}
use Rattle.layer_model.specs.declared.names.LayerName.{LayerName}
use Rattle.layer_model.specs.declared.names.ObjectName.{ObjectName}
use Rattle.layer_model.specs.declared.names.Part.{Part}
use Rattle.layer_model.specs.declared.names.Part.TheVariants.{Gate, Manifest, Chunk}
use Rattle.layer_model.specs.Names.{IsLayerName, object_name, read_name}
use Rattle.layer_model.specs.Layers.{HasPart, Holds, IsLayer, IsOpen, IsOutside, IsPartName, IsSafe, LayerObjects, name_of_part}

-- the own cluster, the layers that its jobs start, those of them that are finished, and the layers of other clusters
pub record Setting : Type 0 where
  pub cluster : List ℕ
  pub started : List LayerObjects
  pub finished : List LayerObjects
  pub foreign : List LayerObjects

-- layers with proper names, each name once
pub record AreLayers (layers : List LayerObjects) : Type 0 where
  pub layer : (w : LayerObjects) → Contains layers w → IsLayer w
  pub name : (w : LayerObjects) → Contains layers w → IsLayerName w.name
  pub once : (v w : LayerObjects) → Contains layers v → Contains layers w → v.name ≡ w.name → v ≡ w

-- the started layers are of the own cluster, the finished ones are among them, and the foreign ones are of other clusters
pub record IsProper (s : Setting) : Type 0 where
  pub started : AreLayers s.started
  pub foreign : AreLayers s.foreign
  pub finished : (w : LayerObjects) → Contains s.finished w → Contains s.started w
  pub own : (w : LayerObjects) → Contains s.started w → w.name.cluster ≡ s.cluster
  pub others : (w : LayerObjects) → Contains s.foreign w → w.name.cluster ≢ s.cluster

-- the gate of the layer with this name is open
abbrev pub IsOpenName : LayerName → Objects → Type 0
IsOpenName n objects = at objects (object_name n Gate) ≡ Some (1 ∷ [])

-- a layer of the list has this name
abbrev pub IsNameAmong : List LayerObjects → LayerName → Type 0
IsNameAmong layers n = (w : LayerObjects) × Contains layers w × (w.name ≡ n)

-- a layer is open with the bytes of its manifest and its chunks
pub record IsFilled (w : LayerObjects) (objects : Objects) : Type 0 where
  pub gate : IsOpen w objects
  pub manifest : Holds w Manifest objects
  pub chunks : (i : ℕ) → i < length w.chunks → Holds w (Chunk i) objects

-- The open layers of other clusters are the foreign ones with their bytes, marks aside; each open layer of the own cluster is a finished one; each started layer is safe, in the sense that is handed in; and each object with a name of the own cluster is a started layer's.
pub record StandsBy (Safe : LayerObjects → Objects → Type 0) (s : Setting) (objects : Objects) : Type 0 where
  pub foreign_filled : (w : LayerObjects) → Contains s.foreign w → IsFilled w objects
  pub foreign_only : (n : LayerName) → IsLayerName n → n.cluster ≢ s.cluster → IsOpenName n objects → IsNameAmong s.foreign n
  pub finished : (n : LayerName) → IsLayerName n → n.cluster ≡ s.cluster → IsOpenName n objects → IsNameAmong s.finished n
  pub safe : (w : LayerObjects) → Contains s.started w → Safe w objects
  pub belongs : (n : ObjectName) (text : List ℕ) → read_name text ≡ Some n → n.layer.cluster ≡ s.cluster → at objects text ≢ None → (w : LayerObjects) × Contains s.started w × IsPartName w text

-- the same, where safe means that an open layer is whole and a marked chunk is there
abbrev pub Stands : Setting → Objects → Type 0
Stands s objects = StandsBy IsSafe s objects

-- a fact of a layer that only its own objects decide
abbrev pub IsLocal : (LayerObjects → Objects → Type 0) → Type 0
IsLocal Safe = (w : LayerObjects) (a b : Objects) → ((part : Part) → HasPart w part → at b (name_of_part w part) ≡ at a (name_of_part w part)) → Safe w a → Safe w b

-- Let one map stand, and let another agree with it but on the names of one started layer. Where that layer is safe in the other, and is a finished one if its gate is open there, the other stands too.
abbrev pub LawOfOneLayer : Type 0
LawOfOneLayer = (s : Setting) → IsProper s → (w : LayerObjects) → Contains s.started w → (before after : Objects) → Stands s before
    → ((n : List ℕ) → IsOutside w n → at after n ≡ at before n) → IsSafe w after → (IsOpen w after → Contains s.finished w) → Stands s after

-- no objects stand where there is no layer of another cluster
abbrev pub EmptyStands : Type 0
EmptyStands = (s : Setting) → s.foreign ≡ [] → (objects : Objects) → ((n : List ℕ) → at objects n ≡ None) → Stands s objects
