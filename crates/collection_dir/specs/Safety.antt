-- What each call on a layer promises of every image, and what it asks of the disk for that as it begins.
use Rattle.std.specs.Prelude.{◌≡◌, ◌<◌, ◌⊎◌, ℕ, false, List, length, Some, None}
use Rattle.std.specs.List.{slice_get}
use Rattle.outside_world.specs.Disk.{View, IsKnown, IsImage}
use Rattle.outside_world.specs.Moments.{InEachImage}
use Rattle.outside_world.specs.Objects.{Objects, at}
use Rattle.layer_model.specs.declared.names.LayerName.{LayerName}
use Rattle.layer_model.specs.declared.names.Part.{Part}
use Rattle.layer_model.specs.declared.names.Part.TheVariants.{Gate, Manifest, Chunk, Mark}
use Rattle.layer_model.specs.Layers.{LayerObjects, Holds, IsLayer, IsMarked, IsOpen, IsWhole}
use Rattle.layer_model.specs.Names.{object_name}

-- the same layer with other bytes as its manifest
abbrev pub with_manifest : LayerObjects → List ℕ → LayerObjects
with_manifest w bytes = record { name = w.name; manifest = bytes; chunks = w.chunks }

-- whole with its manifest, or with the bytes that its manifest has in an older version
abbrev pub IsWholeInEither : LayerObjects → List ℕ → Objects → Type 0
IsWholeInEither w older objects = IsWhole w objects ⊎ IsWhole (with_manifest w older) objects

-- Where the gate is open the layer is whole, in either version; and a chunk that is marked is there with its bytes.
pub record IsSafeInEither (w : LayerObjects) (older : List ℕ) (objects : Objects) : Type 0 where
  pub open_whole : IsOpen w objects → IsWholeInEither w older objects
  pub marked : (i : ℕ) → i < length w.chunks → IsMarked w i objects → Holds w (Chunk i) objects

-- An image as a call that may change the names in F leaves it: safe for the layer, and elsewhere as an image of the moment at which the call began.
pub record IsKept (F : List ℕ → Type 0) (w : LayerObjects) (older : List ℕ) (first : View) (image : Objects) : Type 0 where
  pub safe : IsSafeInEither w older image
  pub source : Objects
  pub was : IsImage first source
  pub elsewhere : (name : List ℕ) → ¬ F name → at image name ≡ at source name

-- ---- premises

-- The disk is known, and as the call begins the layer of that name is safe in each image, and its gate isn't touched.
pub record MayBegin (w : LayerObjects) (older : List ℕ) (layer : LayerName) (first : View) : Type 0 where
  pub known : IsKnown first
  pub name : w.name ≡ layer
  pub few : IsLayer w
  pub safe : InEachImage first (IsSafeInEither w older)
  pub gate : first.touched (object_name layer Gate) ≡ false

-- and the bytes are those of this chunk of the layer, and its mark isn't touched
pub record MayWriteChunk (w : LayerObjects) (older : List ℕ) (layer : LayerName) (i : ℕ) (bytes : List ℕ) (first : View) : Type 0 where
  pub may : MayBegin w older layer first
  pub has : i < length w.chunks
  pub bytes_are : slice_get w.chunks i ≡ Some bytes
  pub mark : first.touched (object_name layer (Mark i)) ≡ false

-- and the bytes are those of its manifest, and each chunk and each mark is there
pub record MayFinish (w : LayerObjects) (older : List ℕ) (layer : LayerName) (manifest : List ℕ) (first : View) : Type 0 where
  pub may : MayBegin w older layer first
  pub manifest_is : w.manifest ≡ manifest
  pub chunks : (i : ℕ) → i < length w.chunks → Holds w (Chunk i) first.objects
  pub marks : (i : ℕ) → i < length w.chunks → Holds w (Mark i) first.objects

-- and the gate is open, and the number is that of its chunks
pub record MayForget (w : LayerObjects) (older : List ℕ) (layer : LayerName) (chunks : ℕ) (first : View) : Type 0 where
  pub may : MayBegin w older layer first
  pub is_open : IsOpen w first.objects
  pub count : length w.chunks ≡ chunks

-- once its gate is shut for good, its marks may go
pub record MayUnmark (w : LayerObjects) (older : List ℕ) (layer : LayerName) (chunks : ℕ) (first : View) : Type 0 where
  pub may : MayBegin w older layer first
  pub count : length w.chunks ≡ chunks
  pub shut : InEachImage first (λ c. ¬ IsOpen w c)
  pub chunks_there : InEachImage first (λ c. (i : ℕ) → i < length w.chunks → Holds w (Chunk i) c)

-- once its marks are gone for good, its chunks may go
pub record MayUnchunk (w : LayerObjects) (older : List ℕ) (layer : LayerName) (chunks : ℕ) (first : View) : Type 0 where
  pub may : MayBegin w older layer first
  pub count : length w.chunks ≡ chunks
  pub shut : InEachImage first (λ c. ¬ IsOpen w c)
  pub unmarked : InEachImage first (λ c. (i : ℕ) → i < length w.chunks → ¬ IsMarked w i c)

-- ---- after forgetting

-- nothing stands under the numbered parts below a number
abbrev pub AreAbsent : LayerName → (ℕ → Part) → ℕ → Objects → Type 0
AreAbsent layer part n objects = (i : ℕ) → i < n → at objects (object_name layer (part i)) ≡ None

-- the gate, the manifest, the chunks and the marks of these numbers are absent
pub record IsForgotten (layer : LayerName) (chunks : ℕ) (objects : Objects) : Type 0 where
  pub gate : at objects (object_name layer Gate) ≡ None
  pub manifest : at objects (object_name layer Manifest) ≡ None
  pub chunks_gone : AreAbsent layer Chunk chunks objects
  pub marks_gone : AreAbsent layer Mark chunks objects
