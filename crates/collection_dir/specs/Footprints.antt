-- The names that each call on a layer may change, and the calls on the disk that it makes.
use Rattle.std.specs.Prelude.{◌≡◌, ◌<◌, ◌⊎◌, ℕ, zero, suc, Bool, true, List, [], ◌∷◌, ◌++◌, length, if◌then◌else◌}
use Rattle.outside_world.specs.declared.call.DiskCall.{DiskCall}
use Rattle.outside_world.specs.declared.call.DiskCall.TheVariants.{Put, Removal, Sync}
use Rattle.layer_model.specs.declared.names.LayerName.{LayerName}
use Rattle.layer_model.specs.declared.names.Part.{Part}
use Rattle.layer_model.specs.declared.names.Part.TheVariants.{Gate, Manifest, Chunk, Mark}
use Rattle.outside_world.specs.Objects.{Objects}
use Rattle.layer_model.specs.Layers.{IsMarked, IsPartName, LayerObjects}
use Rattle.layer_model.specs.Names.{object_name}

-- writing a chunk changes it and its mark
abbrev pub AtChunk : LayerName → ℕ → List ℕ → Type 0
AtChunk layer i n = (n ≡ object_name layer (Chunk i)) ⊎ (n ≡ object_name layer (Mark i))

-- finishing changes the gate and the manifest
abbrev pub AtFinish : LayerName → List ℕ → Type 0
AtFinish layer n = (n ≡ object_name layer Gate) ⊎ (n ≡ object_name layer Manifest)

abbrev pub AtGate : LayerName → List ℕ → Type 0
AtGate layer n = n ≡ object_name layer Gate

-- the marks of numbers below this
abbrev pub AtMarks : LayerName → ℕ → List ℕ → Type 0
AtMarks layer chunks n = (i : ℕ) × (i < chunks) × (n ≡ object_name layer (Mark i))

-- the manifest, and the chunks of numbers below this
abbrev pub AtChunks : LayerName → ℕ → List ℕ → Type 0
AtChunks layer chunks n = (n ≡ object_name layer Manifest) ⊎ (i : ℕ) × (i < chunks) × (n ≡ object_name layer (Chunk i))

-- forgetting changes all of these
abbrev pub AtForget : LayerName → ℕ → List ℕ → Type 0
AtForget layer chunks n = AtGate layer n ⊎ AtMarks layer chunks n ⊎ AtChunks layer chunks n

-- a chunk of the layer that is marked, or its mark
abbrev pub AtMarked : LayerObjects → Objects → List ℕ → Type 0
AtMarked w objects n = (i : ℕ) × (i < length w.chunks) × IsMarked w i objects × AtChunk w.name i n

-- the other names of its parts
abbrev pub AtUnmarked : LayerObjects → Objects → List ℕ → Type 0
AtUnmarked w objects n = IsPartName w n × ¬ AtMarked w objects n

-- ---- calls, each with its answer Ok

abbrev pub put_at : LayerName → Part → DiskCall × Bool
put_at layer part = (Put (object_name layer part), true)

abbrev pub removal_at : LayerName → Part → DiskCall × Bool
removal_at layer part = (Removal (object_name layer part), true)

abbrev pub synced : DiskCall × Bool
synced = (Sync, true)

-- A chunk is on the disk before its mark is put. One that is marked is not put again.
abbrev pub chunk_calls : LayerName → ℕ → Bool → List (DiskCall × Bool)
chunk_calls layer i wrote = if wrote then put_at layer (Chunk i) ∷ synced ∷ put_at layer (Mark i) ∷ [] else []

-- the manifest is on the disk before the gate is put, and then the gate
abbrev pub finish_calls : LayerName → List (DiskCall × Bool)
finish_calls layer = put_at layer Manifest ∷ synced ∷ put_at layer Gate ∷ synced ∷ []

-- the gate is removed, and that is on the disk
abbrev pub gate_calls : LayerName → List (DiskCall × Bool)
gate_calls layer = removal_at layer Gate ∷ synced ∷ []

-- the removals of numbered parts below a number, ascending
abbrev pub removals : LayerName → (ℕ → Part) → ℕ → List (DiskCall × Bool)
removals layer part zero = []
removals layer part (suc n) = removals layer part n ++ removal_at layer (part n) ∷ []

-- the marks are removed, and that is on the disk
abbrev pub mark_calls : LayerName → ℕ → List (DiskCall × Bool)
mark_calls layer chunks = removals layer Mark chunks ++ synced ∷ []

-- the chunks are removed, then the manifest, and that is on the disk
abbrev pub rest_calls : LayerName → ℕ → List (DiskCall × Bool)
rest_calls layer chunks = removals layer Chunk chunks ++ removal_at layer Manifest ∷ synced ∷ []

-- these in turn
abbrev pub forget_calls : LayerName → ℕ → List (DiskCall × Bool)
forget_calls layer chunks = gate_calls layer ++ (mark_calls layer chunks ++ rest_calls layer chunks)
