-- Loads of chunks, and what they answer.
use Rattle.std.specs.Prelude.{◌≡◌, ℕ, Option, option_map, Result, Ok, Err, List, [], ◌∷◌, ◌++◌}
use Rattle.std.specs.Global.{Vec}
use Rattle.mvcc_keys.specs.declared.entries.Entry.{Entry}
use Rattle.row_codec.specs.declared.rows.Kind.{Kind}
use Rattle.chunk_file.specs.Chunks.{read_chunk}
use Rattle.layer_merge.specs.declared.chunks.MergeFault.{MergeFault}
use Rattle.layer_merge.specs.declared.chunks.MergeFault.TheVariants.{Chunk, Malformed, Memory}

-- ---- the list of loads

pub record Load : Type 0 where
  pub layer : ℕ
  pub table : ℕ
  pub chunk : ℕ

abbrev pub load : ℕ → ℕ → ℕ → Load
load layer table chunk = record { layer = layer; table = table; chunk = chunk }

-- the loads with one more, where they are told
abbrev pub with_load : ℕ → ℕ → ℕ → Option (List Load) → Option (List Load)
with_load layer table chunk told = option_map (λ ls. ls ++ load layer table chunk ∷ []) told

abbrev pub with_loads : List Load → Option (List Load) → Option (List Load)
with_loads more told = option_map (λ ls. ls ++ more) told

-- ---- answers

-- an answer by its bytes
abbrev pub bytes_of : {F : Type 0} → Result (Vec ℕ) F → Result (List ℕ) F
bytes_of (Ok v) = Ok v.items
bytes_of (Err f) = Err f

-- the entries of each chunk of a table, by layer and number
abbrev pub World : Type 0
World = ℕ → ℕ → List Entry

-- what loads may answer from a place on reads as the chunks of w
abbrev pub Gives : {C F : Type 0} → (C → C → ℕ → ℕ → ℕ → Result (List ℕ) F → Type 0) → ℕ → List Kind → World → C → Type 0
Gives {C} {F} came table kinds w from = (to : C) (layer number : ℕ) (bytes : List ℕ) → came from to layer table number (Ok bytes) → read_chunk table kinds bytes ≡ Ok (w layer number)

-- ---- faults

-- a load's own fault, or bytes that are no chunk of the table
abbrev pub IsLoadFault : {F : Type 0} → (ℕ → ℕ → ℕ → Result (List ℕ) F → Type 0) → ℕ → List Kind → ℕ → ℕ → MergeFault F → Type 0
IsLoadFault came table kinds layer number (Chunk f) = came layer table number (Err f)
IsLoadFault came table kinds layer number (Malformed l c offset) = (l ≡ layer) × (c ≡ number) × (bytes : List ℕ) × came layer table number (Ok bytes) × (read_chunk table kinds bytes ≡ Err offset)
IsLoadFault came table kinds layer number Memory = Unit {0}

-- it is a load's own fault, or want of memory
abbrev pub IsOthers : {F : Type 0} → MergeFault F → Type 0
IsOthers (Chunk f) = Unit {0}
IsOthers (Malformed l c offset) = ⊥
IsOthers Memory = Unit {0}
