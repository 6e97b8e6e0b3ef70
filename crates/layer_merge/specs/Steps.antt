-- What a walk did between two places: which chunks it loaded, which it holds, and why it ended.
use Rattle.std.specs.Prelude.{◌≡◌, ◌⊎◌, ◌≤◌, ◌+◌, ◌&&◌, ◌==◌, ℕ, cond, false, Bool, List, [], ◌∷◌, map, Option, Some, None, option_to_list, Result, Ok, Err, sum_by, length}
use Rattle.std.specs.List.{AllByRecursion}
use Rattle.mvcc_keys.specs.declared.entries.Entry.{Entry}
use Rattle.row_codec.specs.declared.rows.Kind.{Kind}
use Rattle.chunk_file.specs.Chunks.{IsChunk, chunk_bytes, head_code, read_chunk}
use Rattle.chunk_file.specs.Entries.{IsStored}
use Rattle.list_laws.specs.Members.{Has}
use Rattle.layer_merge.specs.declared.chunks.MergeFault.{MergeFault}
use Rattle.layer_merge.specs.declared.chunks.MergeFault.TheVariants.{Chunk, Malformed, Memory}
use Rattle.layer_merge.specs.declared.ranges.Waiting.{Waiting}
use Rattle.layer_merge.specs.Loads.{Load, load, with_loads}
use Rattle.layer_merge.specs.Stands.{Stand, first_of, goes_on}

-- ---- the number of loads

abbrev pub is_load : Load → Load → Bool
is_load x y = (x.layer == y.layer && x.table == y.table) && x.chunk == y.chunk

-- how often a load is among some
abbrev pub times : Load → List Load → ℕ
times x ls = sum_by (λ (y : Load). cond (is_load x y) 1 0) ls

-- loads of some chunks of a table's layer
abbrev pub loads_of : ℕ → ℕ → List ℕ → List Load
loads_of table layer numbers = map (load layer table) numbers

-- how often a load is still to be made where the merge stands
abbrev pub to_load : ℕ → Load → List Stand → ℕ
to_load table x stands = sum_by (λ (s : Stand). times x (loads_of table s.layer s.numbers)) stands

-- how often a chunk is one of parts that wait
abbrev pub to_begin : ℕ → Load → List Waiting → ℕ
to_begin table x waiting = sum_by (λ (p : Waiting). times x (loads_of table p.layer p.numbers.items)) waiting

-- the chunk of a number of a layer is still to be loaded
abbrev pub MayLoad : (Load → ℕ) → ℕ → ℕ → ℕ → Type 0
MayLoad may table layer number = 1 ≤ may (load layer table number)

-- ---- the chunks that are held

-- a load answered the bytes of a chunk of the table
pub record IsLoaded {F : Type 0} (answered : ℕ → ℕ → ℕ → Result (List ℕ) F → Type 0) (table : ℕ) (kinds : List Kind) (layer number : ℕ) (entries : List Entry) : Type 0 where
  pub came : answered layer table number (Ok (chunk_bytes entries))
  pub chunk : IsChunk table kinds entries
  pub stored : AllByRecursion IsStored entries

-- a chunk that was held before, or one that is asked for and was loaded
abbrev pub IsHeld : {F : Type 0} → (ℕ → ℕ → ℕ → Result (List ℕ) F → Type 0) → ℕ → List Kind → (ℕ → ℕ → Type 0) → List Stand → Stand → Type 0
IsHeld came table kinds asked old m = ((s : Stand) × (Has s old × ((m.layer ≡ s.layer) × (m.number ≡ s.number) × (m.entries ≡ s.entries)))) ⊎ (IsLoaded came table kinds m.layer m.number m.entries × asked m.layer m.number)

abbrev pub AreHeld : {F : Type 0} → (ℕ → ℕ → ℕ → Result (List ℕ) F → Type 0) → ℕ → List Kind → (ℕ → ℕ → Type 0) → List Stand → List Stand → Type 0
AreHeld came table kinds asked old new = (m : Stand) → Has m new → IsHeld came table kinds asked old m

-- a put or deletion of a chunk that was held before, or of one that is asked for and was loaded
abbrev pub IsOfHeld : {F : Type 0} → (ℕ → ℕ → ℕ → Result (List ℕ) F → Type 0) → ℕ → List Kind → (ℕ → ℕ → Type 0) → List Stand → Entry → Type 0
IsOfHeld came table kinds asked old e = (m : Stand) × (IsHeld came table kinds asked old m × Has e m.entries)

-- a step of a walk: what is held comes from before or from its loads, and each load is made as often at most as it was still to be made
pub record IsStep {C F : Type 0} (keeps : C → C → Type 0) (came : C → C → ℕ → ℕ → ℕ → Result (List ℕ) F → Type 0) (loads : C → Option (List Load)) (table : ℕ) (kinds : List Kind) (from to : C) (old new : List Stand) (before after : Load → ℕ) : Type 0 where
  pub kept : keeps from to
  pub held : AreHeld (came from to) table kinds (MayLoad before table) old new
  pub more : List Load
  pub told : loads to ≡ with_loads more (loads from)
  pub bound : (x : Load) → times x more + after x ≤ before x

-- the place that was reached, if one was
abbrev pub stands_of : {F : Type 0} → Result (Option Stand) F → List Stand
stands_of (Ok r) = option_to_list r
stands_of (Err f) = []

-- ---- faults

abbrev pub last_of : List Entry → Option Entry
last_of [] = None
last_of (e ∷ []) = Some e
last_of (e ∷ d ∷ es) = last_of (d ∷ es)

-- a chunk was held before or loaded, and the next one, which was loaded, doesn't go on where it ends
pub record IsOutOfOrder {F : Type 0} (came : ℕ → ℕ → ℕ → Result (List ℕ) F → Type 0) (table : ℕ) (kinds : List Kind) (asked : ℕ → ℕ → Type 0) (old : List Stand) (layer number offset : ℕ) : Type 0 where
  pub before : Stand
  pub entries : List Entry
  pub held : IsHeld came table kinds asked old before
  pub loaded : IsLoaded came table kinds layer number entries
  pub same_layer : before.layer ≡ layer
  pub next : number ≡ before.number + 1
  pub order : goes_on (last_of before.entries) (first_of entries) ≡ false
  pub place : offset ≡ length (head_code entries)

-- why a merge ended: a load's fault, bytes that are no chunk of the table, a chunk that doesn't go on where the one before it ended, or want of memory; a chunk that is named is asked for
abbrev pub IsMergeFault : {F : Type 0} → (ℕ → ℕ → ℕ → Result (List ℕ) F → Type 0) → ℕ → List Kind → (ℕ → ℕ → Type 0) → List Stand → MergeFault F → Type 0
IsMergeFault came table kinds asked old (Chunk f) = (layer : ℕ) × (number : ℕ) × (came layer table number (Err f) × asked layer number)
IsMergeFault came table kinds asked old (Malformed layer number offset) = (((bytes : List ℕ) × (came layer table number (Ok bytes) × (read_chunk table kinds bytes ≡ Err offset))) ⊎ IsOutOfOrder came table kinds asked old layer number offset) × asked layer number
IsMergeFault came table kinds asked old Memory = Unit {0}
