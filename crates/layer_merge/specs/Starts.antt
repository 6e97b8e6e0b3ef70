-- The start of a merge: the range deletions of all parts are kept, and then the first chunk of each part is loaded.
use Rattle.std.specs.Prelude.{◌≡◌, ◌≤◌, ◌⊎◌, ℕ, true, false, List, [], ◌∷◌, ◌++◌, length, Option, Some, None}
use Rattle.mvcc_keys.specs.declared.entries.Entry.{Entry}
use Rattle.list_laws.specs.Members.{Has}
use Rattle.chunk_file.specs.Entries.{are_ordered, is_range}
use Rattle.layer_merge.specs.declared.ranges.Waiting.{Waiting}
use Rattle.layer_merge.specs.declared.wanted.Wanted.{Wanted}
use Rattle.layer_merge.specs.Loads.{World}
use Rattle.layer_merge.specs.Stands.{Stand, coming, counts, entries_in}
use Rattle.layer_merge.specs.Ranges.{AddsAll}

-- the entries of a part's chunks
abbrev pub part_entries : World → Waiting → List Entry
part_entries w p = entries_in w p.layer p.numbers.items

abbrev pub parts_entries : World → List Waiting → List Entry
parts_entries w [] = []
parts_entries w (p ∷ ps) = part_entries w p ++ parts_entries w ps

abbrev pub AreInOrder : World → List Waiting → Type 0
AreInOrder w ps = (p : Waiting) → Has p ps → are_ordered None (part_entries w p) ≡ true

-- the range deletions of the parts that are ready were kept; their puts and deletions are left
pub record RangesSoFar (w : World) (all : List Entry) (waiting ready : List Waiting) (old new : List Entry) : Type 0 where
  pub front : List Entry
  pub whole : all ≡ front ++ parts_entries w waiting
  pub added : AddsAll front old new
  pub points : (e : Entry) → Has e front → is_range e ≡ false → Has e (parts_entries w ready)
  pub only : (e : Entry) → Has e (parts_entries w ready) → Has e front
  pub waiting_ordered : AreInOrder w waiting
  pub ready_ordered : AreInOrder w ready

-- a part's first chunk is held, or it has none
abbrev pub Begins : World → Waiting → Option Stand → Type 0
Begins w p None = part_entries w p ≡ []
Begins w p (Some m) = (part_entries w p ≡ coming w m) × (1 ≤ length m.left)

-- some parts have begun, and the others are ready
pub record BegunSoFar (w : World) (v : Wanted) (done : Option (List ℕ)) (all : List Entry) (ready : List Waiting) (stands : List Stand) : Type 0 where
  pub ordered : (s : Stand) → Has s stands → are_ordered None (coming w s) ≡ true
  pub there : (e : Entry) → Has e all → counts v done e ≡ true → ((s : Stand) × (Has s stands × Has e (coming w s))) ⊎ Has e (parts_entries w ready)
  pub only : (s : Stand) (e : Entry) → Has s stands → Has e (coming w s) → Has e all
  pub only_ready : (e : Entry) → Has e (parts_entries w ready) → Has e all
  pub ready_ordered : AreInOrder w ready
  pub live : (s : Stand) → Has s stands → 1 ≤ length s.left
