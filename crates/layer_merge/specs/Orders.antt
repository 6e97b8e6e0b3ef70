-- The order in which a merge loads chunks: first each part's chunks for their range deletions, from the last one backwards, and then each part's chunks for their points, from the first one on.
use Rattle.std.specs.Prelude.{◌≡◌, ◌⊎◌, ◌+◌, ℕ, Bool, true, false, List, [], ◌∷◌, ◌++◌, map, Option, Some, None, Result, IsPermutation}
use Rattle.std.specs.Ordering.{is_gt, is_le}
use Rattle.mvcc_keys.specs.Entries.{key_of}
use Rattle.mvcc_keys.specs.declared.entries.Entry.{Entry}
use Rattle.row_codec.specs.declared.rows.Kind.{Kind}
use Rattle.chunk_file.specs.Entries.{comes_before, is_range}
use Rattle.version_store.specs.Tables.{Bytes, bytes_cmp}
use Rattle.layer_merge.specs.declared.wanted.Wanted.{Wanted}
use Rattle.list_laws.specs.Members.{Has}
use Rattle.layer_merge.specs.declared.ranges.Waiting.{Waiting}
use Rattle.layer_merge.specs.Loads.{Load, load, with_loads}
use Rattle.layer_merge.specs.Ranges.{begins_with_range}
use Rattle.layer_merge.specs.Stands.{Stand, counts, first_of, goes_on, point_cmp}
use Rattle.layer_merge.specs.Steps.{IsLoaded, last_of}
use Rattle.layer_merge.specs.Walks.{WalkState}

-- a chunk of a layer's table, by its number in the part
pub record TableChunk : Type 0 where
  pub layer : ℕ
  pub number : ℕ
  pub entries : List Entry

abbrev pub table_chunk : ℕ → ℕ → List Entry → TableChunk
table_chunk layer number entries = record { layer = layer; number = number; entries = entries }

-- the loads of some chunks
abbrev pub loads_made : ℕ → List TableChunk → List Load
loads_made table read = map (λ (c : TableChunk). load c.layer table c.number) read

-- some chunks were loaded one after the other between two sources, in an order that is told
pub record IsOrder {C F : Type 0} (came : C → C → ℕ → ℕ → ℕ → Result (List ℕ) F → Type 0) (loads : C → Option (List Load)) (table : ℕ) (kinds : List Kind) (from to : C) (Along : List TableChunk → Type 0) : Type 0 where
  pub read : List TableChunk
  pub told : loads to ≡ with_loads (loads_made table read) (loads from)
  pub loaded : (c : TableChunk) → Has c read → IsLoaded (came from to) table kinds c.layer c.number c.entries
  pub along : Along read

-- the next chunk by number goes on where a chunk ended
abbrev pub GoesOn : ℕ → List Entry → TableChunk → Type 0
GoesOn number entries c = c.number ≡ number + 1 → goes_on (last_of entries) (first_of c.entries) ≡ true

-- ---- the points

-- a part's chunk that is held, and the numbers of the chunks after it
pub record Place : Type 0 where
  pub layer : ℕ
  pub number : ℕ
  pub entries : List Entry
  pub numbers : List ℕ

abbrev pub place : ℕ → ℕ → List Entry → List ℕ → Place
place layer number entries numbers = record { layer = layer; number = number; entries = entries; numbers = numbers }

abbrev pub place_of : Stand → Place
place_of s = place s.layer s.number s.entries s.numbers

abbrev pub places_of : List Stand → List Place
places_of stands = map place_of stands

-- a part of which no chunk is held yet
abbrev pub before_first : Waiting → Place
before_first p = place p.layer 0 [] p.numbers.items

-- the next chunk of a part is loaded: it goes on where the chunk before it ended
pub record IsMove (p : Place) (c : TableChunk) (q : Place) : Type 0 where
  pub rest : List ℕ
  pub next : p.numbers ≡ c.number ∷ rest
  pub layer : c.layer ≡ p.layer
  pub order : GoesOn p.number p.entries c
  pub moved : q ≡ place p.layer c.number c.entries rest

-- each chunk is the next one of its part, which may leave the chunk before it; parts may be left
abbrev pub MovesBy : (Place → Type 0) → List TableChunk → List Place → List Place → Type 0
MovesBy MayLeave [] old new = (lost : List Place) × IsPermutation old (new ++ lost)
MovesBy MayLeave (c ∷ cs) old new = (p : Place) × ((q : Place) × ((others : List Place) × (IsPermutation old (p ∷ others) × ((MayLeave p × IsMove p c q) × MovesBy MayLeave cs (q ∷ others) new))))

-- the same between the stands of a merge
unfoldable pub PointsBy : (Place → Type 0) → List Stand → List Stand → List TableChunk → Type 0
PointsBy MayLeave old new read = MovesBy MayLeave read (places_of old) (places_of new)

-- nothing is asked of a chunk that is left
abbrev pub Freely : Place → Type 0
Freely p = Unit {0}

-- no chunk was held yet
abbrev pub IsUnheld : Place → Type 0
IsUnheld p = p.entries ≡ []

-- no put or deletion of it has a key after this one
abbrev pub IsUpTo : Bytes → Place → Type 0
IsUpTo key p = (x : Entry) → Has x p.entries → is_range x ≡ false → is_le (bytes_cmp (key_of x) key) ≡ true

-- no put or deletion of it comes after an entry that counts
abbrev pub IsBehind : Wanted → Option Bytes → List Entry → Place → Type 0
IsBehind v last all p = (x d : Entry) → Has x p.entries → is_range x ≡ false → Has d all → counts v last d ≡ true → is_gt (point_cmp x d) ≡ false

-- it is a stand's chunk, of which that entry is the last one
abbrev pub EndsAt : Stand → Place → Type 0
EndsAt s p = (p ≡ place_of s) × ((x : Entry) → Has x s.entries → (e : Entry) × ((first_of s.left ≡ Some e) × ((x ≡ e) ⊎ (comes_before x e ≡ true))))

-- ---- the range deletions

abbrev pub GoesOnTo : TableChunk → Option TableChunk → Type 0
GoesOnTo c None = Unit {0}
GoesOnTo c (Some after) = GoesOn c.number c.entries after

-- after a chunk that begins with a range deletion the walk goes on with those before it; else it ends, and that chunk stays with them
abbrev pub AfterRange : Bool → Type 0 → Type 0 → Type 0
AfterRange true more end = more
AfterRange false more end = end

-- a part's chunks are loaded from the last one backwards until one begins with a point; each goes on to the one that was loaded before it
abbrev pub Backwards : ℕ → List ℕ → Option TableChunk → List TableChunk → List ℕ → Type 0
Backwards layer numbers after [] left = (numbers ≡ []) × (left ≡ [])
Backwards layer numbers after (c ∷ cs) left = (rest : List ℕ) × ((numbers ≡ rest ++ c.number ∷ []) × ((c.layer ≡ layer) × (GoesOnTo c after × AfterRange (begins_with_range (first_of c.entries)) (Backwards layer rest (Some c) cs left) ((cs ≡ []) × (left ≡ numbers)))))

-- the same of some parts, one after the other; those that are left have the chunks whose points are walked
abbrev pub RangesBy : List Waiting → List TableChunk → List Waiting → Type 0
RangesBy [] read ready = (read ≡ []) × (ready ≡ [])
RangesBy (p ∷ ps) read ready = (front : List TableChunk) × ((back : List TableChunk) × ((q : Waiting) × ((qs : List Waiting) × ((read ≡ front ++ back) × ((ready ≡ q ∷ qs) × ((q.layer ≡ p.layer) × (Backwards p.layer p.numbers.items None front q.numbers.items × RangesBy ps back qs)))))))

-- ---- the whole

-- first the range deletions of all parts, then their points
pub record StartsBy (MayLeave : Place → Type 0) (waiting : List Waiting) (read : List TableChunk) (old new : List Place) : Type 0 where
  pub ranges : List TableChunk
  pub points : List TableChunk
  pub ready : List Waiting
  pub whole : read ≡ ranges ++ points
  pub backwards : RangesBy waiting ranges ready
  pub forwards : MovesBy MayLeave points (map before_first ready ++ old) new

abbrev pub WalksFrom : (Place → Type 0) → Bool → List Waiting → List TableChunk → List Place → List Place → Type 0
WalksFrom MayLeave true waiting read old new = MovesBy MayLeave read old new
WalksFrom MayLeave false waiting read old new = StartsBy MayLeave waiting read old new

-- the chunks that a merge has loaded whose parts waited so at first: none yet, or these first for their range deletions and then for their points, up to where it stands
abbrev pub HasLoadedFrom : Bool → List Waiting → WalkState → List TableChunk → Type 0
HasLoadedFrom false waiting m read = (read ≡ []) × ((m.waiting ≡ waiting) × (m.stands ≡ []))
HasLoadedFrom true waiting m read = StartsBy Freely waiting read [] (places_of m.stands)

abbrev pub HasLoaded : List Waiting → WalkState → List TableChunk → Type 0
HasLoaded waiting m read = HasLoadedFrom m.begun waiting m read

-- a merge loads these chunks until it stands at some places
abbrev pub WalksBy : (Place → Type 0) → WalkState → List TableChunk → List Stand → Type 0
WalksBy MayLeave m read stands = WalksFrom MayLeave m.begun m.waiting read (places_of m.stands) (places_of stands)
