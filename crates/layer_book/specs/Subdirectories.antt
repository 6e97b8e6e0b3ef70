-- Layers by subdirectory: which subdirectories a collection has, and the layers of one, in order. A list may hold more than the layers' names: what they are is told by `name`.
use Rattle.std.specs.Prelude.{ℕ, Bool, ◌&&◌, if◌then◌else◌, List, Option, map, filter}
use Rattle.std.specs.List.{find, fold}
use Rattle.std.specs.Str.{bytes_eq}
use Rattle.std.specs.declared.cmp.Ordering.{Ordering}
use Rattle.std.specs.declared.cmp.Ordering.TheVariants.{Less, Equal, Greater}
use Rattle.std.specs.Ordering.{nat_cmp, ordering_then}
use Rattle.std.specs.Cmp.Lexicographic.{slice_cmp}
use Rattle.mvcc_keys.specs.Times.{Time, zero_time, time_lt, time_eq}
use Rattle.mvcc_keys.specs.Codes.{time_cmp}
use Rattle.fact_model.specs.Ordered.{ordered}
use Rattle.layer_model.specs.declared.names.LayerName.{LayerName}

-- the layer is in the collection
abbrev pub is_of : List ℕ → LayerName → Bool
is_of collection n = bytes_eq n.collection collection

-- the layer lies in the subdirectory of that cluster and time
abbrev pub is_in : List ℕ → List ℕ → Time → LayerName → Bool
is_in collection cluster full n = is_of collection n && (bytes_eq n.cluster cluster && time_eq n.full full)

-- ---- the layers of a subdirectory

-- by start, then end, then job
abbrev pub layer_cmp : LayerName → LayerName → Ordering
layer_cmp m n = ordering_then (time_cmp m.start n.start) (ordering_then (time_cmp m.end n.end) (nat_cmp m.job n.job))

-- of two that tie, the one that comes first stays first
abbrev pub first_of_ties : Ordering → Ordering
first_of_ties Less = Less
first_of_ties Equal = Less
first_of_ties Greater = Greater

abbrev pub place_cmp : {X : Type 0} → (X → LayerName) → X → X → Ordering
place_cmp name x y = first_of_ties (layer_cmp (name x) (name y))

-- the layers of a subdirectory by start, end, job
unfoldable pub layers_of : {X : Type 0} → (X → LayerName) → List ℕ → List ℕ → Time → List X → List X
layers_of name collection cluster full xs = ordered (place_cmp name) (filter (λ x. is_in collection cluster full (name x)) xs)

-- ---- subdirectories

-- a subdirectory is named by a cluster and the end time of a full backup
abbrev pub subdirectory : LayerName → List ℕ × Time
subdirectory n = (n.cluster, n.full)

-- by time, then by cluster bytewise
abbrev pub subdirectory_cmp : List ℕ × Time → List ℕ × Time → Ordering
subdirectory_cmp a b = ordering_then (time_cmp a.1 b.1) (slice_cmp nat_cmp a.0 b.0)

-- the subdirectories that have a layer, each once, in order
unfoldable pub subdirectories_of : {X : Type 0} → (X → LayerName) → List ℕ → List X → List (List ℕ × Time)
subdirectories_of name collection xs = ordered subdirectory_cmp (map (λ x. subdirectory (name x)) (filter (λ x. is_of collection (name x)) xs))

-- ---- full backups

abbrev pub later_time : Time → Time → Time
later_time s t = if time_lt s t then t else s

-- the greatest of some times, or zero
abbrev pub greatest : List Time → Time
greatest ts = fold later_time zero_time ts

-- the full times of the collection's layers
abbrev pub full_times : {X : Type 0} → (X → LayerName) → List ℕ → List X → List Time
full_times name collection xs = map (λ x. (name x).full) (filter (λ x. is_of collection (name x)) xs)

-- the greatest end time of a full backup that a layer of the collection belongs to, or zero
unfoldable pub last_full_of : {X : Type 0} → (X → LayerName) → List ℕ → List X → Time
last_full_of name collection xs = greatest (full_times name collection xs)

-- ---- where a subdirectory goes on

-- the first layer of the list that lies in a subdirectory
abbrev pub first_of : {X : Type 0} → (X → LayerName) → List ℕ → List ℕ → Time → List X → Option X
first_of name collection cluster full xs = find (λ x. is_in collection cluster full (name x)) xs

-- the ends of the layers of a subdirectory
abbrev pub end_times : {X : Type 0} → (X → LayerName) → List ℕ → List ℕ → Time → List X → List Time
end_times name collection cluster full xs = map (λ x. (name x).end) (filter (λ x. is_in collection cluster full (name x)) xs)

-- the greatest end of a layer of the subdirectory, or zero
unfoldable pub last_end_of : {X : Type 0} → (X → LayerName) → List ℕ → List ℕ → Time → List X → Time
last_end_of name collection cluster full xs = greatest (end_times name collection cluster full xs)
