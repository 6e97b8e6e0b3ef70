-- The chain of layers by which a time of a source is read, and the rows that it holds.
use Rattle.std.specs.Global.{Vec}
use Rattle.std.specs.Prelude.{◌≡◌, ◌&&◌, ℕ, nat_le, Bool, true, false, Some, None, Result, Ok, Err, List, [], ◌∷◌, length, map, filter_map, slice_get, ◌⊎◌, Option}
use Rattle.mvcc_keys.specs.Times.{Time}
use Rattle.std.specs.List.{AllByRecursion}
use Rattle.std.specs.Ordering.{is_lt, nat_cmp}
use Rattle.std.specs.Cmp.Lexicographic.{slice_cmp}
use Rattle.list_laws.specs.Bytes.{AreBytes}
use Rattle.list_laws.specs.Members.{Has}
use Rattle.mvcc_keys.specs.Entries.{key_of}
use Rattle.key_encoding.specs.Reading.{read_uvarint}
use Rattle.key_encoding.specs.declared.fault.KeyFault.{KeyFault}
use Rattle.row_codec.specs.declared.rows.Kind.{Kind}
use Rattle.mvcc_keys.specs.declared.entries.Entry.{Entry}
use Rattle.table_descriptors.specs.declared.scopes.Scope.{Scope}
use Rattle.table_descriptors.specs.Descriptors.{Schema, key_kinds}
use Rattle.fact_model.specs.Facts.{Put}
use Rattle.history_model.specs.Histories.{Table}
use Rattle.outside_world.specs.Objects.{Objects}
use Rattle.history_model.specs.Layers.{LayerRecord}
use Rattle.history_model.specs.Rows.{RowItem}
use Rattle.layer_manifest.specs.declared.manifest.Manifest.{Manifest}
use Rattle.layer_model.specs.declared.names.LayerName.{LayerName}
use Rattle.layer_objects.specs.Storable.{IsSized}
use Rattle.chunk_file.specs.Entries.{IsStored, is_entry}
use Rattle.layer_chains.specs.Chains.{AreMergeable, AreOfScope, IsChainTo, stored_put}
use Rattle.layer_chains.specs.Standing.{AreStandingLayers}
use Rattle.restore_rows.specs.Putting.{DifferInKey, IsItem}
use Rattle.layer_book.specs.Books.{Book}
use Rattle.chain_resolver.specs.declared.faults.CoverFault.{CoverFault}
use Rattle.chain_resolver.specs.declared.faults.CoverFault.TheVariants as cover
use Rattle.chain_resolver.specs.Best.{Chain as Places, Uncovered, cover}
use Rattle.script_grammar.specs.declared.backups.Src.{Src}
use Rattle.machine_model.specs.Machine.{Machine, Stepped}
use Rattle.machine_model.specs.Backups.{layers_in, with_source}
use Rattle.machine_model.specs.Restores.{links_of, refusal_of_cover, rows_to_restore, time_of, with_cover}
use Rattle.cluster_core.specs.declared.halts.Halt.{Halt}
use Rattle.cluster_core.specs.declared.halts.Halt.TheVariants.{Refused, Disk, Memory}
use Rattle.cluster_core.specs.declared.chains.Chain.{Chain}
use Rattle.cluster_core.specs.ClusterView.{record_of}
use Rattle.cluster_core.specs.Backing.{AreLayersFrom, IsSourceFault}

-- ---- chains

-- a cover's want of memory is that, and its other faults refuse
abbrev pub halt_of_cover : CoverFault → Halt
halt_of_cover (cover.NotCovered first last) = Refused (refusal_of_cover (cover.NotCovered first last))
halt_of_cover (cover.HistoryCollected floor) = Refused (refusal_of_cover (cover.HistoryCollected floor))
halt_of_cover (cover.NeedsHistory below above) = Refused (refusal_of_cover (cover.NeedsHistory below above))
halt_of_cover (cover.Gap reached wants) = Refused (refusal_of_cover (cover.Gap reached wants))
halt_of_cover cover.Memory = Memory

-- the best chain of some layers to a time that is given, or to their end
pub record IsChainOf (layers : List (LayerName × Manifest)) (at : Option Time) (x : Chain) : Type 0 where
  pub places : List ℕ
  pub time : x.time ≡ time_of (map record_of layers) at
  pub cover : cover (links_of (map record_of layers)) x.time ≡ Places places
  pub are : x.layers.items ≡ filter_map (slice_get layers) places

-- why there is none
abbrev pub IsUncovered : List (LayerName × Manifest) → Option Time → Halt → Type 0
IsUncovered layers at (Refused refusal) = (fault : CoverFault) × (refusal ≡ refusal_of_cover fault) × (cover (links_of (map record_of layers)) (time_of (map record_of layers) at) ≡ Uncovered fault)
IsUncovered layers at Disk = ⊥
IsUncovered layers at Memory = Unit {0}

-- the chain of the layers of a source
pub record IsChain (book : Book) (source : Src) (collection : List ℕ) (at : Option Time) (x : Chain) : Type 0 where
  pub layers : List (LayerName × Manifest)
  pub from : AreLayersFrom book source collection layers
  pub is : IsChainOf layers at x

-- a layer of the book, in the subdirectory of that time
pub record IsOwnLayer (book : Book) (collection : List ℕ) (full : Time) (p : LayerName × Manifest) : Type 0 where
  pub own : Has p book.layers
  pub collection_is : p.0.collection ≡ collection
  pub full_is : p.0.full ≡ full

-- own layers of one subdirectory, whose records form a chain to the time
pub record IsOwnChain (book : Book) (x : Chain) : Type 0 where
  pub collection : List ℕ
  pub full : Time
  pub layers : AllByRecursion (IsOwnLayer book collection full) x.layers.items
  pub chain : IsChainTo x.time (map record_of x.layers.items)

-- its layers have none
pub record IsNoChain (book : Book) (source : Src) (collection : List ℕ) (at : Option Time) (halt : Halt) : Type 0 where
  pub layers : List (LayerName × Manifest)
  pub from : AreLayersFrom book source collection layers
  pub uncovered : IsUncovered layers at halt

-- no subdirectory is meant, or its layers have none
abbrev pub IsChainFault : Book → Src → List ℕ → Option Time → Halt → Type 0
IsChainFault book source collection at halt = IsSourceFault book source collection halt ⊎ IsNoChain book source collection at halt

-- ---- rows

-- Layers of a chain to t with their manifests, whose chunks are on the disk: those of these records of one scope, over tables of which layers can be merged.
pub record IsStandingChain (tables : List Table) (scope : Scope) (rs : List LayerRecord) (layers : List (LayerName × Manifest)) (t : Time) (objects : Objects) : Type 0 where
  pub stored : AreStandingLayers tables objects rs layers
  pub scopes : AreOfScope scope rs
  pub chain : IsChainTo t rs
  pub mergeable : AreMergeable tables

-- the stored puts of a chosen table's rows
abbrev pub stored_rows : List Table → Time → Schema → List Entry
stored_rows tables t d = map (stored_put d.id (key_kinds d)) (rows_to_restore tables t d)

-- entries of one table
abbrev pub entries_in : Vec Entry → List Entry
entries_in v = v.items

-- an entry of a table, as it is stored
abbrev pub IsEntryOf : Schema → Entry → Type 0
IsEntryOf d e = (is_entry d.id (key_kinds d) e ≡ true) × IsStored e

-- what is read of chosen tables, each in its order
abbrev pub AreTypedRows : List Schema → List (Vec Entry) → Type 0
AreTypedRows [] [] = Unit {0}
AreTypedRows [] (v ∷ vs) = ⊥
AreTypedRows (d ∷ ds) [] = ⊥
AreTypedRows (d ∷ ds) (v ∷ vs) = AllByRecursion (IsEntryOf d) v.items × AreTypedRows ds vs

-- ---- rows that may be put anew

-- what follows the table's id in a key has at most 4,098 bytes: two, and those of the columns
abbrev pub is_short : Result (ℕ × List ℕ) KeyFault → Bool
is_short (Ok p) = nat_le (length p.1) 4098
is_short (Err e) = false

-- a put whose key columns and value aren't too large
abbrev pub is_row : Entry → Bool
is_row (Entry.Put key at value) = is_short (read_uvarint key) && nat_le (length value) 32768
is_row (Entry.Del key at) = false
is_row (Entry.Range lo hi at) = false

abbrev pub is_above : Option (List ℕ) → List ℕ → Bool
is_above None key = true
is_above (Some last) key = is_lt (slice_cmp nat_cmp last key)

-- such puts, with keys that ascend from above the last one
abbrev pub are_rows : Option (List ℕ) → List Entry → Bool
are_rows last [] = true
are_rows last (e ∷ es) = (is_row e && is_above last (key_of e)) && are_rows (Some (key_of e)) es

-- the key and the value of a put are bytes
abbrev pub HasBytes : Entry → Type 0
HasBytes (Entry.Put key at value) = AreBytes key × AreBytes value
HasBytes (Entry.Del key at) = Unit {0}
HasBytes (Entry.Range lo hi at) = Unit {0}

-- a stored row: its key has these kinds, and it isn't too large
abbrev pub IsRowItem : List Kind → RowItem → Type 0
IsRowItem kinds i = IsItem kinds i × IsSized kinds (Put i.key i.value i.at)

-- entries are the stored puts of these rows
pub record AreRowsOf (id : ℕ) (kinds : List Kind) (entries : List Entry) (items : List RowItem) : Type 0 where
  pub are : entries ≡ map (stored_put id kinds) items
  pub each : AllByRecursion (IsRowItem kinds) items
  pub differ : DifferInKey items

-- ---- what is done

-- what is done with the chain of a source, and the time to which it leads
abbrev pub with_chain : Machine → Src → List ℕ → Option Time → (Time → List LayerRecord → Stepped) → Stepped
with_chain m source collection at change = with_source m source collection (λ s.
    let rs = layers_in m collection s in
    with_cover m rs (cover (links_of rs) (time_of rs at)) (change (time_of rs at)))
