-- Layers in the book that stand on a ready disk, and the rows that are read of them.
use Rattle.std.proofs.Common.{◌≡◌, inl, inr, ⊎_elim, ℕ, ◌+◌, ◌<◌, ◌≤◌, ◌^◌, true, refl, sym, ap, ◌∙◌, subst, arith, List, [], ◌∷◌, length, map}
use Rattle.std.specs.Global.{Vec}
use Rattle.std.specs.List.{AllByRecursion}
use Rattle.std.proofs.lemmas.List.{length-map}
use Rattle.mvcc_keys.specs.Times.{IsTime, Time, time_le}
use Rattle.mvcc_keys.specs.declared.entries.Entry.{Entry}
use Rattle.row_codec.specs.declared.rows.Kind.{Kind}
use Rattle.table_descriptors.specs.Descriptors.{Schema, key_kinds}
use Rattle.list_laws.specs.Members.{Has}
use Rattle.list_laws.proofs.Members.{all-weaker, has-AllByRecursion, has-map}
use Rattle.history_model.specs.Rows.{RowItem}
use Rattle.history_model.specs.Histories.{Table}
use Rattle.history_model.specs.Layers.{LayerRecord}
use Rattle.outside_world.specs.Objects.{Objects}
use Rattle.layer_manifest.specs.declared.manifest.Manifest.{Manifest}
use Rattle.layer_model.specs.declared.names.LayerName.{LayerName}
use Rattle.layer_model.specs.declared.names.Part.TheVariants.{Chunk}
use Rattle.layer_objects.specs.Objects.{manifest_of, objects_of}
use Rattle.layer_objects.specs.Storable.{AreStorable, IsRecord, MayBeWritten}
use Rattle.layer_objects.proofs.Writable.{layers-written, manifests-tell}
use Rattle.layer_chains.specs.Chains.{Serves}
use Rattle.layer_chains.specs.Standing.{AreStandingLayers, IsStandingLayer}
use Rattle.restore_rows.specs.Putting.{IsItem}
use Rattle.machine_model.specs.Disks.{IsThere}
use Rattle.machine_model.specs.Restores.{chosen_tables, rows_to_restore}
use Rattle.cluster_core.specs.ClusterView.{ClusterState, record_of}
use Rattle.cluster_core.specs.Standing.{HasBackups, Keeps}
use Rattle.cluster_core.specs.Chains as chains
use Rattle.cluster_core.specs.declared.chains.Chain.{Chain}
use Rattle.cluster_core.specs.Chains.{AreTypedRows, IsOwnChain, IsOwnLayer, IsRowItem, IsStandingChain, entries_in, stored_rows}
use Rattle.cluster_core.specs.Restoring.{AreRowsOfEach, AreStoredRows, entries_of}
use Rattle.cluster_core.specs.Restores.{AreTested, shown_tables}
use Rattle.cluster_core.proofs.Backing.{storable}
use Rattle.cluster_core.proofs.Choosing.{chosen-shown}
use Rattle.cluster_core.proofs.Covers.{booked}
use Rattle.cluster_core.proofs.Items.{chosen-rows, rows-read}
use Rattle.cluster_core.proofs.Mergeable.{mergeable}

-- ---- rows that are put anew

module _ (made : Time) (time : IsTime made) where
  stored-of : (id : ℕ) (kinds : List Kind) (es : List Entry) (items : List RowItem) → id < 2 ^ 32 → chains.AreRowsOf id kinds es items → AreStoredRows made id kinds es items
  stored-of id kinds es items small rows = record {
    small = small;
    stored = rows.are;
    each = record { each = all-weaker (IsRowItem kinds) (IsItem kinds) (λ i x. x.0) items rows.each; differ = rows.differ };
    sized = λ i has. (let s = has-AllByRecursion (IsRowItem kinds) i items rows.each has in (s.1.0, s.1.1, time));
  }

  -- whatever was read, it comes from rows
  pub items-any : (ds : List Schema) (vs : List (Vec Entry)) → AreTypedRows ds vs → AreTested ds vs → (is : List (List RowItem)) × AreRowsOfEach made ds (entries_of vs) is
  items-any [] [] typed tested = ([], tt)
  items-any [] (v ∷ vs) typed tested = absurd typed
  items-any (d ∷ ds) [] typed tested = absurd typed
  items-any (d ∷ ds) (v ∷ vs) typed tested =
      let one = rows-read d.id (key_kinds d) tested.0.small v.items typed.0 tested.0.bytes tested.0.rows in
      let more = items-any ds vs typed.1 tested.1 in
      (one.0 ∷ more.0, (stored-of d.id (key_kinds d) v.items one.0 tested.0.small one.1, more.1))

  -- what is stored of chosen tables comes from their rows
  pub items-stored : (tables : List Table) (s : AreStorable tables) (r : LayerRecord) (database : List ℕ) (t : Time) (ds : List Schema) (vs : List (Vec Entry)) → ((d : Schema) → Has d ds → Has d (chosen_tables tables database t r)) → AreTested ds vs
      → map entries_in vs ≡ map (stored_rows tables t) ds → AreRowsOfEach made ds (entries_of vs) (map (rows_to_restore tables t) ds)
  items-stored tables s r database t [] [] all tested are = tt
  items-stored tables s r database t [] (v ∷ vs) all tested are = absurd tested
  items-stored tables s r database t (d ∷ ds) [] all tested are = absurd tested
  items-stored tables s r database t (d ∷ ds) (v ∷ vs) all tested are =
      let head : v.items ≡ stored_rows tables t d = cc are in
      let tail : map entries_in vs ≡ map (stored_rows tables t) ds = cc are in (
        stored-of d.id (key_kinds d) v.items (rows_to_restore tables t d) tested.0.small (subst (λ (es : List Entry). chains.AreRowsOf d.id (key_kinds d) es (rows_to_restore tables t d)) (sym head) (chosen-rows tables s r database t d (all d (inl refl)) tested.0.small)),
        items-stored tables s r database t ds vs (λ x has. all x (inr has)) tested.1 tail,
      )

-- ---- layers in the book

module _ (c : ClusterState) (tables : List Table) (k : Keeps c tables) (b : HasBackups c tables) (few : 100 + length c.schemas.tables ≤ 2 ^ 32) (events : c.events ≤ 1000000) where
  module _ (p : LayerName × Manifest) (own : Has p c.book.layers) where
    abbrev r : LayerRecord
    r = record_of p

    pub record-is : IsRecord r
    record-is = (booked c tables b p own).1.is

    may : MayBeWritten tables r
    may =
        let count : length tables ≡ length c.schemas.tables = sym (length-map tables (λ (x : Table). x.descriptors)) ∙ ap length k.schemas in
        let kept = k.events in
        layers-written tables r (storable c tables k) (omega (arith, count, few)) (omega (arith, kept, events)) record-is (booked c tables b p own).1.listed

    pub over : time_le r.end c.clock ≡ true
    over = (booked c tables b p own).1.over

    told : p.1 ≡ manifest_of tables r
    told = let o = b.layers p own in (manifests-tell tables r p.1 may o.proper o.manifest).0

    -- what its manifest shows at a time that it serves is what the tables do
    pub shown-chosen : (t : Time) → IsTime t → Serves t r → (database : List ℕ) → shown_tables database t p.1 ≡ chosen_tables tables database t r
    shown-chosen t time serves database = ap (shown_tables database t) told ∙ chosen-shown tables (storable c tables k) r record-is t time serves database

    standing : (objects : Objects) → IsThere (objects_of tables r) objects → IsStandingLayer tables objects r p
    standing objects there = record {
      name = refl;
      manifest = told;
      may = may;
      chunks = λ i lt. ⊎_elim (λ whole. whole (Chunk i) lt) (λ whole. whole (Chunk i) lt) there;
    }

  module _ (collection : List ℕ) (full : Time) where
    abbrev AreOwn : List (LayerName × Manifest) → Type 0
    AreOwn ps = AllByRecursion (IsOwnLayer c.book collection full) ps

    standing-layers : (objects : Objects) → ((p : LayerName × Manifest) → Has p c.book.layers → IsThere (objects_of tables (record_of p)) objects) → (ps : List (LayerName × Manifest)) → AreOwn ps → AreStandingLayers tables objects (map record_of ps) ps
    standing-layers objects there [] all = tt
    standing-layers objects there (p ∷ ps) all = (standing p all.0.own objects (there p all.0.own), standing-layers objects there ps all.1)

    records-are : (ps : List (LayerName × Manifest)) → AreOwn ps → AllByRecursion IsRecord (map record_of ps)
    records-are [] all = tt
    records-are (p ∷ ps) all = (record-is p all.0.own, records-are ps all.1)

    -- those of one subdirectory have the scope of each
    one-scope : (q : LayerName × Manifest) → IsOwnLayer c.book collection full q → (ps : List (LayerName × Manifest)) → AreOwn ps → AllByRecursion (λ (x : LayerRecord). x.scope ≡ (record_of q).scope) (map record_of ps)
    one-scope q own [] all = tt
    one-scope q own (p ∷ ps) all = (
      b.scopes (record_of p) (record_of q) (has-map record_of p c.book.layers all.0.own) (has-map record_of q c.book.layers own.own) (all.0.collection_is ∙ sym own.collection_is) (all.0.full_is ∙ sym own.full_is),
      one-scope q own ps all.1,
    )

  -- a chain of own layers stands where all own layers are there
  pub chain-stands : (x : Chain) (chain : IsOwnChain c.book x) (q : LayerName × Manifest) → Has q x.layers.items → (objects : Objects) → ((p : LayerName × Manifest) → Has p c.book.layers → IsThere (objects_of tables (record_of p)) objects)
      → IsStandingChain tables (record_of q).scope (map record_of x.layers.items) x.layers.items x.time objects
  chain-stands x chain q among objects there =
      let own = has-AllByRecursion (IsOwnLayer c.book chain.collection chain.full) q x.layers.items chain.layers among in
      record {
        stored = standing-layers chain.collection chain.full objects there x.layers.items chain.layers;
        scopes = record { each = records-are chain.collection chain.full x.layers.items chain.layers; scopes = one-scope chain.collection chain.full q own x.layers.items chain.layers };
        chain = chain.chain;
        mergeable = mergeable c tables k few;
      }
