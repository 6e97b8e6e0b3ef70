-- Chosen tables: each is one of the cluster's, and shown by the layers of the scope; and what is read of them.
use Rattle.std.proofs.Common.{◌≡◌, ◌∙◌, ℕ, ◌+◌, ◌-◌, ◌<◌, ◌≤◌, Bool, true, false, ◌&&◌, nat_lt, refl, sym, ap, ap₂, subst, subst₂, arith, get_or, List, [], ◌∷◌, ◌++◌, length, map, take, Option, Some, None, option_map, slice_get, unwrap_or}
use Rattle.std.specs.List.{AllByRecursion}
use Rattle.std.specs.Prelude.{if◌then◌else◌, option_and_then}
use Rattle.std.specs.Str.{bytes_eq}
use Rattle.std.specs.Global.{Vec}
use Rattle.std.proofs.lemmas.Bool.{and_parts}
use Rattle.std.proofs.lemmas.Bool.Decides.{nat_tests}
use Rattle.std.proofs.lemmas.List.{map-append, take_more}
use Rattle.std.proofs.lemmas.Option.{slice_get-map}
use Rattle.mvcc_keys.specs.Times.{Time}
use Rattle.mvcc_keys.specs.declared.entries.Entry.{Entry}
use Rattle.table_descriptors.specs.Descriptors.{Schema, key_kinds}
use Rattle.list_laws.specs.Members.{Has}
use Rattle.list_laws.proofs.Members.{AllByRecursion-has}
use Rattle.history_model.specs.Rows.{RowFact}
use Rattle.history_model.specs.Histories.{Table, in_force, schemas_of}
use Rattle.history_model.specs.Layers.{LayerRecord}
use Rattle.table_rows.specs.RowTables.{AreRowFacts, IsRowFact}
use Rattle.introduced_spans.specs.Publicity.{is_public}
use Rattle.introduced_spans.specs.Spans.{descriptors_of, scope_ids}
use Rattle.layer_objects.specs.Objects.{by_id, table_facts, table_kinds}
use Rattle.layer_objects.specs.Storable.{AreStorable, IsSized}
use Rattle.layer_chains.specs.Chains.{IsShown}
use Rattle.machine_model.specs.Restores.{chosen_by, chosen_tables, if_chosen}
use Rattle.cluster_core.specs.Chains.{AreTypedRows, IsEntryOf, entries_in}
use Rattle.machine_model.proofs.Lists.{filter_map-has}
use Rattle.machine_model.proofs.ProperRestores.{chosen-has}
use Rattle.cluster_core.proofs.Tables.{by_id-at}

-- ---- lists

-- ---- descriptors

-- one that is chosen is in force, and public
chosen-force : (database : List ℕ) (t : Time) (ds : List Schema) (d : Schema) → chosen_by database t ds ≡ Some d → (in_force ds t ≡ Some d) × (is_public d ≡ true)
chosen-force database t ds d e = by (in_force ds t) e
  where
    tested : (x : Schema) (b : Bool) → is_public x && bytes_eq x.database database ≡ b → (if b then Some x else None) ≡ Some d → (Some x ≡ Some d) × (is_public d ≡ true)
    tested x true is f = (f, (let same : x ≡ d = cc f in subst (λ (y : Schema). is_public y ≡ true) same (and_parts (is_public x) (bytes_eq x.database database) is).0))
    tested x false is f = cc f

    by : (o : Option Schema) → option_and_then (if_chosen database) o ≡ Some d → (o ≡ Some d) × (is_public d ≡ true)
    by None f = cc f
    by (Some x) f = tested x (is_public x && bytes_eq x.database database) refl f

-- ---- chosen tables

module _ (tables : List Table) (storable : AreStorable tables) where
  -- the table of a descriptor
  pub record IsKnown (d : Schema) : Type 0 where
    pub kinds : by_id [] table_kinds tables d.id ≡ key_kinds d
    pub facts : AreRowFacts (by_id [] table_kinds tables d.id) (by_id [] table_facts tables d.id)
    pub sized : (f : RowFact) → Has f (by_id [] table_facts tables d.id) → IsSized (key_kinds d) f

  at-known : (i : ℕ) (table : Table) (d : Schema) → slice_get tables i ≡ Some table → Has d table.descriptors → IsKnown d
  at-known i table d got has =
      let fact = storable i table got in
      let own = fact.schemas d has in
      let kinds : by_id [] table_kinds tables d.id ≡ table_kinds table = ap (by_id [] table_kinds tables) own.0 ∙ by_id-at [] table_kinds tables i table got in
      let facts : by_id [] table_facts tables d.id ≡ table.facts = ap (by_id [] table_facts tables) own.0 ∙ by_id-at [] table_facts tables i table got in
      record { kinds = kinds ∙ own.1; facts = λ f h. subst (λ ks. IsRowFact ks f) (sym kinds) (fact.facts f (subst (Has f) facts h)).0; sized = λ f h. subst (λ ks. IsSized ks f) own.1 (fact.facts f (subst (Has f) facts h)).1 }

  descriptor-known : (id : ℕ) (d : Schema) → Has d (descriptors_of (schemas_of tables) id) → IsKnown d
  descriptor-known id d has = by (nat_lt id 100) has
    where
      there : (o : Option Table) → slice_get tables (id - 100) ≡ o → Has d (unwrap_or (option_map (λ (t : Table). t.descriptors) o) []) → IsKnown d
      there None got h = absurd h
      there (Some table) got h = at-known (id - 100) table d got h

      by : (b : Bool) → Has d (if b then [] else unwrap_or (slice_get (schemas_of tables) (id - 100)) []) → IsKnown d
      by true h = absurd h
      by false h = there (slice_get tables (id - 100)) refl (subst (λ (o : Option (List Schema)). Has d (unwrap_or o [])) (slice_get-map (λ (t : Table). t.descriptors) tables (id - 100)) h)

  descriptor-id : (id : ℕ) (d : Schema) → Has d (descriptors_of (schemas_of tables) id) → d.id ≡ id
  descriptor-id id d has = by (nat_lt id 100) refl has
    where
      there : nat_lt id 100 ≡ false → (o : Option Table) → slice_get tables (id - 100) ≡ o → Has d (unwrap_or (option_map (λ (t : Table). t.descriptors) o) []) → d.id ≡ id
      there high None got h = absurd h
      there high (Some table) got h =
          let own = ((storable (id - 100) table got).schemas d h).0 in
          let low : 100 ≤ id = grind (arith, nat_tests, high) in
          omega (arith, own, low)

      by : (b : Bool) → nat_lt id 100 ≡ b → Has d (if b then [] else unwrap_or (slice_get (schemas_of tables) (id - 100)) []) → d.id ≡ id
      by true is h = absurd h
      by false is h = there is (slice_get tables (id - 100)) refl (subst (λ (o : Option (List Schema)). Has d (unwrap_or o [])) (slice_get-map (λ (t : Table). t.descriptors) tables (id - 100)) h)

  module _ (r : LayerRecord) (database : List ℕ) (t : Time) where
    pub chosen-known : (d : Schema) → Has d (chosen_tables tables database t r) → IsKnown d
    unfolding chosen_tables
    chosen-known d has =
        let one = filter_map-has (λ id. chosen_by database t (descriptors_of (schemas_of tables) id)) d (scope_ids (schemas_of tables) r.scope) has in
        descriptor-known one.0 d (chosen-has database t (descriptors_of (schemas_of tables) one.0) d one.2)

    one-shown : (d : Schema) → Has d (chosen_tables tables database t r) → IsShown tables r.scope t d
    unfolding chosen_tables
    one-shown d has =
        let one = filter_map-has (λ id. chosen_by database t (descriptors_of (schemas_of tables) id)) d (scope_ids (schemas_of tables) r.scope) has in
        let force = chosen-force database t (descriptors_of (schemas_of tables) one.0) d one.2 in
        let same = descriptor-id one.0 d (chosen-has database t (descriptors_of (schemas_of tables) one.0) d one.2) in
        record {
          member = subst (λ (i : ℕ). Has i (scope_ids (schemas_of tables) r.scope)) (sym same) one.1;
          force = subst (λ (i : ℕ). in_force (descriptors_of (schemas_of tables) i) t ≡ Some d) (sym same) force.0;
          public = force.1;
        }

    -- the layers of the record's scope show each
    pub all-shown : AllByRecursion (IsShown tables r.scope t) (chosen_tables tables database t r)
    all-shown = AllByRecursion-has (IsShown tables r.scope t) (chosen_tables tables database t r) one-shown

-- ---- what is read

typed-push : (ds : List Schema) (vs : List (Vec Entry)) (d : Schema) (v : Vec Entry) → AreTypedRows ds vs → AllByRecursion (IsEntryOf d) v.items → AreTypedRows (ds ++ d ∷ []) (vs ++ v ∷ [])
typed-push [] [] d v typed own = (own, tt)
typed-push [] (w ∷ vs) d v typed own = absurd typed
typed-push (e ∷ ds) [] d v typed own = absurd typed
typed-push (e ∷ ds) (w ∷ vs) d v typed own = (typed.0, typed-push ds vs d v typed.1 own)

pub typed-more : (ds : List Schema) (i : ℕ) (d : Schema) (vs ws : List (Vec Entry)) (v : Vec Entry) → i < length ds → d ≡ get_or ds i d → ws ≡ vs ++ v ∷ [] → AreTypedRows (take i ds) vs → AllByRecursion (IsEntryOf d) v.items → AreTypedRows (take (i + 1) ds) ws
typed-more ds i d vs ws v lt is more typed own = subst₂ AreTypedRows (ap (λ x. take i ds ++ x ∷ []) is ∙ sym (take_more ds i d lt)) (sym more) (typed-push (take i ds) vs d v typed own)

pub rows-more : (f : Schema → List Entry) (ds : List Schema) (i : ℕ) (d : Schema) (vs ws : List (Vec Entry)) (v : Vec Entry) → i < length ds → d ≡ get_or ds i d → ws ≡ vs ++ v ∷ [] → map entries_in vs ≡ map f (take i ds) → v.items ≡ f d
    → map entries_in ws ≡ map f (take (i + 1) ds)
rows-more f ds i d vs ws v lt is more so_far own =
    ap (map entries_in) more ∙ (map-append entries_in vs (v ∷ []) ∙ (ap₂ (λ (xs : List (List Entry)) (x : List Entry). xs ++ x ∷ []) so_far own
    ∙ (sym (map-append f (take i ds) (d ∷ [])) ∙ ap (map f) (ap (λ x. take i ds ++ x ∷ []) is ∙ sym (take_more ds i d lt)))))
