-- Rows of a scan through their bytes.
use Rattle.std.proofs.Common.{◌≡◌, ℕ, ◌<◌, ◌^◌, refl, ap, ap₂, ◌∙◌, subst, inl, inr, List, [], ◌∷◌, map, Option, Some, None, Ordering}
use Rattle.std.specs.List.{filter_map}
use Rattle.mvcc_keys.specs.Times.{Time}
use Rattle.mvcc_keys.specs.declared.entries.Entry.{Entry}
use Rattle.row_codec.specs.declared.rows.Kind.{Kind}
use Rattle.row_codec.specs.RowOrder.{row_cmp}
use Rattle.row_codec.specs.RowKeys.{row_key, IsKey}
use Rattle.row_codec.specs.RowValues.{row_value}
use Rattle.row_codec.proofs.KeyLaws.{row_keys-exact, some_is}
use Rattle.row_codec.proofs.ValueLaws.{row_values-exact}
use Rattle.table_descriptors.specs.Descriptors.{Schema, key_kinds}
use Rattle.fact_model.specs.Facts.{Put, Del, DelRange, Version, version_of, newest, value}
use Rattle.list_laws.specs.Members.{Has}
use Rattle.fact_model.specs.Ordered.{ordered}
use Rattle.fact_model.specs.Scans.{Item, version, keys_put, scan, image, put_of}
use Rattle.fact_model.specs.Mapped.{KeysMeet, map_item}
use Rattle.fact_model.proofs.Transport.{scan-map}
use Rattle.fact_model.proofs.Orders.{ordered-has}
use Rattle.fact_model.proofs.Scanned.{items-has}
use Rattle.fact_model.specs.Newest.{IsNewest}
use Rattle.fact_model.proofs.Newest.{newest-is}
use Rattle.history_model.specs.Rows.{Key, Cells, RowItem, RowFact, shown_row, shown_rows}
use Rattle.version_store.specs.Tables.{Bytes, bytes_cmp, entry_of, entries_of, scan_at}
use Rattle.table_rows.specs.RowTables.{RowTables, coded, bytes_of, IsCells, IsRowFact, AreRowFacts}
use Rattle.table_rows.specs.Checks.{row_in, rows_at, shown_of}
use Rattle.table_rows.proofs.Coded.{keys-ordered}

-- ---- what a scan of rows has

key-put : (k : Key) (fs : List RowFact) → Has k (keys_put fs) → (v : Cells) × (at : Time) × Has (Put k v at) fs
unfolding keys_put
key-put k [] has = absurd has
key-put k (Put q v at ∷ fs) (inl e) = (v, at, inl (ap (λ (x : Key). Put x v at) e))
key-put k (Put q v at ∷ fs) (inr has) = (let p = key-put k fs has in (p.0, p.1, inr p.2))
key-put k (Del q at ∷ fs) has = (let p = key-put k fs has in (p.0, p.1, inr p.2))
key-put k (DelRange lo hi at ∷ fs) has = (let p = key-put k fs has in (p.0, p.1, inr p.2))

-- the cells of a row's version
pub version-cells : (kinds : List Kind) (r : Option RowFact) (v : Version Cells) → ((f : RowFact) → r ≡ Some f → IsRowFact kinds f) → version_of r ≡ Some v → IsCells v.value
version-cells kinds None v all e = cc e
version-cells kinds (Some (Put q w at)) v all e =
    let same : record { value = w; at = at } ≡ v = some_is _ _ e in
    subst (λ (x : Version Cells). IsCells x.value) same (all (Put q w at) refl).1
version-cells kinds (Some (Del q at)) v all e = cc e
version-cells kinds (Some (DelRange lo hi at)) v all e = cc e

newest-among : (cmp : Key → Key → Ordering) (k : Key) (t : Time) (fs : List RowFact) (f : RowFact) → newest cmp k t fs ≡ Some f → Has f fs
newest-among cmp k t fs f e = (subst (λ (r : Option RowFact). IsNewest cmp k t fs r) e (newest-is cmp k t fs)).among

-- an item of a scan has a key of the kinds, and cells
abbrev Good : List Kind → RowItem → Type 0
Good kinds i = IsKey kinds i.key × IsCells i.value

scan-good : (kinds : List Kind) (t : Time) (fs : List RowFact) → AreRowFacts kinds fs → (i : RowItem) → Has i (scan (row_cmp kinds) t fs) → Good kinds i
unfolding scan value
scan-good kinds t fs all i has =
    let found = items-has (λ k. value (row_cmp kinds) k t fs) i (ordered (row_cmp kinds) (keys_put fs)) has in
    let put = key-put i.key fs (ordered-has (row_cmp kinds) i.key (keys_put fs) found.0) in
    ((all (Put i.key put.0 put.1) put.2).0, version-cells kinds (newest (row_cmp kinds) i.key t fs) (version i) (λ f e. all f (newest-among (row_cmp kinds) i.key t fs f e)) found.1)

-- ---- through bytes

shown-good : (d : Schema) (kinds : List Kind) (id : ℕ) → id < 2 ^ 32 → (i : RowItem) → Good kinds i → row_in d kinds (entry_of (put_of (map_item (row_key id kinds) row_value i))) ≡ Some (shown_row d i)
unfolding row_in
shown-good d kinds id small i good =
    ap₂ (λ k v. shown_of d i.at k v) (row_keys-exact.found kinds id i.key small good.0) (row_values-exact.found i.value good.1.0 good.1.1)

all-shown : (d : Schema) (kinds : List Kind) (id : ℕ) → id < 2 ^ 32 → (is : List RowItem) → ((i : RowItem) → Has i is → Good kinds i)
    → filter_map (row_in d kinds) (map entry_of (map put_of (map (map_item (row_key id kinds) row_value) is))) ≡ shown_rows d is
all-shown d kinds id small [] all = refl
all-shown d kinds id small (i ∷ is) all = rw (shown-good d kinds id small i (all i (inl refl)), all-shown d kinds id small is (λ j h. all j (inr h))) refl

pub scan-shown : (T : RowTables) (d : Schema) (t : Time) (entries : List Entry) → d.id < 2 ^ 32 → T.kinds d.id ≡ key_kinds d → AreRowFacts (T.kinds d.id) (T.facts d.id)
    → entries ≡ scan_at (bytes_of T) d.id t → filter_map (row_in d (key_kinds d)) entries ≡ rows_at T d t
unfolding image
scan-shown T d t entries small kinds all e =
    let here : AreRowFacts (key_kinds d) (T.facts d.id) = subst (λ (ks : List Kind). AreRowFacts ks (T.facts d.id)) kinds all in
    let f = row_key d.id (key_kinds d) in
    let mapped : scan bytes_cmp t (map (coded d.id (key_kinds d)) (T.facts d.id)) ≡ map (map_item f row_value) (scan (row_cmp (key_kinds d)) t (T.facts d.id))
    = scan-map (row_cmp (key_kinds d)) bytes_cmp f row_value (IsKey (key_kinds d)) (keys-ordered d.id (key_kinds d) small) t (T.facts d.id) (λ x has. meets (key_kinds d) x (here x has)) in
    ap (filter_map (row_in d (key_kinds d))) (e ∙ ap (λ (ks : List Kind). entries_of (map put_of (scan bytes_cmp t (map (coded d.id ks) (T.facts d.id))))) kinds
    ∙ ap (λ (is : List (Item Bytes Bytes)). entries_of (map put_of is)) mapped)
    ∙ all-shown d (key_kinds d) d.id small (scan (row_cmp (key_kinds d)) t (T.facts d.id)) (scan-good (key_kinds d) t (T.facts d.id) here)
  where
    meets : (kinds : List Kind) (x : RowFact) → IsRowFact kinds x → KeysMeet (IsKey kinds) x
    meets kinds (Put k v at) is = is.0
    meets kinds (Del k at) is = is
    meets kinds (DelRange lo hi at) is = is
