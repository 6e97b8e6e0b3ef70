-- A whole table in bytes, and the scan of its rows.
use Rattle.std.proofs.Common.{◌≡◌, ◌≢◌, ℕ, ◌<◌, ◌^◌, true, false, sym, refl, ap, ◌∙◌, subst, inl, inr, List, [], ◌∷◌, append-nil, map, Option, Some, None, Less}
use Rattle.std.specs.List.{AllByRecursion}
use Rattle.std.specs.List.Sorted.{IsStrictlySortedBy}
use Rattle.std.specs.Ordering.{on, ordering_reverse}
use Rattle.mvcc_keys.specs.Times.{Time}
use Rattle.row_codec.specs.declared.rows.Kind.{Kind}
use Rattle.row_codec.specs.RowKeys.{row_key, IsKey}
use Rattle.row_codec.specs.RowOrder.{row_cmp}
use Rattle.row_codec.specs.RowValues.{row_value}
use Rattle.fact_model.specs.Facts.{Put, Del, DelRange, newest, value}
use Rattle.list_laws.specs.Members.{Has}
use Rattle.list_laws.proofs.Members.{AllByRecursion-has}
use Rattle.fact_model.specs.Mapped.{KeysMeet, map_item}
use Rattle.fact_model.specs.Ordered.{ordered}
use Rattle.fact_model.specs.Scans.{Item, image, keys_put, put_of, scan, version}
use Rattle.fact_model.specs.Newest.{IsNewest}
use Rattle.fact_model.proofs.Newest.{newest-is}
use Rattle.fact_model.proofs.Orders.{ordered-has}
use Rattle.fact_model.proofs.Scanned.{items-has, scan-is}
use Rattle.fact_model.proofs.Transport.{scan-map}
use Rattle.history_model.specs.Rows.{Key, RowFact, RowItem}
use Rattle.version_store.specs.Tables.{Bytes, Tables, bytes_cmp, entries_of}
use Rattle.version_store.proofs.Bytes.{bytes_order}
use Rattle.range_tombstones.specs.declared.upto.Upto.TheVariants.{At}
use Rattle.span_export.specs.declared.plan.Plan.{Plan}
use Rattle.span_export.specs.declared.plan.Plan.TheVariants.{Whole}
use Rattle.span_export.specs.Plans.{plan_entries}
use Rattle.span_export.proofs.EntryOrder.{plan-sorted}
use Rattle.chunk_file.specs.Entries.{are_ordered}
use Rattle.layer_objects.proofs.Ordered.{ordered_all}
use Rattle.table_rows.specs.RowTables.{AreRowFacts, IsRowFact, RowTables, bytes_of, coded}
use Rattle.table_rows.proofs.Coded.{keys-ordered}
use Rattle.table_rows.proofs.Shown.{version-cells}
use Rattle.layer_chains.specs.Chains.{stored_put}
use Rattle.restore_rows.specs.Putting.{AreItems, DifferInKey, IsItem}

-- ---- what a scan has

key-good : (kinds : List Kind) (fs : List RowFact) → AreRowFacts kinds fs → (k : Key) → Has k (keys_put fs) → IsKey kinds k
unfolding keys_put
key-good kinds [] all k has = absurd has
key-good kinds (Put q v at ∷ fs) all k (inl e) = subst (λ (x : Key). IsKey kinds x) (sym e) (all (Put q v at) (inl refl)).0
key-good kinds (Put q v at ∷ fs) all k (inr has) = key-good kinds fs (λ f h. all f (inr h)) k has
key-good kinds (Del q at ∷ fs) all k has = key-good kinds fs (λ f h. all f (inr h)) k has
key-good kinds (DelRange lo hi at ∷ fs) all k has = key-good kinds fs (λ f h. all f (inr h)) k has

item-good : (kinds : List Kind) (t : Time) (fs : List RowFact) → AreRowFacts kinds fs → (i : RowItem) → Has i (scan (row_cmp kinds) t fs) → IsItem kinds i
unfolding scan value
item-good kinds t fs all i has =
    let found = items-has (λ k. value (row_cmp kinds) k t fs) i (ordered (row_cmp kinds) (keys_put fs)) has in
    let among : (f : RowFact) → newest (row_cmp kinds) i.key t fs ≡ Some f → Has f fs = λ f e. (subst (λ (r : Option RowFact). IsNewest (row_cmp kinds) i.key t fs r) e (newest-is (row_cmp kinds) i.key t fs)).among in
    (key-good kinds fs all i.key (ordered-has (row_cmp kinds) i.key (keys_put fs) found.0), version-cells kinds (newest (row_cmp kinds) i.key t fs) (version i) (λ f e. all f (among f e)) found.1)

-- ---- through bytes

key-differs : (id : ℕ) (kinds : List Kind) (a b : Key) → bytes_cmp (row_key id kinds a) (row_key id kinds b) ≡ Less → a ≢ b
key-differs id kinds a b less same =
    let own : bytes_cmp (row_key id kinds a) (row_key id kinds a) ≡ Less = ap (λ (x : Key). bytes_cmp (row_key id kinds a) (row_key id kinds x)) same ∙ less in
    let turned : Less ≡ ordering_reverse Less = sym own ∙ (bytes_order.total.antisymm (row_key id kinds a) (row_key id kinds a) ∙ ap ordering_reverse own) in
    cc turned

module _ (id : ℕ) (kinds : List Kind) where
  abbrev in_bytes : RowItem → Item Bytes Bytes
  in_bytes i = map_item (row_key id kinds) row_value i

  differs-from : (i : RowItem) (is : List RowItem) → AllByRecursion (λ (j : Item Bytes Bytes). bytes_cmp (row_key id kinds i.key) j.key ≡ Less) (map in_bytes is) → AllByRecursion (λ (j : RowItem). i.key ≢ j.key) is
  differs-from i [] all = tt
  differs-from i (j ∷ is) all = (key-differs id kinds i.key j.key all.0, differs-from i is all.1)

  differ : (is : List RowItem) → IsStrictlySortedBy (on (λ (i : Item Bytes Bytes). i.key) bytes_cmp) (map in_bytes is) → DifferInKey is
  unfolding IsStrictlySortedBy
  differ [] up = tt
  differ (i ∷ is) up = (differs-from i is up.0, differ is up.1)

  stored : (is : List RowItem) → entries_of (map put_of (map in_bytes is)) ≡ map (stored_put id kinds) is
  stored [] = refl
  stored (i ∷ is) = ap (λ es. stored_put id kinds i ∷ es) (stored is)

  meets : (x : RowFact) → IsRowFact kinds x → KeysMeet (IsKey kinds) x
  meets (Put k v at) is = is.0
  meets (Del k at) is = is
  meets (DelRange lo hi at) is = is

  mapped : id < 2 ^ 32 → (t : Time) (fs : List RowFact) → AreRowFacts kinds fs → scan bytes_cmp t (map (coded id kinds) fs) ≡ map in_bytes (scan (row_cmp kinds) t fs)
  mapped small t fs all = scan-map (row_cmp kinds) bytes_cmp (row_key id kinds) row_value (IsKey kinds) (keys-ordered id kinds small) t fs (λ x has. meets x (all x has))

-- the order of a chunk is that of exports, so the entries of a plan are in order
pub plan-ordered : (h : Tables) (table : ℕ) (plan : Plan) → are_ordered None (plan_entries h table plan) ≡ true
plan-ordered h table plan = ordered_all (plan_entries h table plan) (plan-sorted h table plan)

-- the entries of a whole table as of t are the stored puts of its scan, whose keys differ
pub scans-stored : (T : RowTables) (id : ℕ) (t : Time) → id < 2 ^ 32 → AreRowFacts (T.kinds id) (T.facts id)
    → (plan_entries (bytes_of T) id (Whole t (At t) false) ≡ map (stored_put id (T.kinds id)) (scan (row_cmp (T.kinds id)) t (T.facts id))) × AreItems (T.kinds id) (scan (row_cmp (T.kinds id)) t (T.facts id))
unfolding plan_entries image
scans-stored T id t small all =
    let kinds = T.kinds id in
    let here = mapped id kinds small t (T.facts id) all in
    let is = scan (row_cmp kinds) t (T.facts id) in (
      ap entries_of (append-nil _) ∙ (ap (λ (js : List (Item Bytes Bytes)). entries_of (map put_of js)) here ∙ stored id kinds is),
      record {
        each = AllByRecursion-has (IsItem kinds) is (item-good kinds t (T.facts id) all);
        differ = differ id kinds is (subst (λ (js : List (Item Bytes Bytes)). IsStrictlySortedBy (on (λ (i : Item Bytes Bytes). i.key) bytes_cmp) js) here (scan-is bytes_cmp bytes_order t (map (coded id kinds) (T.facts id))).ascends);
      },
    )
