-- Entries that pass the test of rows are stored puts of rows that differ in their keys, and such puts pass it.
use Rattle.std.proofs.Common.{◌≡◌, ◌≢◌, ◌∙◌, ℕ, suc, ◌+◌, ◌<◌, ◌≤◌, ◌^◌, nat_le, Bool, true, false, ◌&&◌, refl, sym, ap, ap₂, subst, arith, List, [], ◌∷◌, ◌++◌, length, map, Option, Some, None, Result, Ok, Err, Less, true≢false}
use Rattle.std.specs.List.{AllByRecursion}
use Rattle.std.specs.Ordering.{is_eq, is_lt, nat_cmp, ordering_reverse, ordering_then}
use Rattle.std.specs.Cmp.Lexicographic.{slice_cmp}
use Rattle.std.specs.declared.cmp.Ordering.{Ordering}
use Rattle.std.specs.declared.cmp.Ordering.TheVariants.{Equal, Greater}
use Rattle.std.proofs.lemmas.Bool.{and_parts}
use Rattle.std.proofs.lemmas.Bool.Decides.{nat_tests}
use Rattle.std.proofs.lemmas.Cmp.{nat_list_cmp_total}
use Rattle.list_laws.specs.Bytes.{AreBytes}
use Rattle.list_laws.specs.Members.{Has}
use Rattle.list_laws.proofs.Members.{AllByRecursion-has, has-AllByRecursion}
use Rattle.mvcc_keys.specs.Entries.{key_of}
use Rattle.key_encoding.specs.Reading.{read_uvarint}
use Rattle.key_encoding.specs.Spelling.{uvarint}
use Rattle.key_encoding.proofs.Grammars.{uvarint-found}
use Rattle.mvcc_keys.specs.Codes.{time_cmp}
use Rattle.mvcc_keys.specs.declared.entries.Entry.{Entry}
use Rattle.row_codec.specs.declared.rows.Kind.{Kind}
use Rattle.row_codec.specs.declared.rows.Datum.{Datum}
use Rattle.row_codec.specs.declared.rows.Cell.{Cell}
use Rattle.row_codec.specs.KeyReading.{is_key_of, read_row_key}
use Rattle.row_codec.specs.RowKeys.{IsKey, row_key, values_code}
use Rattle.row_codec.specs.RowValues.{read_row_value, reads, row_value}
use Rattle.row_codec.proofs.KeyLaws.{row_keys-exact}
use Rattle.row_codec.proofs.ValueLaws.{row_values-exact}
use Rattle.row_codec.specs.RowOrder.{row_cmp}
use Rattle.row_codec.proofs.KeyLaws.{some_is}
use Rattle.mvcc_keys.specs.Times.{IsTime, Time}
use Rattle.table_descriptors.specs.Descriptors.{Schema, key_kinds}
use Rattle.fact_model.specs.Facts.{Put, Del, DelRange, Version, newest, value, version_of}
use Rattle.fact_model.specs.Ordered.{ordered}
use Rattle.fact_model.specs.Scans.{keys_put, scan, version}
use Rattle.fact_model.specs.Newest.{IsNewest}
use Rattle.fact_model.proofs.Newest.{newest-is}
use Rattle.fact_model.proofs.Scanned.{items-has}
use Rattle.range_tombstones.specs.declared.upto.Upto.TheVariants.{At}
use Rattle.span_export.specs.declared.plan.Plan.TheVariants.{Whole}
use Rattle.history_model.specs.Histories.{Table}
use Rattle.history_model.specs.Layers.{LayerRecord}
use Rattle.layer_objects.specs.Objects.{by_id, rows_of, table_facts}
use Rattle.restore_rows.proofs.Exported.{plan-ordered, scans-stored}
use Rattle.machine_model.specs.Restores.{chosen_tables, rows_to_restore}
use Rattle.cluster_core.proofs.Chosen.{IsKnown, chosen-known}
use Rattle.history_model.specs.Rows.{Cells, Key, RowFact, RowItem}
use Rattle.history_model.specs.RowTests.{columns_len}
use Rattle.table_rows.specs.RowTables.{AreRowFacts, IsCells, bytes_of}
use Rattle.table_rows.proofs.Coded.{keys-ordered}
use Rattle.table_rows.proofs.KeySizes.{key-len}
use Rattle.version_store.proofs.Bytes.{bytes_order}
use Rattle.chunk_file.specs.Entries.{IsStored, are_ordered, comes_before, is_entry, is_row_key}
use Rattle.layer_objects.specs.Storable.{AreStorable, IsSized}
use Rattle.layer_chains.specs.Chains.{stored_put}
use Rattle.restore_rows.specs.Putting.{AreItems, DifferInKey, IsItem}
use Rattle.cluster_core.specs.Chains.{AreRowsOf, HasBytes, IsRowItem, are_rows, is_above, is_row, is_short, stored_rows}
use Rattle.list_laws.proofs.Orderings.{lt-Less}

-- ---- one row

-- what follows the id in a row key
short-is : (id : ℕ) (kinds : List Kind) (key : Key) → id < 2 ^ 32 → IsKey kinds key → is_short (read_uvarint (row_key id kinds key)) ≡ nat_le (columns_len kinds key) 4096
unfolding row_key uvarint
short-is id kinds key small is =
    let read : read_uvarint (uvarint id ++ 137 ∷ values_code kinds key) ≡ Ok (id, 137 ∷ values_code kinds key) = uvarint-found id (137 ∷ values_code kinds key) (omega (arith, small)) in
    let long : suc (suc (length (values_code kinds key))) ≡ columns_len kinds key + 3 = key-len kinds key is.0 in
    ap is_short read ∙ by (length (values_code kinds key)) (columns_len kinds key) long
  where
    by : (n m : ℕ) → suc (suc n) ≡ m + 3 → nat_le (suc n) 4098 ≡ nat_le m 4096
    by n m e = grind (arith, nat_tests, e)

key-read : (id : ℕ) (kinds : List Kind) (key : List ℕ) → AreBytes key → is_row_key id kinds key ≡ true → (xs : Key) × IsKey kinds xs × (key ≡ row_key id kinds xs)
key-read id kinds key bytes e = by (read_row_key kinds key) refl e
  where
    by : (r : Result (ℕ × List Datum) ℕ) → read_row_key kinds key ≡ r → is_key_of id r ≡ true → (xs : Key) × IsKey kinds xs × (key ≡ row_key id kinds xs)
    by (Err o) is t = absurd (true≢false (sym t))
    by (Ok p) is t =
        let own : p.0 ≡ id = grind (arith, nat_tests, t) in
        let only = row_keys-exact.only kinds key p.0 p.1 bytes is in
        (p.1, only.1, only.2 ∙ ap (λ (n : ℕ). row_key n kinds p.1) own)

value-read : (value : List ℕ) → AreBytes value → reads (read_row_value value) ≡ true → (cells : List Cell) × IsCells cells × (value ≡ row_value cells)
value-read value bytes e = by (read_row_value value) refl e
  where
    by : (r : Result (List Cell) ℕ) → read_row_value value ≡ r → reads r ≡ true → (cells : List Cell) × IsCells cells × (value ≡ row_value cells)
    by (Err o) is t = absurd (true≢false (sym t))
    by (Ok cells) is t = let only = row_values-exact.only value cells bytes is in (cells, (only.0, only.1), only.2)

row-read : (id : ℕ) (kinds : List Kind) (e : Entry) → id < 2 ^ 32 → (is_entry id kinds e ≡ true) × IsStored e → HasBytes e → is_row e ≡ true → (i : RowItem) × (e ≡ stored_put id kinds i) × IsRowItem kinds i
unfolding is_entry
row-read id kinds (Entry.Del key at) small typed bytes row = absurd (true≢false (sym row))
row-read id kinds (Entry.Range lo hi at) small typed bytes row = absurd (true≢false (sym row))
row-read id kinds (Entry.Put key at value) small typed bytes row =
    let parts = and_parts (is_row_key id kinds key) (reads (read_row_value value)) typed.0 in
    let sizes = and_parts (is_short (read_uvarint key)) (nat_le (length value) 32768) row in
    let k = key-read id kinds key bytes.0 parts.0 in
    let v = value-read value bytes.1 parts.1 in
    let short : nat_le (columns_len kinds k.0) 4096 ≡ true = sym (short-is id kinds k.0 small k.1) ∙ (ap (λ (b : List ℕ). is_short (read_uvarint b)) (sym k.2) ∙ sizes.0) in
    let little : nat_le (length (row_value v.0)) 32768 ≡ true = ap (λ (b : List ℕ). nat_le (length b) 32768) (sym v.2) ∙ sizes.1 in
    (record { key = k.0; value = v.0; at = at }, ap₂ (λ (a b : List ℕ). Entry.Put a at b) k.2 v.2, ((k.1, v.1), (grind (arith, nat_tests, short), grind (arith, nat_tests, little), typed.1.0)))

row-passes : (id : ℕ) (kinds : List Kind) (i : RowItem) → id < 2 ^ 32 → IsRowItem kinds i → is_row (stored_put id kinds i) ≡ true
row-passes id kinds i small is =
    let short = is.1.0 in
    let little = is.1.1 in
    ap₂ (λ (a b : Bool). a && b) (short-is id kinds i.key small is.0.0 ∙ (let t : nat_le (columns_len kinds i.key) 4096 ≡ true = grind (arith, nat_tests, short) in t)) (grind (arith, nat_tests, little))

-- ---- all rows

less-trans : (a b c : List ℕ) → slice_cmp nat_cmp a b ≡ Less → slice_cmp nat_cmp b c ≡ Less → slice_cmp nat_cmp a c ≡ Less
less-trans a b c p q = nat_list_cmp_total.trans a b c p q

module _ (id : ℕ) (kinds : List Kind) where
  abbrev bytes-of : RowItem → List ℕ
  bytes-of i = row_key id kinds i.key

  abbrev IsBelow : List ℕ → RowItem → Type 0
  IsBelow key i = slice_cmp nat_cmp key (bytes-of i) ≡ Less

  below-all : (items : List RowItem) (key : List ℕ) → are_rows (Some key) (map (stored_put id kinds) items) ≡ true → AllByRecursion (IsBelow key) items
  below-all [] key e = tt
  below-all (i ∷ is) key e =
      let parts = and_parts _ (are_rows (Some (bytes-of i)) (map (stored_put id kinds) is)) e in
      let first = lt-Less (slice_cmp nat_cmp key (bytes-of i)) (and_parts (is_row (stored_put id kinds i)) (is_above (Some key) (bytes-of i)) parts.0).1 in
      (first, lift (bytes-of i) is (below-all is (bytes-of i) parts.1) first)
    where
      lift : (k : List ℕ) (js : List RowItem) → AllByRecursion (IsBelow k) js → slice_cmp nat_cmp key k ≡ Less → AllByRecursion (IsBelow key) js
      lift k [] all less = tt
      lift k (j ∷ js) all less = (less-trans key k (bytes-of j) less all.0, lift k js all.1 less)

  not-itself : (a b : Key) → slice_cmp nat_cmp (row_key id kinds a) (row_key id kinds b) ≡ Less → a ≢ b
  not-itself a b less same =
      let own : slice_cmp nat_cmp (row_key id kinds a) (row_key id kinds a) ≡ Less = ap (λ (x : Key). slice_cmp nat_cmp (row_key id kinds a) (row_key id kinds x)) same ∙ less in
      let turned : Less ≡ ordering_reverse Less = sym own ∙ (nat_list_cmp_total.antisymm (row_key id kinds a) (row_key id kinds a) ∙ ap ordering_reverse own) in
      cc turned

  differ-from : (i : RowItem) (is : List RowItem) → AllByRecursion (IsBelow (bytes-of i)) is → AllByRecursion (λ (j : RowItem). i.key ≢ j.key) is
  differ-from i [] all = tt
  differ-from i (j ∷ is) all = (not-itself i.key j.key all.0, differ-from i is all.1)

  differ-all : (items : List RowItem) (last : Option (List ℕ)) → are_rows last (map (stored_put id kinds) items) ≡ true → DifferInKey items
  differ-all [] last e = tt
  differ-all (i ∷ is) last e =
      let parts = and_parts (is_row (stored_put id kinds i) && is_above last (bytes-of i)) (are_rows (Some (bytes-of i)) (map (stored_put id kinds) is)) e in
      (differ-from i is (below-all is (bytes-of i) parts.1), differ-all is (Some (bytes-of i)) parts.1)

  -- the items of entries
  record Read (entries : List Entry) : Type 0 where
    pub items : List RowItem
    pub are : entries ≡ map (stored_put id kinds) items
    pub each : AllByRecursion (IsRowItem kinds) items

  all-read : id < 2 ^ 32 → (entries : List Entry) (last : Option (List ℕ)) → AllByRecursion (λ (e : Entry). (is_entry id kinds e ≡ true) × IsStored e) entries → AllByRecursion HasBytes entries → are_rows last entries ≡ true → Read entries
  all-read small [] last typed bytes e = record { items = []; are = refl; each = tt }
  all-read small (x ∷ xs) last typed bytes e =
      let parts = and_parts (is_row x && is_above last (key_of x)) (are_rows (Some (key_of x)) xs) e in
      let own = row-read id kinds x small typed.0 bytes.0 (and_parts (is_row x) (is_above last (key_of x)) parts.0).0 in
      let more = all-read small xs (Some (key_of x)) typed.1 bytes.1 parts.1 in
      record { items = own.0 ∷ more.items; are = ap₂ (λ (y : Entry) (ys : List Entry). y ∷ ys) own.1 more.are; each = (own.2, more.each) }

  -- entries of a table that pass the test come from rows
  pub rows-read : id < 2 ^ 32 → (entries : List Entry) → AllByRecursion (λ (e : Entry). (is_entry id kinds e ≡ true) × IsStored e) entries → AllByRecursion HasBytes entries → are_rows None entries ≡ true → (items : List RowItem) × AreRowsOf id kinds entries items
  rows-read small entries typed bytes e =
      let read = all-read small entries None typed bytes e in
      (read.items, record { are = read.are; each = read.each; differ = differ-all read.items None (ap (are_rows None) (sym read.are) ∙ e) })

  same-key : id < 2 ^ 32 → (a b : Key) → IsKey kinds a → IsKey kinds b → slice_cmp nat_cmp (row_key id kinds a) (row_key id kinds b) ≡ Equal → a ≡ b
  same-key small a b p q tie = (row_keys-exact.apart kinds id id a b [] [] small small p q (ap (λ (k : List ℕ). k ++ []) (bytes_order.same (row_key id kinds a) (row_key id kinds b) tie))).1

  above-is : id < 2 ^ 32 → (a b : RowItem) → IsRowItem kinds a → IsRowItem kinds b → a.key ≢ b.key → comes_before (stored_put id kinds a) (stored_put id kinds b) ≡ true → is_above (Some (bytes-of a)) (bytes-of b) ≡ true
  unfolding comes_before
  above-is small a b p q other before = by (slice_cmp nat_cmp (bytes-of a) (bytes-of b)) refl before
    where
      by : (o : Ordering) → slice_cmp nat_cmp (bytes-of a) (bytes-of b) ≡ o → is_lt (ordering_then o (time_cmp b.at a.at)) ≡ true → is_lt o ≡ true
      by Less is e = refl
      by Equal is e = absurd (other (same-key small a.key b.key p.0.0 q.0.0 is))
      by Greater is e = absurd (true≢false (sym e))

  pass-after : id < 2 ^ 32 → (a : RowItem) (items : List RowItem) → IsRowItem kinds a → AllByRecursion (IsRowItem kinds) items → DifferInKey (a ∷ items) → are_ordered (Some (stored_put id kinds a)) (map (stored_put id kinds) items) ≡ true
      → are_rows (Some (bytes-of a)) (map (stored_put id kinds) items) ≡ true
  pass-after small a [] own all differ up = refl
  pass-after small a (b ∷ is) own all differ up =
      let parts = and_parts (comes_before (stored_put id kinds a) (stored_put id kinds b)) (are_ordered (Some (stored_put id kinds b)) (map (stored_put id kinds) is)) up in
      ap₂ (λ (x y : Bool). x && y) (ap₂ (λ (x y : Bool). x && y) (row-passes id kinds b small all.0) (above-is small a b own all.0 differ.0.0 parts.0)) (pass-after small b is all.0 all.1 differ.1 parts.1)

  -- stored puts of rows that differ in their keys pass it, in order
  pub rows-pass : id < 2 ^ 32 → (entries : List Entry) (items : List RowItem) → AreRowsOf id kinds entries items → are_ordered None entries ≡ true → are_rows None entries ≡ true
  rows-pass small entries items rows up = ap (are_rows None) rows.are ∙ by items rows.each rows.differ (ap (are_ordered None) (sym rows.are) ∙ up)
    where
      by : (is : List RowItem) → AllByRecursion (IsRowItem kinds) is → DifferInKey is → are_ordered None (map (stored_put id kinds) is) ≡ true → are_rows None (map (stored_put id kinds) is) ≡ true
      by [] all differ up = refl
      by (i ∷ is) all differ up = ap₂ (λ (x y : Bool). x && y) (ap (λ (x : Bool). x && true) (row-passes id kinds i small all.0)) (pass-after small i is all.0 all.1 differ up)

  -- an item of a scan is that of a put
  scan-sized : id < 2 ^ 32 → (t : Time) (fs : List RowFact) → AreRowFacts kinds fs → ((f : RowFact) → Has f fs → IsSized kinds f) → (i : RowItem) → IsKey kinds i.key → Has i (scan (row_cmp kinds) t fs) → IsSized kinds (Put i.key i.value i.at)
  unfolding scan value
  scan-sized small t fs typed sized i key has =
      by (newest (row_cmp kinds) i.key t fs) (newest-is (row_cmp kinds) i.key t fs) (items-has (λ k. value (row_cmp kinds) k t fs) i (ordered (row_cmp kinds) (keys_put fs)) has).1
    where
      equal : (o : Ordering) → is_eq o ≡ true → o ≡ Equal
      equal Less e = absurd (true≢false (sym e))
      equal Equal e = refl
      equal Greater e = absurd (true≢false (sym e))

      by : (o : Option RowFact) → IsNewest (row_cmp kinds) i.key t fs o → version_of o ≡ Some (version i) → IsSized kinds (Put i.key i.value i.at)
      by None n e = cc e
      by (Some (Del q at)) n e = cc e
      by (Some (DelRange lo hi at)) n e = cc e
      by (Some (Put q w at)) n e =
          let v = some_is _ _ e in
          let s = sized (Put q w at) n.among in
          let same = same-key small q i.key (typed (Put q w at) n.among).0 key (keys-ordered id kinds small q i.key (typed (Put q w at) n.among).0 key ∙ equal (row_cmp kinds q i.key) n.touching) in
          (subst (λ (k : Key). columns_len kinds k ≤ 4096) same s.0, subst (λ (x : Version Cells). length (row_value x.value) ≤ 32768) v s.1, subst (λ (x : Version Cells). IsTime x.at) v s.2)

-- ---- chosen tables

module _ (tables : List Table) (storable : AreStorable tables) (r : LayerRecord) (database : List ℕ) (t : Time) (d : Schema) (chosen : Has d (chosen_tables tables database t r)) (small : d.id < 2 ^ 32) where
  known : IsKnown tables storable d
  known = chosen-known tables storable r database t d chosen

  abbrev rows : List RowItem
  rows = rows_to_restore tables t d

  items : AreItems (key_kinds d) rows
  items = subst (λ ks. AreItems ks (scan (row_cmp ks) t (by_id [] table_facts tables d.id))) known.kinds (scans-stored (rows_of tables) d.id t small known.facts).1

  -- the stored puts of a chosen table
  pub chosen-rows : AreRowsOf d.id (key_kinds d) (stored_rows tables t d) rows
  chosen-rows = record {
    are = refl;
    each = AllByRecursion-has (IsRowItem (key_kinds d)) rows (λ i has.
        let is = has-AllByRecursion (IsItem (key_kinds d)) i rows items.each has in
        (is, scan-sized d.id (key_kinds d) small t (by_id [] table_facts tables d.id) (subst (λ ks. AreRowFacts ks (by_id [] table_facts tables d.id)) known.kinds known.facts) known.sized i is.0 has));
    differ = items.differ;
  }

  pub chosen-pass : are_rows None (stored_rows tables t d) ≡ true
  chosen-pass =
      let entries = (scans-stored (rows_of tables) d.id t small known.facts).0 ∙ ap (λ ks. map (stored_put d.id ks) (scan (row_cmp ks) t (by_id [] table_facts tables d.id))) known.kinds in
      rows-pass d.id (key_kinds d) small (stored_rows tables t d) rows chosen-rows (ap (are_ordered None) (sym entries) ∙ plan-ordered (bytes_of (rows_of tables)) d.id (Whole t (At t) false))
