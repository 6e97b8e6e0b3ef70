-- A table that a restore makes is a proper one, and tables get the next ids in order.
use Rattle.std.proofs.Common.{◌≡◌, ◌⊎◌, inl, inr, ⊎_elim, ℕ, zero, suc, ◌+◌, ◌≤◌, nat_eq, nat_le, Bool, true, false, refl, sym, ap, subst, ◌∙◌, arith, List, [], ◌∷◌, map, filter, filter_map, length, Option, Some, None, slice_get, Ordering, Less, Equal, is_eq}
use Rattle.std.specs.List.{cons_option, list_all, range_with_len}
use Rattle.std.specs.Map.{lookup}
use Rattle.std.proofs.lemmas.Bool.Decides.{nat_tests}
use Rattle.table_descriptors.specs.Fields.{is_id}
use Rattle.key_rewriter.specs.Ids.{IsIdMap, are_ascending, ascends_from, numbered}
use Rattle.key_rewriter.proofs.Pairs.{partner-small}
use Rattle.id_remap.proofs.Order.{in_order}
use Rattle.std.specs.Ordering.{on, ordering_reverse}
use Rattle.std.specs.Cmp.{IsTotalOrder}
use Rattle.std.specs.List.Sorted.{IsStrictlySortedBy}
use Rattle.std.proofs.lemmas.Bool.{and_parts, cases_Bool}
use Rattle.std.proofs.lemmas.Cmp.{on_total, tied_itself}
use Rattle.mvcc_keys.specs.Times.{IsTime, Time, zero_time, time_le, time_lt}
use Rattle.mvcc_keys.proofs.TimeOrder.{le-refl, lt-le, lt-le-le}
use Rattle.row_codec.specs.declared.rows.Kind.{Kind}
use Rattle.row_codec.specs.RowKeys.{IsKey, row_key}
use Rattle.row_codec.specs.RowOrder.{row_cmp}
use Rattle.row_codec.specs.RowValues.{row_value}
use Rattle.table_descriptors.specs.declared.columns.State.TheVariants.{Public}
use Rattle.table_descriptors.specs.declared.changes.Change.TheVariants.{Become}
use Rattle.table_descriptors.specs.Descriptors.{IsProperSchema, Schema, changed_schema, key_kinds}
use Rattle.table_descriptors.specs.Restoring.{restored_schema}
use Rattle.table_descriptors.proofs.SchemaLaws.{changed-proper}
use Rattle.fact_model.specs.Facts.{Put, Del, DelRange, date, newest, value, version_of}
use Rattle.fact_model.specs.Mapped.{KeysMeet, map_fact, map_item}
use Rattle.fact_model.specs.Newest.{IsNewest}
use Rattle.fact_model.specs.Ordered.{ordered}
use Rattle.fact_model.specs.Scans.{Item, keys_put, scan, version}
use Rattle.fact_model.proofs.Newest.{newest-is}
use Rattle.fact_model.proofs.Scanned.{items-has, scan-is}
use Rattle.fact_model.proofs.Transport.{scan-map}
use Rattle.list_laws.specs.Members.{Has}
use Rattle.list_laws.proofs.Members.{has-AllByRecursion, map-has}
use Rattle.history_model.specs.Rows.{Cells, Key, RowFact, RowItem}
use Rattle.history_model.specs.Histories.{Table, has_name, is_named}
use Rattle.version_store.specs.Tables.{Bytes, bytes_cmp}
use Rattle.version_store.proofs.Bytes.{bytes_order}
use Rattle.table_rows.specs.RowTables.{IsRowFact}
use Rattle.table_rows.proofs.Coded.{keys-ordered}
use Rattle.layer_objects.specs.Objects.{by_id, table_facts}
use Rattle.layer_objects.specs.Storable.{IsSized}
use Rattle.id_remap.specs.declared.targets.Target.{Target}
use Rattle.id_remap.specs.Remapping.{database_for, ids_of, new_id, new_references, remapped_schema, target_name}
use Rattle.machine_model.specs.Tables.{new_table}
use Rattle.machine_model.specs.TableRows.{extended}
use Rattle.machine_model.specs.Restores.{put_anew, restored_table, rows_to_restore}
use Rattle.machine_model.specs.Proper.{IsProperTable, NoTwo}
use Rattle.machine_model.specs.ProperMachines.{IsTableWithin}
use Rattle.machine_model.proofs.Lists.{got-has}
use Rattle.machine_model.proofs.Past.{changed-modified, restored-modified}
use Rattle.machine_model.proofs.ProperLists.{named-before, named-then, two-map}
use Rattle.machine_model.proofs.ProperTables.{AreNew, proper-described, proper-extended, proper-first}
use Rattle.machine_model.proofs.ProperFacts.{all-dated, no-ranges, points-apart, tied-keys, unmapped}
use Rattle.machine_model.proofs.ProperCommands.{named-parts, next-version, same-id, same-table}

-- ---- items of a scan, put anew

-- elements of a list that ascends that tie stand at one place
sorted-apart : {X : Type 0} (cmp : X → X → Ordering) (xs : List X) → IsTotalOrder cmp → IsStrictlySortedBy cmp xs → NoTwo (λ (x y : X). cmp x y ≡ Equal) xs
unfolding IsStrictlySortedBy
sorted-apart cmp [] total up i j x y gx gy e = cc gx
sorted-apart cmp (z ∷ zs) total up zero zero x y gx gy e = refl
sorted-apart cmp (z ∷ zs) total up zero (suc j) x y gx gy e =
    let is : z ≡ x = cc gx in
    let less : cmp z y ≡ Less = has-AllByRecursion (λ w. cmp z w ≡ Less) y zs up.0 (got-has zs j y gy) in
    let no : Less ≡ Equal = sym less ∙ (ap (λ w. cmp w y) is ∙ e) in cc no
sorted-apart cmp (z ∷ zs) total up (suc i) zero x y gx gy e =
    let is : z ≡ y = cc gy in
    let less : cmp z x ≡ Less = has-AllByRecursion (λ w. cmp z w ≡ Less) x zs up.0 (got-has zs i x gx) in
    let no : Less ≡ Equal = sym less ∙ (total.antisymm z x ∙ ap ordering_reverse (ap (cmp x) is ∙ e)) in cc no
sorted-apart cmp (z ∷ zs) total up (suc i) (suc j) x y gx gy e = ap suc (sorted-apart cmp zs total up.1 i j x y gx gy e)

module _ (kinds : List Kind) (t : Time) (fs : List RowFact) where
  -- each is a put among the facts
  scanned : (i : RowItem) → Has i (scan (row_cmp kinds) t fs) → Has (Put i.key i.value i.at) fs
  unfolding scan value
  scanned i has = by (newest (row_cmp kinds) i.key t fs) (newest-is (row_cmp kinds) i.key t fs) (items-has (λ k. value (row_cmp kinds) k t fs) i (ordered (row_cmp kinds) (keys_put fs)) has).1
    where
      same : (q : Key) (w : Cells) (s : Time) → is_eq (row_cmp kinds q i.key) ≡ true → record { value = w; at = s } ≡ version i → Put q w s ≡ Put i.key i.value i.at
      same q w s tie e = let a = tied-keys kinds q i.key tie in λ j. Put (a j) ((e j).value) ((e j).at)

      by : (r : Option RowFact) → IsNewest (row_cmp kinds) i.key t fs r → version_of r ≡ Some (version i) → Has (Put i.key i.value i.at) fs
      by None n e = cc e
      by (Some (Put q w s)) n e = subst (λ (f : RowFact). Has f fs) (same q w s n.touching (cc e)) n.among
      by (Some (Del q s)) n e = cc e
      by (Some (DelRange lo hi s)) n e = cc e

  meets : (f : RowFact) → IsRowFact kinds f → KeysMeet (IsKey kinds) f
  meets (Put k v at) is = is.0
  meets (Del k at) is = is
  meets (DelRange lo hi at) is = is

  -- the item with its key in bytes
  abbrev in_bytes : RowItem → Item Bytes Bytes
  in_bytes i = map_item (row_key 0 kinds) row_value i

  -- no two have one key
  keys-apart : ((f : RowFact) → Has f fs → IsRowFact kinds f) → NoTwo (λ (a b : Key). a ≡ b) (map (λ (i : RowItem). i.key) (scan (row_cmp kinds) t fs))
  keys-apart rows =
      let up = (scan-is bytes_cmp bytes_order t (map (map_fact (row_key 0 kinds) row_value) fs)).ascends in
      let mapped = scan-map (row_cmp kinds) bytes_cmp (row_key 0 kinds) row_value (IsKey kinds) (keys-ordered 0 kinds (omega arith)) t fs (λ f has. meets f (rows f has)) in
      let order = on (λ (i : Item Bytes Bytes). i.key) bytes_cmp in
      let apart = sorted-apart order (map in_bytes (scan (row_cmp kinds) t fs)) (on_total (λ (i : Item Bytes Bytes). i.key) bytes_order.total) (subst (IsStrictlySortedBy order) mapped up) in
      two-map (λ (i : RowItem). i.key) (λ (a b : Key). a ≡ b) (scan (row_cmp kinds) t fs) (λ i j x y gx gy same.
      apart i j (in_bytes x) (in_bytes y) (unmapped in_bytes _ i x gx) (unmapped in_bytes _ j y gy)
      (ap (λ k. bytes_cmp (row_key 0 kinds k) (row_key 0 kinds y.key)) same ∙ tied_itself bytes_order.total (row_key 0 kinds y.key)))

  items-new : (at : Time) → IsTime at → ((f : RowFact) → Has f fs → IsRowFact kinds f) → ((f : RowFact) → Has f fs → IsSized kinds f) → AreNew kinds at (map (put_anew at) (scan (row_cmp kinds) t fs))
  items-new at time rows sized =
      let is = scan (row_cmp kinds) t fs in
      let key : RowItem → Key = λ i. i.key in
      record {
        dated = all-dated kinds key (put_anew at) at (λ x. refl) (λ x. refl) (λ x k touch. tied-keys kinds x.key k touch) is;
        facts = λ f has. (let p = map-has (put_anew at) f is has in subst (IsRowFact kinds) (sym p.2) (rows (Put p.0.key p.0.value p.0.at) (scanned p.0 p.1)));
        sized = λ f has. (let p = map-has (put_anew at) f is has in let s = sized (Put p.0.key p.0.value p.0.at) (scanned p.0 p.1) in subst (IsSized kinds) (sym p.2) (s.0, s.1, time));
        apart = points-apart kinds key (put_anew at) at (λ x. refl) (λ x. refl) (λ x k touch. tied-keys kinds x.key k touch) is (keys-apart rows);
        differ = no-ranges kinds key (put_anew at) at (λ x. refl) (λ x. refl) (λ x k touch. tied-keys kinds x.key k touch) is;
      }

-- ---- descriptors

pub restored-id : (d : Schema) (id : ℕ) (database references : List ℕ) (at : Time) → (restored_schema d id database references at).id ≡ id
unfolding restored_schema
restored-id d id database references at = refl

restored-kinds : (d : Schema) (id : ℕ) (database references : List ℕ) (at : Time) → key_kinds (restored_schema d id database references at) ≡ key_kinds d
unfolding restored_schema
restored-kinds d id database references at = refl

restored-version : (d : Schema) (id : ℕ) (database references : List ℕ) (at : Time) → (restored_schema d id database references at).version ≡ 1
unfolding restored_schema
restored-version d id database references at = refl

-- both descriptors have the name that the table gets
first-name : (d : Schema) (id : ℕ) (to : Target) (references : List ℕ) (at : Time) (name : List ℕ × List ℕ) → has_name name (restored_schema d id (database_for to d) references at) ≡ true → target_name to d ≡ name
unfolding restored_schema
first-name d id to references at name e = let p = named-parts name (restored_schema d id (database_for to d) references at) e in λ i. (p.0 i, p.1 i)

second-name : (d : Schema) (id : ℕ) (to : Target) (references : List ℕ) (at published : Time) (name : List ℕ × List ℕ) → has_name name (changed_schema (restored_schema d id (database_for to d) references at) (Become Public) published) ≡ true → target_name to d ≡ name
unfolding restored_schema changed_schema
second-name d id to references at published name e = let p = named-parts name (changed_schema (restored_schema d id (database_for to d) references at) (Become Public) published) e in λ i. (p.0 i, p.1 i)

-- ---- the table

module _ (tables : List Table) (ids : List (ℕ × ℕ)) (to : Target) (t at published : Time) (d : Schema) (later : time_lt at published ≡ true) where
  abbrev first : Schema
  first = remapped_schema ids to at d

  abbrev second : Schema
  second = changed_schema first (Become Public) published

  first-at : first.modified ≡ at
  first-at = restored-modified d _ _ _ at

  second-at : second.modified ≡ published
  second-at = changed-modified first (Become Public) published

  pub table-proper : IsProperSchema first → ((f : RowFact) → Has f (by_id [] table_facts tables d.id) → IsRowFact (key_kinds d) f) → ((f : RowFact) → Has f (by_id [] table_facts tables d.id) → IsSized (key_kinds d) f)
      → time_lt zero_time at ≡ true → IsTime at → IsTime published → IsProperTable first.id (restored_table tables ids to t at published d)
  table-proper proper rows sized after time public_time =
      let fs = map (put_anew at) (rows_to_restore tables t d) in
      let kinds : key_kinds first ≡ key_kinds d = restored-kinds d _ _ _ at in
      let new : AreNew (key_kinds first) at fs = subst (λ (ks : List Kind). AreNew ks at fs) (sym kinds) (items-new (key_kinds d) t (by_id [] table_facts tables d.id) at time rows sized) in
      let begun = proper-first first proper (subst (λ (u : Time). time_lt zero_time u ≡ true) (sym first-at) after) in
      let filled = proper-extended first.id zero_time at (new_table first) first fs begun (inl refl) (λ f none. absurd none) after new in
      let version = restored-version d (new_id ids d.id) (database_for to d) (new_references ids d.references) at in
      proper-described first.id at (extended (new_table first) fs) first second filled
      (λ x has. ⊎_elim (λ (is : x ≡ first). subst (λ (y : Schema). time_le y.modified at ≡ true) (sym is) (subst (λ (u : Time). time_le u at ≡ true) (sym first-at) (le-refl at))) (λ no. absurd no) has)
      (inl refl) (changed-proper first (Become Public) published proper refl (omega (arith, version)) proper.columns.named proper.name public_time) (same-id first (Become Public) published) (same-table first (Become Public) published proper refl)
      (subst (λ (u : Time). time_lt at u ≡ true) (sym second-at) later)

  pub table-within : (n : ℕ) → IsTableWithin (n + 1 + 1) published (restored_table tables ids to t at published d)
  table-within n =
      let one = restored-version d (new_id ids d.id) (database_for to d) (new_references ids d.references) at in
      let two = next-version first (Become Public) published in
      record {
        facts = λ f has. (let p = map-has (put_anew at) f (rows_to_restore tables t d) has in subst (λ (x : RowFact). time_le (date x) published ≡ true) (sym p.2) (lt-le at published later));
        versions = λ x has. ⊎_elim (λ (is : x ≡ first). let v = ap (λ (y : Schema). y.version) is in omega (arith, v, one))
            (λ rest. ⊎_elim (λ (is : x ≡ second). let v = ap (λ (y : Schema). y.version) is in omega (arith, v, one, two)) (λ no. absurd no) rest) has;
      }

  -- it has a name from its first time on, which is the one that it gets
  pub table-name : (name : List ℕ × List ℕ) (x : Time) → is_named name x (restored_table tables ids to t at published d).descriptors ≡ true → (time_le at x ≡ true) × (target_name to d ≡ name)
  table-name name x is = by (cases_Bool (time_le second.modified x)) (cases_Bool (time_le first.modified x))
    where
      by : (time_le second.modified x ≡ true) ⊎ (time_le second.modified x ≡ false) → (time_le first.modified x ≡ true) ⊎ (time_le first.modified x ≡ false) → (time_le at x ≡ true) × (target_name to d ≡ name)
      by (inl le) other = (
        lt-le-le at published x later (subst (λ (u : Time). time_le u x ≡ true) second-at le),
        second-name d (new_id ids d.id) to (new_references ids d.references) at published name (sym (named-then name (first ∷ []) second x le) ∙ is),
      )
      by (inr not) (inl le) = (
        subst (λ (u : Time). time_le u x ≡ true) first-at le,
        first-name d (new_id ids d.id) to (new_references ids d.references) at name (sym (named-then name [] first x le) ∙ (sym (named-before name (first ∷ []) second x not) ∙ is)),
      )
      by (inr not) (inr never) = absurd (let no : false ≡ true = sym (named-before name [] first x never) ∙ (sym (named-before name (first ∷ []) second x not) ∙ is) in cc no)

-- ---- ids that ascend

pub ascend-lower : (a b : ℕ) (xs : List ℕ) → a ≤ b → ascends_from b xs ≡ true → ascends_from a xs ≡ true
ascend-lower a b [] le e = refl
ascend-lower a b (x ∷ xs) le e =
    let p = and_parts (nat_le b x) (ascends_from (x + 1) xs) e in
    let l = p.0 in
    let low : nat_le a x ≡ true = grind (arith, nat_tests, l, le) in rw low p.1

pub ascend-range : (a n : ℕ) → ascends_from a (range_with_len a n) ≡ true
ascend-range a zero = refl
ascend-range a (suc n) = let own : nat_le a a ≡ true = grind (arith, nat_tests) in rw own (ascend-range (a + 1) n)

pub ascend-filter : (p : ℕ → Bool) (k : ℕ) (xs : List ℕ) → ascends_from k xs ≡ true → ascends_from k (filter p xs) ≡ true
ascend-filter p k [] e = refl
ascend-filter p k (x ∷ xs) e =
    let parts = and_parts (nat_le k x) (ascends_from (x + 1) xs) e in
    let l = parts.0 in
    let le : k ≤ x + 1 = grind (arith, nat_tests, l) in
    elim (cases_Bool (p x)) [ inl t ↦ rw (t, l) (ascend-filter p (x + 1) xs parts.1) | inr f ↦ rw f (ascend-filter p k xs (ascend-lower k (x + 1) xs le parts.1)) ]

-- what is found by ids has these ids
pub ascend-found : (f : ℕ → Option Schema) (k : ℕ) (xs : List ℕ) → ((id : ℕ) (d : Schema) → f id ≡ Some d → d.id ≡ id) → ascends_from k xs ≡ true → ascends_from k (ids_of (filter_map f xs)) ≡ true
ascend-found f k [] own e = refl
ascend-found f k (x ∷ xs) own e = by (f x) refl (ascend-found f (x + 1) xs own parts.1)
  where
    parts : (nat_le k x ≡ true) × (ascends_from (x + 1) xs ≡ true)
    parts = and_parts (nat_le k x) (ascends_from (x + 1) xs) e

    by : (o : Option Schema) → f x ≡ o → ascends_from (x + 1) (ids_of (filter_map f xs)) ≡ true → ascends_from k (ids_of (cons_option o (filter_map f xs))) ≡ true
    by None is rest = let l = parts.0 in ascend-lower k (x + 1) _ (grind (arith, nat_tests, l)) rest
    by (Some d) is rest =
        let same = own x d is in
        let l = parts.0 in
        let low : nat_le k d.id ≡ true = grind (arith, nat_tests, l, same) in
        rw low (subst (λ (i : ℕ). ascends_from (i + 1) (ids_of (filter_map f xs)) ≡ true) (sym same) rest)

ids-above : (k : ℕ) (ds : List Schema) (d : Schema) → ascends_from k (ids_of ds) ≡ true → Has d ds → k ≤ d.id
ids-above k [] d e has = absurd has
ids-above k (x ∷ xs) d e has =
    let parts = and_parts (nat_le k x.id) (ascends_from (x.id + 1) (ids_of xs)) e in
    let l = parts.0 in
    let low : k ≤ x.id = grind (arith, nat_tests, l) in
    ⊎_elim (λ (is : d ≡ x). subst (λ (y : Schema). k ≤ y.id) (sym is) low) (λ more. let up = ids-above (x.id + 1) xs d parts.1 more in omega (arith, low, up)) has

pub ids-apart : (k : ℕ) (ds : List Schema) → ascends_from k (ids_of ds) ≡ true → NoTwo (λ (a b : Schema). a.id ≡ b.id) ds
ids-apart k [] e i j x y gx gy same = cc gx
ids-apart k (z ∷ zs) e zero zero x y gx gy same = refl
ids-apart k (z ∷ zs) e zero (suc j) x y gx gy same =
    let is : z ≡ x = cc gx in
    let first = ap (λ (w : Schema). w.id) is in
    let up = ids-above (z.id + 1) zs y (and_parts (nat_le k z.id) _ e).1 (got-has zs j y gy) in absurd (omega (arith, first, up, same))
ids-apart k (z ∷ zs) e (suc i) zero x y gx gy same =
    let is : z ≡ y = cc gy in
    let first = ap (λ (w : Schema). w.id) is in
    let up = ids-above (z.id + 1) zs x (and_parts (nat_le k z.id) _ e).1 (got-has zs i x gx) in absurd (omega (arith, first, up, same))
ids-apart k (z ∷ zs) e (suc i) (suc j) x y gx gy same = ap suc (ids-apart (z.id + 1) zs (and_parts (nat_le k z.id) _ e).1 i j x y gx gy same)

range-at : (a n k y : ℕ) → slice_get (range_with_len a n) k ≡ Some y → y ≡ a + k
range-at a zero k y e = cc e
range-at a (suc n) zero y e = let is : a ≡ y = cc e in omega (arith, is)
range-at a (suc n) (suc k) y e = let rest = range-at (a + 1) n k y e in omega (arith, rest)

-- ---- new ids

-- chosen tables get the ids from n on, in order
pub new-id-at : (n : ℕ) (to : Target) (t : Time) (chosen : List Schema) (k : ℕ) (d : Schema) → are_ascending (ids_of chosen) ≡ true → slice_get chosen k ≡ Some d → (remapped_schema (numbered n (ids_of chosen)) to t d).id ≡ n + k
new-id-at n to t chosen k d up got =
    let ids = numbered n (ids_of chosen) in
    let make = remapped_schema ids to t in
    let all = in_order n to t (ids_of chosen) ids chosen (map make chosen) up refl refl refl in
    let here : slice_get (ids_of (map make chosen)) k ≡ Some (make d).id = unmapped (λ (x : Schema). x.id) (map make chosen) k (make d) (unmapped make chosen k d got) in
    range-at n (length chosen) k (make d).id (ap (λ (xs : List ℕ). slice_get xs k) (sym all) ∙ here)

pub new-small : (ids : List (ℕ × ℕ)) (olds : List ℕ) → IsIdMap ids → list_all is_id (new_references ids olds) ≡ true
new-small ids [] is = refl
new-small ids (old ∷ olds) is = by (lookup (nat_eq old) ids) refl (new-small ids olds is)
  where
    by : (o : Option ℕ) → lookup (nat_eq old) ids ≡ o → list_all is_id (new_references ids olds) ≡ true → list_all is_id (cons_option o (new_references ids olds)) ≡ true
    by None e rest = rest
    by (Some n) e rest = let l = partner-small old n ids is e in let fits : is_id n ≡ true = grind (arith, nat_tests, l) in rw fits rest
