-- A command in form leads from a proper machine to a proper one.
use Rattle.std.proofs.Common.{◌≡◌, ◌⊎◌, inl, inr, ⊎_elim, ℕ, zero, suc, ◌+◌, ◌-◌, ◌<◌, ◌≤◌, ◌^◌, nat_lt, Bool, true, false, not, refl, sym, ap, subst, ◌∙◌, arith, List, [], ◌∷◌, ◌++◌, map, length, length-append, Option, Some, None, slice_get, slice_set, unwrap_or, if◌then◌else◌}
use Rattle.std.specs.Prelude.{position}
use Rattle.std.specs.List.{AllByRecursion, find, list_all, position_or_len}
use Rattle.std.proofs.lemmas.Bool.{cases_Bool}
use Rattle.std.proofs.lemmas.Bool.Decides.{nat_tests}
use Rattle.std.proofs.lemmas.List.{length-map}
use Rattle.std.proofs.lemmas.List.Sums.{sum_by-cons}
use Rattle.mvcc_keys.specs.Times.{IsTime, Time, time, zero_time, time_le, time_lt}
use Rattle.mvcc_keys.proofs.TimeOrder.{le-refl, le-trans, lt-le, zero-le, le-lt-lt}
use Rattle.row_codec.specs.declared.rows.Kind.{Kind}
use Rattle.row_codec.specs.declared.rows.Datum.{Datum}
use Rattle.table_descriptors.specs.Names.{is_name}
use Rattle.table_descriptors.specs.Fields.{is_id}
use Rattle.table_descriptors.specs.declared.columns.State.TheVariants.{Dropped}
use Rattle.table_descriptors.specs.declared.changes.Change.{Change}
use Rattle.table_descriptors.specs.declared.changes.Change.TheVariants.{Become}
use Rattle.table_descriptors.specs.Descriptors.{IsProperSchema, Schema, bad_change, changed_schema, key_kinds}
use Rattle.table_descriptors.proofs.SchemaLaws.{changed-proper, new_schema-proper}
use Rattle.fact_model.specs.Facts.{Del, DelRange, date}
use Rattle.list_laws.specs.Members.{Has}
use Rattle.list_laws.proofs.Members.{all-append, has-append_cases}
use Rattle.history_model.specs.Rows.{Key, RowFact, put_of}
use Rattle.history_model.specs.Histories.{Table, Found, is_named, place_named, schemas_of}
use Rattle.schema_catalog.specs.Catalogs.{Schemas, change_fault, first_schema, missing_fault, next_id, offline_fault, reference_ids, taken_name}
use Rattle.schema_catalog.proofs.References.{table_fits}
use Rattle.table_rows.specs.declared.faults.RowsFault.{RowsFault}
use Rattle.table_rows.specs.Checks.{keys_fault, range_fault, rows_fault}
use Rattle.reply_texts.specs.declared.refusals.Refusal.{Refusal}
use Rattle.reply_texts.specs.declared.refusals.Refusal.TheVariants.{NoSuchBackup, NoSuchLayer, TickBack}
use Rattle.reply_texts.specs.declared.answers.Answer.{Answer}
use Rattle.reply_texts.specs.declared.answers.Answer.TheVariants.{RangeDeleted, RowsShown, RowsWritten}
use Rattle.script_grammar.specs.declared.backups.Src.{Src}
use Rattle.script_grammar.specs.declared.backups.Src.TheVariants.{Latest}
use Rattle.table_descriptors.specs.declared.scopes.Scope.TheVariants.{Database, Tables}
use Rattle.command_lang.specs.Typed.{AreColumns, AreValues, IsKeyOfColumns, IsName, IsTableName}
use Rattle.layer_book.specs.Subdirectories.{first_of}
use Rattle.machine_model.specs.declared.extents.Extent.{Extent}
use Rattle.machine_model.specs.Machine.{Machine, Stepped, answered, catalog_of, first_refusal, for_table, judged, offline_refusal}
use Rattle.machine_model.specs.Refusals.{catalog_refusal, rows_refusal}
use Rattle.machine_model.specs.Tables.{alter, create_database, create_table, described, drop_table, new_table, tick, with_descriptor, with_new_table}
use Rattle.machine_model.specs.TableRows.{adding, collected_refusal, future_refusal, rows_at, collect, delete, delete_range, extended, raised, room_refusal, select, select_at, upsert}
use Rattle.layer_objects.specs.Objects.{manifest_of, name_of_record}
use Rattle.machine_model.specs.Backups.{absent_refusal, backup, backup_done, end_refusal, plan_refusal, backup_database, backup_latest, backup_tables, ending, forget, full_extent, ids_named, is_between_times, last_end_in, last_full, layer_record, layers_in, next_extent, own_subdirectories, source_among, with_backup, with_source}
use Rattle.machine_model.specs.Orders.{IsInOrder}
use Rattle.machine_model.specs.Proper.{IsProperTable, NoTwo, ShareName}
use Rattle.machine_model.specs.ProperMachines.{IsTableWithin}
use Rattle.machine_model.proofs.Past.{changed-modified, new-modified}
use Rattle.machine_model.proofs.ProperLists.{AreDatedUpTo, IsFree, named-before, named-then, names-described, names-more, two-one}
use Rattle.machine_model.proofs.ProperTables.{AreNew, proper-described, proper-extended, proper-first}
use Rattle.machine_model.proofs.ProperFacts.{keys-new, range-new, rows-new}
use Rattle.machine_model.proofs.ProperSteps.{HasProper, IsFound, Keeps, Tells, accepted-set, drawing-keeps, first-none, found-keeps, free-names, has-room, keeps-all, keeps-clock, keeps-more, keeps-same, keeps-set, names-stay, not-refused, table-keeps, unless-keeps}
use Rattle.machine_model.proofs.ProperCommands.{IsTypedChange, change-fine, drop-typed, columns-named, force-has, free-by, keys-tell, name-named, new-free, new-id, new-version, next-version, not-false, numbered-named, own-name, range-tell, rows-tell, same-id, same-table, table-fine, table-untaken}

-- ids of references
place-small : {X : Type 0} (p : X → Bool) (xs : List X) (i : ℕ) → position p xs ≡ Some i → i < length xs
place-small p xs i e = by (nat_lt (position_or_len p xs) (length xs)) refl e
  where
    by : (b : Bool) → nat_lt (position_or_len p xs) (length xs) ≡ b → (if b then Some (position_or_len p xs) else None) ≡ Some i → i < length xs
    by true l f = let same : position_or_len p xs ≡ i = cc f in grind (arith, nat_tests, l, same)
    by false l f = cc f

references-fit : (s : Schemas) (t : Time) (references : List (List ℕ × List ℕ)) → 100 + length s.tables < 2 ^ 32 → list_all is_id (reference_ids s t references) ≡ true
references-fit s t [] small = refl
references-fit s t (name ∷ names) small = by (place_named s.tables name t) refl (references-fit s t names small)
  where
    by : (o : Option ℕ) → place_named s.tables name t ≡ o → list_all is_id (reference_ids s t names) ≡ true → list_all is_id (reference_ids s t (name ∷ names)) ≡ true
    by None e more = rw e more
    by (Some i) e more =
        let lt = place-small (is_named name t) s.tables i e in
        let fits : is_id (100 + i) ≡ true = grind (arith, nat_tests, lt, small) in
        rw (e, fits) more

module _ (n : ℕ) (m : Machine) (small : n < 2 ^ 32 - 2) (p : HasProper n m) (o : IsInOrder m) (few : m.limits.tables ≤ 4096) (room : m.limits.events ≤ 1000000) where
  pub dated : AreDatedUpTo m.clock m.history.tables
  dated i table got d has = (o.tables i table got).dated d has

  pub tick-proper : (wall : ℕ) → wall < 2 ^ 63 → Keeps n m p (tick m wall)
  unfolding tick
  tick-proper wall fits = unless-keeps n m p _ _ (λ e.
      let after = not-false (time_lt m.clock (time wall 0)) (not-refused (not (time_lt m.clock (time wall 0))) (TickBack m.clock) (first-none _ _ e).0) in
      keeps-clock n m p (time wall 0) (lt-le m.clock (time wall 0) after) (omega (arith, fits), omega arith))

  pub database-proper : (name : List ℕ) → IsName name → Keeps n m p (create_database m name)
  unfolding create_database
  database-proper name typed = unless-keeps n m p _ _ (λ e. keeps-all n m p (record m.history { databases = m.history.databases ++ name ∷ [] })
      (record { tables = p.history.tables; names = p.history.names; databases = all-append (λ x. is_name x ≡ true) m.history.databases (name ∷ []) p.history.databases (typed, tt); few = p.history.few; events = p.history.events }) refl)

  -- ---- tables

  first-proper : (t : Time) (d : Schema) → time_lt m.clock t ≡ true → IsTime t → d.modified ≡ t → d.id ≡ 100 + length m.history.tables → d.version ≡ 1 → IsProperSchema d → length m.history.tables < 4096 → IsFree m.history.tables t (d.database, d.name)
      → HasProper (n + 1) (with_new_table m d)
  first-proper t d after time modified own version proper space free =
      keeps-more n m p t m.history.databases (new_table d ∷ []) (lt-le m.clock t after) time p.history.databases all names (omega (arith, space)) (let none = sum_by-cons (λ (x : Table). length x.facts) (new_table d) [] in let events = p.history.events in omega (arith, none, events)) (with_new_table m d) modified refl
    where
      new : IsProperTable (100 + (length m.history.tables + 0)) (new_table d) × IsTableWithin (n + 1 + 1) t (new_table d)
      new = (
        subst (λ (i : ℕ). IsProperTable i (new_table d)) (let e : d.id ≡ 100 + (length m.history.tables + 0) = omega (arith, own) in e)
            (proper-first d proper (subst (λ (u : Time). time_lt zero_time u ≡ true) (sym modified) (le-lt-lt zero_time m.clock t (zero-le m.clock) after))),
        record { facts = λ f none. absurd none; versions = λ e has. ⊎_elim (λ (is : e ≡ d). let v = ap (λ (x : Schema). x.version) is in omega (arith, v, version)) (λ none. absurd none) has },
      )

      all : (k : ℕ) (x : Table) → slice_get (new_table d ∷ []) k ≡ Some x → IsProperTable (100 + (length m.history.tables + k)) x × IsTableWithin (n + 1 + 1) t x
      all zero x got = let same : new_table d ≡ x = cc got in subst (λ (y : Table). IsProperTable (100 + (length m.history.tables + 0)) y × IsTableWithin (n + 1 + 1) t y) same new
      all (suc k) x got = absurd (let none : None ≡ Some x = got in cc none)

      own-names : (name : List ℕ × List ℕ) (x : Time) → is_named name x (d ∷ []) ≡ true → (time_le t x ≡ true) × IsFree m.history.tables t name
      own-names name x is = by (cases_Bool (time_le d.modified x))
        where
          by : (time_le d.modified x ≡ true) ⊎ (time_le d.modified x ≡ false) → (time_le t x ≡ true) × IsFree m.history.tables t name
          by (inl le) = (subst (λ (u : Time). time_le u x ≡ true) modified le, free-by m.history.tables t d free name (sym (named-then name [] d x le) ∙ is))
          by (inr not) = absurd (let none : false ≡ true = sym (named-before name [] d x not) ∙ is in cc none)

      names : (x : Time) → NoTwo (ShareName x) (m.history.tables ++ new_table d ∷ [])
      names = names-more m.history.tables m.clock t dated after p.history.names (new_table d ∷ []) (λ x. two-one (ShareName x) (new_table d))
          (λ table has. ⊎_elim (λ (is : table ≡ new_table d). subst (λ (y : Table). (name : List ℕ × List ℕ) (x : Time) → is_named name x y.descriptors ≡ true → (time_le t x ≡ true) × IsFree m.history.tables t name) (sym is) own-names) (λ none. absurd none) has)

  pub create-proper : (name : List ℕ × List ℕ) (columns : List (List ℕ × Kind)) (key : List (List ℕ × Bool)) (references : List (List ℕ × List ℕ)) → IsTableName name → AreColumns columns → IsKeyOfColumns key → Keeps n m p (create_table m name columns key references)
  unfolding create_table
  create-proper name columns key references named typed keyed = drawing-keeps n m p _ (λ t after time. unless-keeps n m p _ _ (λ e.
      let s = catalog_of m in
      let fine = table-fine s t name columns key references (first-none _ _ e).0 in
      let fits = table_fits s t name columns key references fine in
      let len = length-map m.history.tables (λ (x : Table). x.descriptors) in
      let below = fits.1 in
      let space : length m.history.tables < 4096 = omega (arith, len, below, few) in
      let ids : 100 + length s.tables < 2 ^ 32 = omega (arith, len, space) in
      let refs = reference_ids s t references in
      first-proper t (first_schema s t name columns key references) after time (new-modified _ _ _ columns key _ t) (let i = new-id (next_id s) name.0 name.1 columns key refs t in omega (arith, i, len)) (new-version (next_id s) name.0 name.1 columns key refs t)
      (new_schema-proper (next_id s) name.0 name.1 columns key refs t ids named.0 named.1 fits.0 keyed.1 (numbered-named 1 columns typed) (references-fit s t references ids) time) space
      (new-free m.history.tables t (next_id s) name columns key refs t (free-names m.history.tables t name (table-untaken s t name columns key references fine)))))

  changed-proper' : (t : Time) (f : Found) (change : Change) → time_lt m.clock t ≡ true → IsTime t → IsFound m t f → bad_change f.schema change ≡ None → taken_name (catalog_of m) t f.schema change ≡ None → IsTypedChange change
      → HasProper (n + 1) (with_descriptor m f (changed_schema f.schema change t))
  changed-proper' t f change after time found fine free typed =
      let d = f.schema in
      let e = changed_schema d change t in
      let has = force-has f.table.descriptors t d found.force in
      let table = p.history.tables f.place f.table found.got in
      let own = table.schemas d has in
      let in_table = p.tables f.place f.table found.got in
      let version = in_table.versions d has in
      let modified = changed-modified d change t in
      let proper = changed-proper d change t own.0 fine (omega (arith, version, small)) (columns-named d change own.0 typed) (name-named d change own.0 typed) time in
      subst (λ (u : Time). HasProper (n + 1) (record m { clock = u; history = record m.history { tables = slice_set m.history.tables f.place (described f.table e) } })) (sym modified)
      (keeps-set n m p t f.place f.table (described f.table e) (lt-le m.clock t after) time found.got
      (proper-described (100 + f.place) m.clock f.table d e table (dated f.place f.table found.got) has proper (same-id d change t ∙ own.1) (same-table d change t own.0 fine) (subst (λ (u : Time). time_lt m.clock u ≡ true) (sym modified) after))
      (record {
        facts = λ x hx. le-trans (date x) m.clock t (in_table.facts x hx) (lt-le m.clock t after);
        versions = λ x hx. ⊎_elim (λ (old : Has x f.table.descriptors). let v = in_table.versions x old in omega (arith, v))
            (λ (here : Has x (e ∷ [])). ⊎_elim (λ (is : x ≡ e). let v = ap (λ (y : Schema). y.version) is in let w = next-version d change t in omega (arith, v, w, version)) (λ none. absurd none) here) (has-append_cases x f.table.descriptors (e ∷ []) hx);
      })
      (names-described m.history.tables m.clock t dated after p.history.names f.place f.table e found.got modified (own-name m.history.tables t f.table.descriptors m.limits.tables m.history.databases d change found.force typed free))
      (let events = p.history.events in let same = accepted-set m.history.tables f.place f.table (described f.table e) 0 found.got (omega arith) in omega (arith, same, events)))

  pub alter-proper : (name : List ℕ × List ℕ) (change : Change) → IsTypedChange change → Keeps n m p (alter m name change)
  unfolding alter
  alter-proper name change typed = drawing-keeps n m p _ (λ t after time. table-keeps n m p name t _ (λ f found. unless-keeps n m p _ _ (λ e.
      let tests = catalog_refusal (change_fault (catalog_of m) t f.schema change) ∷ [] in
      let fine = change-fine (catalog_of m) t f.schema change (first-none (catalog_refusal (change_fault (catalog_of m) t f.schema change)) [] (first-none (offline_refusal name f.schema) tests e).1).0 in
      changed-proper' t f change after time found fine.0 fine.1 typed)))

  pub drop-proper : (name : List ℕ × List ℕ) → Keeps n m p (drop_table m name)
  unfolding drop_table
  drop-proper name = drawing-keeps n m p _ (λ t after time. table-keeps n m p name t _ (λ f found. unless-keeps n m p _ _ (λ e. changed-proper' t f (Become Dropped) after time found refl refl drop-typed)))

  -- ---- rows

  adding-proper : (name : List ℕ × List ℕ) (fault : Schema → Option RowsFault) (facts : Schema → Time → List RowFact) (answer : Time → Answer) → ((d : Schema) → Tells rows_refusal (fault d))
      → ((d : Schema) (t : Time) → IsProperSchema d → IsTime t → fault d ≡ None → AreNew (key_kinds d) t (facts d t)) → Keeps n m p (adding m name fault facts answer)
  adding-proper name fault facts answer tells new = drawing-keeps n m p _ (λ t after time. table-keeps n m p name t _ (λ f found. unless-keeps n m p _ _ (λ e.
      let last = room_refusal m (length (facts f.schema t)) ∷ [] in
      let a = first-none (rows_refusal (fault f.schema)) last (first-none (offline_refusal name f.schema) (rows_refusal (fault f.schema) ∷ last) e).1 in
      let b = first-none (room_refusal m (length (facts f.schema t))) [] a.1 in
      let d = f.schema in
      let has = force-has f.table.descriptors t d found.force in
      let table = p.history.tables f.place f.table found.got in
      let in_table = p.tables f.place f.table found.got in
      let fs = facts d t in
      let added : AreNew (key_kinds d) t fs = new d t (table.schemas d has).0 time (tells d a.0) in
      let fits = has-room m (length fs) b.0 room in
      let all = accepted-set m.history.tables f.place f.table (extended f.table fs) (length fs) found.got (length-append f.table.facts fs) in
      keeps-set n m p t f.place f.table (extended f.table fs) (lt-le m.clock t after) time found.got (proper-extended (100 + f.place) m.clock t f.table d fs table has in_table.facts after added)
      (record {
        facts = λ x hx. ⊎_elim (λ (old : Has x f.table.facts). le-trans (date x) m.clock t (in_table.facts x old) (lt-le m.clock t after)) (λ (here : Has x fs). subst (λ (u : Time). time_le u t ≡ true) (sym (added.dated x here)) (le-refl t)) (has-append_cases x f.table.facts fs hx);
        versions = λ x hx. (let v = in_table.versions x hx in omega (arith, v));
      })
      (names-stay n m p f.place f.table (extended f.table fs) found.got refl) (omega (arith, all, fits)))))

  pub upsert-proper : (name : List ℕ × List ℕ) (rows : List (List Datum)) → AllByRecursion AreValues rows → Keeps n m p (upsert m name rows)
  unfolding upsert
  upsert-proper name rows typed = adding-proper name (λ d. rows_fault d rows) (λ d t. map (put_of d t) rows) (λ t. RowsWritten (length rows) t) (λ d. rows-tell d rows) (λ d t proper time fine. rows-new d t proper time rows fine typed)

  pub delete-proper : (name : List ℕ × List ℕ) (keys : List Key) → AllByRecursion AreValues keys → Keeps n m p (delete m name keys)
  unfolding delete
  delete-proper name keys typed = adding-proper name (λ d. keys_fault d keys) (λ d t. map (λ k. Del k t) keys) (λ t. RowsWritten (length keys) t) (λ d. keys-tell d keys) (λ d t proper time fine. keys-new d t proper time keys fine typed)

  pub range-proper : (name : List ℕ × List ℕ) (lo hi : Key) → AreValues lo → AreValues hi → Keeps n m p (delete_range m name lo hi)
  unfolding delete_range
  range-proper name lo hi low high = adding-proper name (λ d. range_fault d lo hi) (λ d t. DelRange lo hi t ∷ []) RangeDeleted (λ d. range-tell d lo hi) (λ d t proper time fine. range-new d t proper time lo hi fine low high)

  select_at-proper : (name : List ℕ × List ℕ) (t : Time) → Keeps n m p (select_at m name t)
  select_at-proper name t = unless-keeps n m p (first_refusal (future_refusal m t ∷ [])) (for_table m name t (λ f. judged m (offline_refusal name f.schema ∷ collected_refusal f.table t ∷ []) (answered m (RowsShown (rows_at f t)))))
      (λ e. table-keeps n m p name t (λ f. judged m (offline_refusal name f.schema ∷ collected_refusal f.table t ∷ []) (answered m (RowsShown (rows_at f t))))
      (λ f found. unless-keeps n m p (first_refusal (offline_refusal name f.schema ∷ collected_refusal f.table t ∷ [])) (answered m (RowsShown (rows_at f t))) (λ g. keeps-same n m p)))

  pub select-proper : (name : List ℕ × List ℕ) (at : Option Time) → Keeps n m p (select m name at)
  unfolding select
  select-proper name at = select_at-proper name (unwrap_or at m.clock)

  pub collect-proper : (name : List ℕ × List ℕ) (g : Time) → Keeps n m p (collect m name g)
  unfolding collect
  collect-proper name g = table-keeps n m p name m.clock _ (λ f found. unless-keeps n m p _ _ (λ e.
      let t = p.history.tables f.place f.table found.got in
      let in_table = p.tables f.place f.table found.got in
      let new : Table = record f.table { threshold = raised f.table.threshold g } in
      keeps-set n m p m.clock f.place f.table new (le-refl m.clock) p.clock found.got
      (record { id_is = t.id_is; some = t.some; ascend = t.ascend; after = t.after; schemas = t.schemas; same = t.same; facts = t.facts; ranges = t.ranges; apart = t.apart; differ = t.differ; sized = t.sized })
      (record { facts = in_table.facts; versions = λ x hx. (let v = in_table.versions x hx in omega (arith, v)) })
      (names-stay n m p f.place f.table new found.got refl)
      (let events = p.history.events in let same = accepted-set m.history.tables f.place f.table new 0 found.got (omega arith) in omega (arith, same, events))))

  -- ---- backups

  layer-proper : (tests : List (Option Refusal)) (x : Extent) (last clock : Time) → time_le m.clock clock ≡ true → IsTime clock → Keeps n m p (backup m tests x last clock)
  layer-proper tests x last clock le time = unless-keeps n m p (first_refusal (tests ++ end_refusal x.end last ∷ plan_refusal m x ∷ []))
      (answered (with_backup m clock (layer_record m x)) (backup_done (layer_record m x) (manifest_of m.history.tables (layer_record m x))))
      (λ e. let q = keeps-clock n m p clock le time in record { history = q.history; tables = q.tables; clock = q.clock })

  ending-proper : (at : Option Time) (change : Time → Time → Stepped) → ((end clock : Time) → time_le m.clock clock ≡ true → IsTime clock → Keeps n m p (change end clock)) → Keeps n m p (ending m at change)
  ending-proper None change is = drawing-keeps n m p (λ t. change t t) (λ t after time. is t t (lt-le m.clock t after) time)
  ending-proper (Some t) change is = unless-keeps n m p _ _ (λ e. is t m.clock (le-refl m.clock) p.clock)

  pub backup-proper : (database collection : List ℕ) (at : Option Time) (history : Bool) → Keeps n m p (backup_database m database collection at history)
  unfolding backup_database
  backup-proper database collection at history = ending-proper at _ (λ end clock. layer-proper (absent_refusal (catalog_of m) database ∷ []) (full_extent collection (Database database) history end) (last_full m collection) clock)

  pub tables-proper : (names : List (List ℕ × List ℕ)) (collection : List ℕ) (at : Option Time) (history : Bool) → Keeps n m p (backup_tables m names collection at history)
  unfolding backup_tables
  tables-proper names collection at history = ending-proper at _ (λ end clock. layer-proper (catalog_refusal (missing_fault (catalog_of m) end names) ∷ catalog_refusal (offline_fault (catalog_of m) end names) ∷ [])
      (full_extent collection (Tables (ids_named (schemas_of m.history.tables) names end)) history end) (last_full m collection) clock)

  pub source-proper : (source : Src) (collection : List ℕ) (change : List ℕ × Time → Stepped) → ((s : List ℕ × Time) → Keeps n m p (change s)) → Keeps n m p (with_source m source collection change)
  source-proper source collection change is = found-keeps n m p NoSuchBackup (source_among source (own_subdirectories m collection)) change (λ s e. is s)

  pub latest-proper : (collection : List ℕ) (at : Option Time) (history : Bool) → Keeps n m p (backup_latest m collection at history)
  unfolding backup_latest
  latest-proper collection at history = ending-proper at _ (λ end clock le time. source-proper Latest collection _ (λ s.
      found-keeps n m p NoSuchBackup (first_of name_of_record collection s.0 s.1 m.layers) _ (λ r e. layer-proper [] (next_extent collection r (last_end_in m collection s) history end) (last_end_in m collection s) clock le time)))

  pub forget-proper : (source : Src) (collection : List ℕ) (start end : Time) → Keeps n m p (forget m source collection start end)
  unfolding forget
  forget-proper source collection start end = source-proper source collection _ (λ s. found-keeps n m p NoSuchLayer (find (is_between_times start end) (layers_in m collection s)) _ (λ r e.
      let q = keeps-same n m p in record { history = q.history; tables = q.tables; clock = q.clock }))
