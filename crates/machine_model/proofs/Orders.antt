-- Whatever the command, the machine after it is in order again.
use Rattle.std.proofs.Common.{◌≡◌, ◌≢◌, inl, inr, ⊎_elim, ℕ, Bool, true, false, not, List, [], ◌∷◌, ◌++◌, map, length, eqb, refl, sym, subst, ◌∙◌, arith, ◌&&◌}
use Rattle.std.specs.Prelude.{Option, Some, None, slice_get, slice_set, unwrap_or}
use Rattle.std.specs.List.{find}
use Rattle.std.proofs.lemmas.Bool.{cases_Bool}
use Rattle.std.proofs.lemmas.Bool.Decides.{nat_tests}
use Rattle.mvcc_keys.specs.Times.{Time, time, next, zero_time, time_le, time_lt}
use Rattle.mvcc_keys.proofs.TimeOrder.{le-refl, le-trans, lt-le, lt-trans, le-lt-lt, not_lt-le, zero-le}
use Rattle.row_codec.proofs.KeyOrder.{both_true}
use Rattle.row_codec.specs.declared.rows.Kind.{Kind}
use Rattle.row_codec.specs.declared.rows.Datum.{Datum}
use Rattle.table_descriptors.specs.declared.changes.Change.{Change}
use Rattle.table_descriptors.specs.declared.changes.Change.TheVariants.{Add, Remove, RenameColumn as Renamed, Rename, Become}
use Rattle.table_descriptors.specs.declared.columns.State.TheVariants.{Dropped, Public}
use Rattle.table_descriptors.specs.Descriptors.{Schema, changed_schema}
use Rattle.table_descriptors.specs.declared.scopes.Scope.TheVariants.{Database, Tables}
use Rattle.list_laws.specs.Members.{Has}
use Rattle.list_laws.proofs.Members.{has-append_cases, map-has}
use Rattle.fact_model.specs.Facts.{Del, DelRange}
use Rattle.history_model.specs.Rows.{Key, RowFact, put_of}
use Rattle.history_model.specs.Histories.{History, Table, Found, named, place_named, schemas_of}
use Rattle.history_model.specs.Layers.{LayerRecord}
use Rattle.schema_catalog.specs.Catalogs.{missing_fault, offline_fault, first_schema, dropped}
use Rattle.introduced_spans.specs.PlanLaws.{ascend_after}
use Rattle.table_rows.specs.declared.faults.RowsFault.{RowsFault}
use Rattle.table_rows.specs.Checks.{rows_fault, keys_fault, range_fault}
use Rattle.reply_texts.specs.declared.refusals.Refusal.{Refusal}
use Rattle.reply_texts.specs.declared.refusals.Refusal.TheVariants.{Future, TickBack, NoSuchBackup, NoSuchLayer, NoSuchTable, NothingToRestore}
use Rattle.reply_texts.specs.declared.answers.Answer.{Answer}
use Rattle.reply_texts.specs.declared.answers.Answer.TheVariants.{ClockSet, RangeDeleted, RowsWritten}
use Rattle.command_lang.specs.declared.command.Command.TheVariants.{Cluster, Tick, CreateDatabase, CreateTable, AddColumn, DropColumn, RenameColumn, RenameTable, DropTable, Upsert, Delete, DeleteRange, Select, Gc, BackupDatabase, BackupTables, BackupLatest, RestoreDatabase, Forget, ShowBackups}
use Rattle.chain_resolver.specs.Best.{Chain, Cover, Uncovered, cover}
use Rattle.id_remap.specs.declared.targets.Target.TheVariants as target
use Rattle.id_remap.specs.Remapping.{new_ids, remapped_schema}
use Rattle.script_grammar.specs.declared.backups.Src.{Src}
use Rattle.script_grammar.specs.declared.backups.Src.TheVariants.{Latest}
use Rattle.layer_objects.specs.Objects.{name_of_record}
use Rattle.layer_book.specs.Subdirectories.{first_of}
use Rattle.machine_model.specs.declared.extents.Extent.{Extent}
use Rattle.machine_model.specs.Machine.{Backup, Job, Restore, Machine, Stepped, answered, catalog_of, first_refusal, refusal_if, unless_refused, with_time, drawing, with_found, for_table}
use Rattle.machine_model.specs.Refusals.{catalog_refusal}
use Rattle.machine_model.specs.Tables.{tick, create_database, create_table, new_table, with_new_table, alter, drop_table, described, with_descriptor}
use Rattle.machine_model.specs.TableRows.{adding, upsert, delete, delete_range, select, select_at, collect, raised, with_threshold, extended}
use Rattle.machine_model.specs.Backups.{ending, layer_record, backup, end_refusal, plan_refusal, full_extent, last_full, last_end_in, next_extent, with_backup, absent_refusal, backup_database, ids_named, backup_latest, backup_tables, show_backups, source_among, own_subdirectories, layers_in, with_source, is_between_times, forgetting, forget}
use Rattle.machine_model.specs.Restores.{links_of, time_of, layers_at, with_cover, last_of, chosen_tables, restored_table, restore_chosen, restore_chain, restore_database, with_restored}
use Rattle.machine_model.specs.Step.{step}
use Rattle.machine_model.specs.Orders.{AreBackupsUpTo, AreTablesUpTo, IsInOrder, IsLayerUpTo, IsTableUpTo, StepsKeepOrder}
use Rattle.machine_model.proofs.Passing.{first-passed, floor-within, others-passed}
use Rattle.machine_model.proofs.Lists.{got-set, got-set_other, got-either}
use Rattle.machine_model.proofs.Past.{changed-modified, named-there, new-modified, next-later, restored-modified}

-- ---- descriptors

pub and-true : (a : Bool) → a ≡ true → (a && true) ≡ true
and-true true e = refl
and-true false e = cc e

pub not-none : {X : Type 0} (xs : List X) (x : X) → xs ++ x ∷ [] ≡ [] → ⊥
not-none [] x e = cc e
not-none (y ∷ ys) x e = cc e

-- one more descriptor, after a time that none is after
pub ascend-more : (first last : Time) (ds : List Schema) (e : Schema) → time_le first last ≡ true → ascend_after first ds ≡ true → ((d : Schema) → Has d ds → time_le d.modified last ≡ true) → time_lt last e.modified ≡ true → ascend_after first (ds ++ e ∷ []) ≡ true
ascend-more first last [] e le all dated after = and-true (time_lt first e.modified) (le-lt-lt first last e.modified le after)
ascend-more first last (d ∷ ds) e le all dated after =
    let p = both_true (time_lt first d.modified) (ascend_after d.modified ds) all in
    rw p.0 (ascend-more d.modified last ds e (dated d (inl refl)) p.1 (λ x has. dated x (inr has)) after)

-- ---- tables

table-later : (s t : Time) (table : Table) → time_le s t ≡ true → IsTableUpTo s table → IsTableUpTo t table
table-later s t table le is = record { begun = is.begun; dated = λ d has. le-trans d.modified s t (is.dated d has) le }

tables-later : (s t : Time) (tables : List Table) → time_le s t ≡ true → AreTablesUpTo s tables → AreTablesUpTo t tables
tables-later s t tables le all i table got = table-later s t table le (all i table got)

tables-set : (t : Time) (tables : List Table) (i : ℕ) (old new : Table) → slice_get tables i ≡ Some old → AreTablesUpTo t tables → IsTableUpTo t new → AreTablesUpTo t (slice_set tables i new)
tables-set t tables i old new got all is j table there = elim (cases_Bool (eqb j i)) [
  | inl e ↦ (let same : j ≡ i = grind (arith, nat_tests) in
      let at : Some new ≡ Some table = sym (got-set tables i old new got) ∙ subst (λ (k : ℕ). slice_get (slice_set tables i new) k ≡ Some table) same there in
      let is-new : new ≡ table = cc at in subst (IsTableUpTo t) is-new is)
  | inr e ↦ (let other : j ≢ i = grind (arith, nat_tests) in all j table (sym (got-set_other tables i j new other) ∙ there))
]

tables-more : (t : Time) (tables others : List Table) → AreTablesUpTo t tables → ((table : Table) → Has table others → IsTableUpTo t table) → AreTablesUpTo t (tables ++ others)
tables-more t tables others all more i table got = ⊎_elim (λ (there : slice_get tables i ≡ Some table). all i table there) (λ (here : Has table others). more table here) (got-either tables others i table got)

-- a table of one descriptor, which is dated after a time
table-first : (c t : Time) (d : Schema) (table : Table) → table.descriptors ≡ d ∷ [] → d.modified ≡ t → time_lt c t ≡ true → IsTableUpTo t table
table-first c t d table is dated after = record {
  begun = record {
    some = λ none. let no : d ∷ [] ≡ [] = sym is ∙ none in cc no;
    ascend = subst (λ (ds : List Schema). ascend_after zero_time ds ≡ true) (sym is) (and-true (time_lt zero_time d.modified) (subst (λ (x : Time). time_lt zero_time x ≡ true) (sym dated) (le-lt-lt zero_time c t (zero-le c) after)));
  };
  dated = λ e has. ⊎_elim
      (λ (same : e ≡ d). subst (λ (x : Schema). time_le x.modified t ≡ true) (sym same) (subst (λ (x : Time). time_le x t ≡ true) (sym dated) (le-refl t)))
      (λ no. absurd no)
      (subst (Has e) is has);
}

-- a table with a further descriptor, which is dated after a time
table-described : (c t : Time) (table new : Table) (d : Schema) → new.descriptors ≡ table.descriptors ++ d ∷ [] → d.modified ≡ t → time_lt c t ≡ true → IsTableUpTo c table → IsTableUpTo t new
table-described c t table new d is dated after old = record {
  begun = record {
    some = λ none. not-none table.descriptors d (sym is ∙ none);
    ascend = subst (λ (ds : List Schema). ascend_after zero_time ds ≡ true) (sym is)
        (ascend-more zero_time c table.descriptors d (zero-le c) old.begun.ascend old.dated (subst (λ (x : Time). time_lt c x ≡ true) (sym dated) after));
  };
  dated = λ e has. ⊎_elim
      (λ (before : Has e table.descriptors). le-trans e.modified c t (old.dated e before) (lt-le c t after))
      (λ (here : Has e (d ∷ [])). ⊎_elim
      (λ (same : e ≡ d). subst (λ (x : Schema). time_le x.modified t ≡ true) (sym same) (subst (λ (x : Time). time_le x t ≡ true) (sym dated) (le-refl t)))
      (λ no. absurd no)
      here)
      (has-append_cases e table.descriptors (d ∷ []) (subst (Has e) is has));
}

-- ---- jobs

backups-later : (s t : Time) (jobs : List Job) → time_le s t ≡ true → AreBackupsUpTo s jobs → AreBackupsUpTo t jobs
backups-later s t jobs le all place r got = let is = all place r got in record { floor = is.floor; over = le-trans r.end s t is.over le }

backups-more : (t : Time) (jobs : List Job) (job : Job) → AreBackupsUpTo t jobs → ((r : LayerRecord) → job ≡ Backup r → IsLayerUpTo t r) → AreBackupsUpTo t (jobs ++ job ∷ [])
backups-more t jobs job all more place r got = ⊎_elim
    (λ (there : slice_get jobs place ≡ Some (Backup r)). all place r there)
    (λ (here : Has (Backup r) (job ∷ [])). ⊎_elim (λ (same : Backup r ≡ job). more r (sym same)) (λ no. absurd no) here)
    (got-either jobs (job ∷ []) place (Backup r) got)

-- ---- machines

order-later : (m : Machine) (t : Time) → time_le m.clock t ≡ true → IsInOrder m → IsInOrder (record m { clock = t })
order-later m t le o = record { tables = tables-later m.clock t m.history.tables le o.tables; backups = backups-later m.clock t m.jobs le o.backups }

-- another history, with tables that are described up to the clock
order-history : (m : Machine) (history : History) → AreTablesUpTo m.clock history.tables → IsInOrder m → IsInOrder (record m { history = history })
order-history m history tables o = record { tables = tables; backups = o.backups }

-- another table at a place
order-set : (m : Machine) (t : Time) (place : ℕ) (old new : Table) → time_le m.clock t ≡ true → slice_get m.history.tables place ≡ Some old → IsTableUpTo t new → IsInOrder m
    → IsInOrder (record m { clock = t; history = record m.history { tables = slice_set m.history.tables place new } })
order-set m t place old new le got is o = record {
  tables = tables-set t m.history.tables place old new got (tables-later m.clock t m.history.tables le o.tables) is;
  backups = backups-later m.clock t m.jobs le o.backups;
}

order-new : (m : Machine) (t : Time) (d : Schema) → d.modified ≡ t → time_lt m.clock t ≡ true → IsInOrder m → IsInOrder (with_new_table m d)
order-new m t d dated after o = subst (λ (x : Time). IsInOrder (record m { clock = x; history = record m.history { tables = m.history.tables ++ new_table d ∷ [] } })) (sym dated) (record {
  tables = tables-more t m.history.tables (new_table d ∷ []) (tables-later m.clock t m.history.tables (lt-le m.clock t after) o.tables)
      (λ table has. ⊎_elim (λ (same : table ≡ new_table d). subst (IsTableUpTo t) (sym same) (table-first m.clock t d (new_table d) refl dated after)) (λ no. absurd no) has);
  backups = backups-later m.clock t m.jobs (lt-le m.clock t after) o.backups;
})

order-described : (m : Machine) (f : Found) (d : Schema) (t : Time) → slice_get m.history.tables f.place ≡ Some f.table → d.modified ≡ t → time_lt m.clock t ≡ true → IsInOrder m → IsInOrder (with_descriptor m f d)
order-described m f d t got dated after o = subst (λ (x : Time). IsInOrder (record m { clock = x; history = record m.history { tables = slice_set m.history.tables f.place (described f.table d) } })) (sym dated)
    (order-set m t f.place f.table (described f.table d) (lt-le m.clock t after) got (table-described m.clock t f.table (described f.table d) d refl dated after (o.tables f.place f.table got)) o)

-- a backup more
order-backup : (m : Machine) (t : Time) (r : LayerRecord) → time_le m.clock t ≡ true → time_le r.floor r.end ≡ true → time_le r.end t ≡ true → IsInOrder m → IsInOrder (with_backup m t r)
order-backup m t r le floor over o = record {
  tables = tables-later m.clock t m.history.tables le o.tables;
  backups = backups-more t m.jobs (Backup r) (backups-later m.clock t m.jobs le o.backups) (λ q same. let is : r ≡ q = cc same in subst (IsLayerUpTo t) is (record { floor = floor; over = over }));
}

-- fewer own layers
order-layers : (m : Machine) (layers : List LayerRecord) → IsInOrder m → IsInOrder (record m { layers = layers })
order-layers m layers o = record { tables = o.tables; backups = o.backups }

-- a restore more, with tables that are described up to its time
order-restore : (m : Machine) (database : List ℕ) (tables : List Table) (t : Time) → time_le m.clock t ≡ true → ((table : Table) → Has table tables → IsTableUpTo t table) → IsInOrder m → IsInOrder (with_restored m database tables t)
order-restore m database tables t le more o = record {
  tables = tables-more t m.history.tables tables (tables-later m.clock t m.history.tables le o.tables) more;
  backups = backups-more t m.jobs Restore (backups-later m.clock t m.jobs le o.backups) (λ r same. absurd (let no : Restore ≡ Backup r = same in cc no));
}

-- ---- tests, drawn times, tables by name

unless-order : (m : Machine) (o : Option Refusal) (change : Stepped) → IsInOrder m → IsInOrder change.machine → IsInOrder (unless_refused m o change).machine
unless-order m None change same is = is
unless-order m (Some r) change same is = same

timed-order : (m : Machine) (o : Option Time) (change : Time → Stepped) → IsInOrder m → ((t : Time) → o ≡ Some t → IsInOrder (change t).machine) → IsInOrder (with_time m o change).machine
timed-order m None change same is = same
timed-order m (Some t) change same is = is t refl

drawing-order : (m : Machine) (change : Time → Stepped) → IsInOrder m → ((t : Time) → time_lt m.clock t ≡ true → IsInOrder (change t).machine) → IsInOrder (drawing m change).machine
drawing-order m change same is = timed-order m (next m.clock) change same (λ t e. is t (next-later m.clock t e))

found-order : (m : Machine) (refusal : Refusal) {X : Type 0} (o : Option X) (change : X → Stepped) → IsInOrder m → ((x : X) → o ≡ Some x → IsInOrder (change x).machine) → IsInOrder (with_found m refusal o change).machine
found-order m refusal None change same is = same
found-order m refusal (Some x) change same is = is x refl

table-order : (m : Machine) (name : List ℕ × List ℕ) (t : Time) (change : Found → Stepped) → IsInOrder m → ((f : Found) → slice_get m.history.tables f.place ≡ Some f.table → IsInOrder (change f).machine) → IsInOrder (for_table m name t change).machine
table-order m name t change same is = found-order m (NoSuchTable name) (named m.history.tables name t) change same (λ f e. is f (named-there m.history.tables t (place_named (schemas_of m.history.tables) name t) f e))

-- ---- each command

module _ (m : Machine) (o : IsInOrder m) where
  tick-order : (wall : ℕ) → IsInOrder (tick m wall).machine
  unfolding tick
  tick-order wall = by (time_lt m.clock (time wall 0)) refl
    where
      by : (b : Bool) → time_lt m.clock (time wall 0) ≡ b → IsInOrder (unless_refused m (first_refusal (refusal_if (not b) (TickBack m.clock) ∷ [])) (answered (record m { clock = time wall 0 }) (ClockSet (time wall 0)))).machine
      by true is = order-later m (time wall 0) (lt-le m.clock (time wall 0) is) o
      by false is = o

  database-order : (name : List ℕ) → IsInOrder (create_database m name).machine
  unfolding create_database
  database-order name = unless-order m _ _ o (order-history m (record m.history { databases = m.history.databases ++ name ∷ [] }) o.tables o)

  create-order : (name : List ℕ × List ℕ) (columns : List (List ℕ × Kind)) (key : List (List ℕ × Bool)) (references : List (List ℕ × List ℕ)) → IsInOrder (create_table m name columns key references).machine
  unfolding create_table
  create-order name columns key references = drawing-order m _ o (λ t after.
      unless-order m _ _ o (order-new m t (first_schema (catalog_of m) t name columns key references) (new-modified _ _ _ columns key _ t) after o))

  alter-order : (name : List ℕ × List ℕ) (change : Change) → IsInOrder (alter m name change).machine
  unfolding alter
  alter-order name change = drawing-order m _ o (λ t after. table-order m name t _ o (λ f got.
      unless-order m _ _ o (order-described m f (changed_schema f.schema change t) t got (changed-modified f.schema change t) after o)))

  drop-order : (name : List ℕ × List ℕ) → IsInOrder (drop_table m name).machine
  unfolding drop_table
  drop-order name = drawing-order m _ o (λ t after. table-order m name t _ o (λ f got.
      unless-order m _ _ o (order-described m f (dropped f.schema t) t got (changed-modified f.schema (Become Dropped) t) after o)))

  adding-order : (name : List ℕ × List ℕ) (fault : Schema → Option RowsFault) (facts : Schema → Time → List RowFact) (answer : Time → Answer) → IsInOrder (adding m name fault facts answer).machine
  adding-order name fault facts answer = drawing-order m _ o (λ t after. table-order m name t _ o (λ f got.
      let old = table-later m.clock t f.table (lt-le m.clock t after) (o.tables f.place f.table got) in
      unless-order m _ _ o (order-set m t f.place f.table (extended f.table (facts f.schema t)) (lt-le m.clock t after) got
      (record { begun = record { some = old.begun.some; ascend = old.begun.ascend }; dated = old.dated }) o)))

  upsert-order : (name : List ℕ × List ℕ) (rows : List (List Datum)) → IsInOrder (upsert m name rows).machine
  unfolding upsert
  upsert-order name rows = adding-order name (λ d. rows_fault d rows) (λ d t. map (put_of d t) rows) (λ t. RowsWritten (length rows) t)

  delete-order : (name : List ℕ × List ℕ) (keys : List Key) → IsInOrder (delete m name keys).machine
  unfolding delete
  delete-order name keys = adding-order name (λ d. keys_fault d keys) (λ d t. map (λ k. Del k t) keys) (λ t. RowsWritten (length keys) t)

  range-order : (name : List ℕ × List ℕ) (lo hi : Key) → IsInOrder (delete_range m name lo hi).machine
  unfolding delete_range
  range-order name lo hi = adding-order name (λ d. range_fault d lo hi) (λ d t. DelRange lo hi t ∷ []) RangeDeleted

  select_at-order : (name : List ℕ × List ℕ) (t : Time) → IsInOrder (select_at m name t).machine
  select_at-order name t = unless-order m _ _ o (table-order m name t _ o (λ f got. unless-order m _ _ o (o)))

  select-order : (name : List ℕ × List ℕ) (at : Option Time) → IsInOrder (select m name at).machine
  unfolding select
  select-order name at = select_at-order name (unwrap_or at m.clock)

  collect-order : (name : List ℕ × List ℕ) (g : Time) → IsInOrder (collect m name g).machine
  unfolding collect
  collect-order name g = table-order m name m.clock _ o (λ f got.
      let old = o.tables f.place f.table got in
      let t = raised f.table.threshold g in
      unless-order m _ _ o (order-history m (with_threshold m f t).history (tables-set m.clock m.history.tables f.place f.table (record f.table { threshold = t }) got o.tables
      (record { begun = record { some = old.begun.some; ascend = old.begun.ascend }; dated = old.dated })) o))

  passed-order : (test : Option Refusal) (change : Stepped) → (test ≡ None → IsInOrder change.machine) → IsInOrder (unless_refused m test change).machine
  passed-order None change is = is refl
  passed-order (Some refusal) change is = o

  layer-order : (tests : List (Option Refusal)) (x : Extent) (last clock : Time) → time_le x.start last ≡ true → time_le m.clock clock ≡ true → time_le x.end clock ≡ true → IsInOrder (backup m tests x last clock).machine
  layer-order tests x last clock from le over = passed-order _ _ (λ passed.
      let both = first-passed (end_refusal x.end last) (plan_refusal m x ∷ []) (others-passed tests _ passed) in
      order-backup m clock (layer_record m x) le (floor-within m x last from both.0 (first-passed (plan_refusal m x) [] both.1).0) over o)

  ending-order : (at : Option Time) (change : Time → Time → Stepped) → ((end clock : Time) → time_le m.clock clock ≡ true → time_le end clock ≡ true → IsInOrder (change end clock).machine) → IsInOrder (ending m at change).machine
  ending-order None change is = drawing-order m (λ t. change t t) o (λ t after. is t t (lt-le m.clock t after) (le-refl t))
  ending-order (Some t) change is = by (time_lt m.clock t) refl
    where
      by : (b : Bool) → time_lt m.clock t ≡ b → IsInOrder (unless_refused m (first_refusal (refusal_if b (Future m.clock) ∷ [])) (change t m.clock)).machine
      by true after = o
      by false after = is t m.clock (le-refl m.clock) (not_lt-le m.clock t after)

  backup-order : (database collection : List ℕ) (at : Option Time) (history : Bool) → IsInOrder (backup_database m database collection at history).machine
  unfolding backup_database
  backup-order database collection at history = ending-order at _ (λ end clock. layer-order (absent_refusal (catalog_of m) database ∷ []) (full_extent collection (Database database) history end) (last_full m collection) clock (zero-le (last_full m collection)))

  tables-order : (names : List (List ℕ × List ℕ)) (collection : List ℕ) (at : Option Time) (history : Bool) → IsInOrder (backup_tables m names collection at history).machine
  unfolding backup_tables
  tables-order names collection at history = ending-order at _ (λ end clock. layer-order (catalog_refusal (missing_fault (catalog_of m) end names) ∷ catalog_refusal (offline_fault (catalog_of m) end names) ∷ [])
      (full_extent collection (Tables (ids_named (schemas_of m.history.tables) names end)) history end) (last_full m collection) clock (zero-le (last_full m collection)))

  source-order : (source : Src) (collection : List ℕ) (change : List ℕ × Time → Stepped) → ((s : List ℕ × Time) → IsInOrder (change s).machine) → IsInOrder (with_source m source collection change).machine
  source-order source collection change is = found-order m NoSuchBackup (source_among source (own_subdirectories m collection)) change o (λ s e. is s)

  latest-order : (collection : List ℕ) (at : Option Time) (history : Bool) → IsInOrder (backup_latest m collection at history).machine
  unfolding backup_latest
  latest-order collection at history = ending-order at _ (λ end clock le over. source-order Latest collection _ (λ s.
      found-order m NoSuchBackup (first_of name_of_record collection s.0 s.1 m.layers) _ o (λ r e. layer-order [] (next_extent collection r (last_end_in m collection s) history end) (last_end_in m collection s) clock (le-refl (last_end_in m collection s)) le over)))

  forget-order : (source : Src) (collection : List ℕ) (start end : Time) → IsInOrder (forget m source collection start end).machine
  unfolding forget
  forget-order source collection start end = source-order source collection _ (λ s. found-order m NoSuchLayer (find (is_between_times start end) (layers_in m collection s)) _ o (λ r e. order-layers m (forgetting m r).layers o))

  chosen-order : (database : List ℕ) (t at published : Time) (rs : List LayerRecord) (chosen : List Schema) → time_lt m.clock at ≡ true → time_lt at published ≡ true → IsInOrder (restore_chosen m database t at published rs chosen).machine
  chosen-order database t at published rs chosen first then =
      let second : time_lt m.clock published ≡ true = lt-trans m.clock at published first then in
      let make = restored_table m.history.tables (new_ids (catalog_of m) chosen) (target.Database database) t at published in
      unless-order m _ _ o (order-restore m database (map make chosen) published (lt-le m.clock published second)
      (λ table has. let p = map-has make table chosen has in
      let e = remapped_schema (new_ids (catalog_of m) chosen) (target.Database database) at p.0 in
      let once : Table = record { id = e.id; facts = (make p.0).facts; descriptors = e ∷ []; threshold = zero_time } in
      subst (IsTableUpTo published) (sym p.2)
      (table-described at published once (make p.0) (changed_schema e (Become Public) published) refl (changed-modified e (Become Public) published) then
      (table-first m.clock at e once refl (restored-modified p.0 _ _ _ at) first))) o)

  cover-order : (rs : List LayerRecord) (c : Cover) (change : List LayerRecord → Stepped) → ((xs : List LayerRecord) → IsInOrder (change xs).machine) → IsInOrder (with_cover m rs c change).machine
  cover-order rs (Chain places) change is = is (layers_at rs places)
  cover-order rs (Uncovered fault) change is = o

  restore-order : (database : List ℕ) (source : Src) (collection : List ℕ) (at : Option Time) (new : Option (List ℕ)) → IsInOrder (restore_database m database source collection at new).machine
  unfolding restore_database
  restore-order database source collection at new = drawing-order m _ o (λ made first. timed-order m (next made) _ o (λ published is. source-order source collection _ (λ s.
      let rs = layers_in m collection s in
      let t = time_of rs at in
      cover-order rs (cover (links_of rs) t) (restore_chain m database (unwrap_or new database) t made published) (λ xs.
      found-order m NothingToRestore (last_of xs) _ o (λ r e. chosen-order (unwrap_or new database) t made published xs (chosen_tables m.history.tables database t r) first (next-later made published is))))))

pub steps-order : StepsKeepOrder
unfolding step show_backups
steps-order worlds m (Cluster name) o = o
steps-order worlds m (Tick wall) o = tick-order m o wall
steps-order worlds m (CreateDatabase name) o = database-order m o name
steps-order worlds m (CreateTable table columns key references) o = create-order m o table columns key references
steps-order worlds m (AddColumn table name kind) o = alter-order m o table (Add name kind)
steps-order worlds m (DropColumn table name) o = alter-order m o table (Remove name)
steps-order worlds m (RenameColumn table name to) o = alter-order m o table (Renamed name to)
steps-order worlds m (RenameTable table to) o = alter-order m o table (Rename to)
steps-order worlds m (DropTable table) o = drop-order m o table
steps-order worlds m (Upsert table rows) o = upsert-order m o table rows
steps-order worlds m (Delete table keys) o = delete-order m o table keys
steps-order worlds m (DeleteRange table lo hi) o = range-order m o table lo hi
steps-order worlds m (Select table at) o = select-order m o table at
steps-order worlds m (Gc table before) o = collect-order m o table before
steps-order worlds m (BackupDatabase database collection at history) o = backup-order m o database collection at history
steps-order worlds m (BackupTables tables collection at history) o = tables-order m o tables collection at history
steps-order worlds m (BackupLatest collection at history) o = latest-order m o collection at history
steps-order worlds m (RestoreDatabase database source collection at new) o = restore-order m o database source collection at new
steps-order worlds m (Forget source collection start end) o = forget-order m o source collection start end
steps-order worlds m (ShowBackups collection) o = o
