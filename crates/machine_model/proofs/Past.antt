-- No command changes what was true up to the clock.
use Rattle.std.proofs.Common.{◌≡◌, ◌≢◌, ◌+◌, nat_lt, inl, inr, ⊎_elim, ℕ, ◌<◌, length, Bool, true, false, not, List, [], ◌∷◌, ◌++◌, map, eqb, refl, sym, ap, subst, ◌∙◌, arith}
use Rattle.std.specs.Prelude.{Option, Some, None, option_map, option_and_then, unwrap_or, slice_get, slice_set}
use Rattle.std.specs.List.{find}
use Rattle.std.proofs.lemmas.Bool.{cases_Bool}
use Rattle.std.proofs.lemmas.Bool.Decides.{nat_tests}
use Rattle.std.proofs.lemmas.List.{append-nil, length-append}
use Rattle.mvcc_keys.specs.Times.{Time, time, next, time_le, time_lt}
use Rattle.row_codec.specs.declared.rows.Kind.{Kind}
use Rattle.row_codec.specs.declared.rows.Datum.{Datum}
use Rattle.table_descriptors.specs.declared.changes.Change.{Change}
use Rattle.table_descriptors.specs.declared.changes.Change.TheVariants.{Add, Remove, RenameColumn as Renamed, Rename, Become}
use Rattle.table_descriptors.specs.declared.columns.State.TheVariants.{Dropped, Public}
use Rattle.table_descriptors.specs.Descriptors.{Schema, new_schema, changed_schema}
use Rattle.table_descriptors.specs.Restoring.{restored_schema}
use Rattle.table_descriptors.specs.declared.scopes.Scope.TheVariants.{Database, Tables}
use Rattle.fact_model.specs.Facts.{Del, DelRange, date}
use Rattle.list_laws.specs.Members.{Has}
use Rattle.list_laws.proofs.Members.{filter-has, has-append_cases, map-has}
use Rattle.mvcc_keys.proofs.TimeOrder.{le-refl, le-trans, lt-le, lt-trans}
use Rattle.history_model.specs.Rows.{Key, RowFact, put_of}
use Rattle.history_model.specs.Histories.{History, Table, Found, found_at, in_force, named, place_named, schemas_of}
use Rattle.history_model.specs.Layers.{LayerRecord}
use Rattle.schema_catalog.specs.Catalogs.{missing_fault, offline_fault, first_schema, dropped}
use Rattle.table_rows.specs.declared.faults.RowsFault.{RowsFault}
use Rattle.table_rows.specs.Checks.{range_fault}
use Rattle.reply_texts.specs.declared.refusals.Refusal.{Refusal}
use Rattle.reply_texts.specs.declared.refusals.Refusal.TheVariants.{TickBack, NoSuchBackup, NoSuchLayer, NoSuchTable, NothingToRestore}
use Rattle.reply_texts.specs.declared.answers.Answer.{Answer}
use Rattle.reply_texts.specs.declared.answers.Answer.TheVariants.{ClockSet, RangeDeleted}
use Rattle.command_lang.specs.declared.command.Command.TheVariants.{Cluster, Tick, CreateDatabase, CreateTable, AddColumn, DropColumn, RenameColumn, RenameTable, DropTable, Upsert, Delete, DeleteRange, Select, Gc, BackupDatabase, BackupTables, BackupLatest, RestoreDatabase, Forget, ShowBackups}
use Rattle.layer_book.specs.Subdirectories.{first_of}
use Rattle.machine_model.specs.declared.extents.Extent.{Extent}
use Rattle.machine_model.specs.Machine.{Backup, Restore, Machine, Stepped, answered, catalog_of, first_refusal, refusal_if, unless_refused, with_time, drawing, with_found, for_table}
use Rattle.machine_model.specs.Tables.{tick, create_database, create_table, new_table, with_new_table, alter, drop_table, described, with_descriptor}
use Rattle.machine_model.specs.TableRows.{adding, upsert, delete, delete_range, select, select_at, collect, raised, with_threshold, extended, with_facts}
use Rattle.machine_model.specs.Backups.{ending, layer_record, backup, full_extent, last_full, last_end_in, next_extent, absent_refusal, backup_database, ids_named, backup_latest, backup_tables, show_backups, source_among, own_subdirectories, layers_in, with_source, is_between_times, forgetting, forget}
use Rattle.machine_model.specs.Restores.{links_of, time_of, layers_at, with_cover, last_of, chosen_tables, restored_table, restore_chosen, restore_chain, restore_database}
use Rattle.machine_model.specs.Step.{step}
use Rattle.machine_model.specs.Refusals.{catalog_refusal}
use Rattle.chain_resolver.specs.Best.{Chain, Cover, Uncovered, cover}
use Rattle.id_remap.specs.declared.targets.Target.{Target}
use Rattle.id_remap.specs.declared.targets.Target.TheVariants as target
use Rattle.id_remap.specs.Remapping.{new_ids, remapped_schema}
use Rattle.script_grammar.specs.declared.backups.Src.{Src}
use Rattle.script_grammar.specs.declared.backups.Src.TheVariants.{Latest}
use Rattle.layer_objects.specs.Objects.{name_of_record}
use Rattle.introduced_spans.proofs.Untold.{later-untold}
use Rattle.layer_objects.specs.Past.{IsLonger, KeepsPast}
use Rattle.layer_objects.proofs.Final.{past-then}
use Rattle.layer_book.specs.Books.{same_name}
use Rattle.machine_model.specs.Past.{IsLater, StepsAreLater}
use Rattle.machine_model.proofs.Lists.{got-set, got-set_other, got-left, got-either}
use Rattle.list_laws.proofs.Places.{append-then}

-- ---- time that passes

pub next-later : (s t : Time) → next s ≡ Some t → time_lt s t ≡ true
next-later s t e = by (nat_lt s.logical 2147483647) refl
  where
    by : (b : Bool) → nat_lt s.logical 2147483647 ≡ b → time_lt s t ≡ true
    by true l = let is : Some (record { wall = s.wall; logical = s.logical + 1 }) ≡ Some t = rw l at e in
        (let same : record { wall = s.wall; logical = s.logical + 1 } ≡ t = cc is in subst (λ (x : Time). time_lt s x ≡ true) same (grind (arith, nat_tests)))
    by false l = let is : None ≡ Some t = rw l at e in cc is

-- ---- tables

-- whatever the threshold
pub longer-same : (t : Time) (table : Table) (threshold : Time) → IsLonger t table (record table { threshold = threshold })
longer-same t table threshold = record {
  id_is = refl;
  facts = [];
  facts_are = sym (append-nil table.facts);
  untold = λ f no. absurd no;
  schemas = [];
  schemas_are = sym (append-nil table.descriptors);
  schemas_after = λ d no. absurd no;
}

past-same : (t : Time) (tables : List Table) → KeepsPast t tables tables
past-same t tables = record {
  kept = λ i table got. (table, got, longer-same t table table.threshold);
  added = λ i table none got. absurd (let no : None ≡ Some table = sym none ∙ got in cc);
}

-- a table at a place is longer
past-set : (t : Time) (tables : List Table) (i : ℕ) (old new : Table) → slice_get tables i ≡ Some old → IsLonger t old new → KeepsPast t tables (slice_set tables i new)
past-set t tables i old new got longer = record {
  kept = λ j table there. elim (cases_Bool (eqb j i)) [
    | inl is ↦ (let same : j ≡ i = grind (arith, nat_tests) in (new, rw same (got-set tables i old new got), subst (λ (x : Table). IsLonger t x new) (let e : Some old ≡ Some table = sym got ∙ subst (λ (k : ℕ). slice_get tables k ≡ Some table) same there in cc) longer))
    | inr is ↦ (let other : j ≢ i = grind (arith, nat_tests) in (table, got-set_other tables i j new other ∙ there, longer-same t table table.threshold))
  ];
  added = λ j table none there. elim (cases_Bool (eqb j i)) [
    | inl is ↦ (let same : j ≡ i = grind (arith, nat_tests) in absurd (let no : None ≡ Some old = sym none ∙ subst (λ (k : ℕ). slice_get tables k ≡ Some old) (sym same) got in cc))
    | inr is ↦ (let other : j ≢ i = grind (arith, nat_tests) in absurd (let no : None ≡ Some table = sym none ∙ sym (got-set_other tables i j new other) ∙ there in cc))
  ];
}

-- more tables, which begin after t
pub past-more : (t : Time) (tables others : List Table) → ((table : Table) → Has table others → (d : Schema) → Has d table.descriptors → time_lt t d.modified ≡ true) → KeepsPast t tables (tables ++ others)
past-more t tables others begin = record {
  kept = λ i table got. (table, got-left tables others i table got, longer-same t table table.threshold);
  added = λ i table none got. ⊎_elim
      (λ there. absurd (let no : None ≡ Some table = sym none ∙ there in cc))
      (λ here. begin table here)
      (got-either tables others i table got);
}

-- ---- twice later

pub later-then : (a b c : Machine) → IsLater a b → IsLater b c → IsLater a c
later-then a b c p q = record {
  name = q.name ∙ p.name;
  limits = q.limits ∙ p.limits;
  clock = le-trans a.clock b.clock c.clock p.clock q.clock;
  tables = past-then a.clock b.clock a.history.tables b.history.tables c.history.tables p.clock p.tables q.tables;
  more = p.more ++ q.more;
  jobs = append-then a.jobs b.jobs c.jobs p.more q.more p.jobs q.jobs;
  layers = λ r has. ⊎_elim (p.layers r) (λ (after : length b.jobs < r.job). inr (let n = ap length p.jobs ∙ length-append a.jobs p.more in omega (arith, n, after))) (q.layers r has);
}

-- ---- tests, drawn times, tables by name

-- no job more
later-fewer : (m : Machine) (clock : Time) (history : History) (layers : List LayerRecord) → ((r : LayerRecord) → Has r layers → Has r m.layers) → time_le m.clock clock ≡ true → KeepsPast m.clock m.history.tables history.tables
    → IsLater m (record m { clock = clock; history = history; layers = layers })
later-fewer m clock history layers among le keeps = record { name = refl; limits = refl; clock = le; tables = keeps; more = []; jobs = sym (append-nil m.jobs); layers = λ r has. inl (among r has) }

later-as : (m : Machine) (clock : Time) (history : History) → time_le m.clock clock ≡ true → KeepsPast m.clock m.history.tables history.tables → IsLater m (record m { clock = clock; history = history; layers = m.layers })
later-as m clock history = later-fewer m clock history m.layers (λ r has. has)

-- fewer layers
later-layers : (m : Machine) (layers : List LayerRecord) → ((r : LayerRecord) → Has r layers → Has r m.layers) → IsLater m (record m { layers = layers })
later-layers m layers among = later-fewer m m.clock m.history layers among (le-refl m.clock) (past-same m.clock m.history.tables)

pub later-same : (m : Machine) → IsLater m m
later-same m = later-layers m m.layers (λ r has. has)

unless-later : (m : Machine) (r : Option Refusal) (change : Stepped) → IsLater m change.machine → IsLater m (unless_refused m r change).machine
unless-later m None change later = later
unless-later m (Some r) change later = later-same m

timed-later : (m : Machine) (o : Option Time) (change : Time → Stepped) → ((t : Time) → o ≡ Some t → IsLater m (change t).machine) → IsLater m (with_time m o change).machine
timed-later m None change later = later-same m
timed-later m (Some t) change later = later t refl

drawing-later : (m : Machine) (change : Time → Stepped) → ((t : Time) → time_lt m.clock t ≡ true → IsLater m (change t).machine) → IsLater m (drawing m change).machine
drawing-later m change later = timed-later m (next m.clock) change (λ t is. later t (next-later m.clock t is))

found-later : (m : Machine) (refusal : Refusal) {X : Type 0} (o : Option X) (change : X → Stepped) → ((x : X) → o ≡ Some x → IsLater m (change x).machine) → IsLater m (with_found m refusal o change).machine
found-later m refusal None change later = later-same m
found-later m refusal (Some x) change later = later x refl

in-table : (i : ℕ) (t : Time) (table : Table) (r : Option Schema) (f : Found) → option_map (λ (d : Schema). record { place = i; table = table; schema = d }) r ≡ Some f → (f.place ≡ i) × (f.table ≡ table)
in-table i t table None f e = absurd cc
in-table i t table (Some d) f e = let same : record { place = i; table = table; schema = d } ≡ f = cc in (ap (λ (x : Found). x.place) (sym same), ap (λ (x : Found). x.table) (sym same))

in-tables : (tables : List Table) (i : ℕ) (t : Time) (r : Option Table) (f : Found) → slice_get tables i ≡ r → option_and_then (found_at i t) r ≡ Some f → slice_get tables f.place ≡ Some f.table
in-tables tables i t None f got e = absurd cc
in-tables tables i t (Some table) f got e =
    let is = in-table i t table (in_force table.descriptors t) f e in
    subst (λ (k : ℕ). slice_get tables k ≡ Some f.table) (sym is.0) (got ∙ ap Some (sym is.1))

pub named-there : (tables : List Table) (t : Time) (o : Option ℕ) (f : Found) → option_and_then (λ i. option_and_then (found_at i t) (slice_get tables i)) o ≡ Some f → slice_get tables f.place ≡ Some f.table
named-there tables t None f e = absurd cc
named-there tables t (Some i) f e = in-tables tables i t (slice_get tables i) f refl e

table-later : (m : Machine) (name : List ℕ × List ℕ) (t : Time) (change : Found → Stepped) → ((f : Found) → slice_get m.history.tables f.place ≡ Some f.table → IsLater m (change f).machine) → IsLater m (for_table m name t change).machine
table-later m name t change later = found-later m (NoSuchTable name) (named m.history.tables name t) change (λ f is. later f (named-there m.history.tables t (place_named (schemas_of m.history.tables) name t) f is))

-- ---- each command

tick-later : (m : Machine) (wall : ℕ) → IsLater m (tick m wall).machine
unfolding tick
tick-later m wall = by (time_lt m.clock (time wall 0)) refl
  where
    by : (b : Bool) → time_lt m.clock (time wall 0) ≡ b → IsLater m (unless_refused m (first_refusal (refusal_if (not b) (TickBack m.clock) ∷ [])) (answered (record m { clock = time wall 0 }) (ClockSet (time wall 0)))).machine
    by true is = later-as m (time wall 0) m.history (lt-le m.clock (time wall 0) is) (past-same m.clock m.history.tables)
    by false is = later-same m

database-later : (m : Machine) (name : List ℕ) → IsLater m (create_database m name).machine
unfolding create_database
database-later m name = unless-later m _ _ (later-as m m.clock (record m.history { databases = m.history.databases ++ name ∷ [] }) (le-refl m.clock) (past-same m.clock m.history.tables))

pub new-modified : (id : ℕ) (database name : List ℕ) (columns : List (List ℕ × Kind)) (key : List (List ℕ × Bool)) (references : List ℕ) (t : Time) → (new_schema id database name columns key references t).modified ≡ t
unfolding new_schema
new-modified id database name columns key references t = refl

pub changed-modified : (d : Schema) (change : Change) (t : Time) → (changed_schema d change t).modified ≡ t
unfolding changed_schema
changed-modified d change t = refl

-- of one descriptor, which is dated after a time
one-dated : (s t : Time) (d : Schema) → d.modified ≡ t → time_lt s t ≡ true → (e : Schema) → Has e (d ∷ []) → time_lt s e.modified ≡ true
one-dated s t d dated after e has = ⊎_elim
    (λ is. subst (λ (x : Schema). time_lt s x.modified ≡ true) (sym is) (subst (λ (u : Time). time_lt s u ≡ true) (sym dated) after))
    (λ no. absurd no) has

create-later : (m : Machine) (name : List ℕ × List ℕ) (columns : List (List ℕ × Kind)) (key : List (List ℕ × Bool)) (references : List (List ℕ × List ℕ)) → IsLater m (create_table m name columns key references).machine
unfolding create_table
create-later m name columns key references = drawing-later m _ (λ t after.
    let d = first_schema (catalog_of m) t name columns key references in
    let dated : d.modified ≡ t = new-modified _ _ _ columns key _ t in
    unless-later m _ _ (later-as m d.modified (with_new_table m d).history (subst (λ (u : Time). time_le m.clock u ≡ true) (sym dated) (lt-le m.clock t after))
    (past-more m.clock m.history.tables (new_table d ∷ []) (λ table has. ⊎_elim
    (λ is. subst (λ (x : Table). (e : Schema) → Has e x.descriptors → time_lt m.clock e.modified ≡ true) (sym is) (one-dated m.clock t d dated after))
    (λ no. absurd no) has))))

-- a descriptor that is dated after the clock
described-later : (m : Machine) (f : Found) (d : Schema) (t : Time) → slice_get m.history.tables f.place ≡ Some f.table → d.modified ≡ t → time_lt m.clock t ≡ true → IsLater m (with_descriptor m f d)
described-later m f d t got dated after = later-as m d.modified (with_descriptor m f d).history (subst (λ (u : Time). time_le m.clock u ≡ true) (sym dated) (lt-le m.clock t after))
    (past-set m.clock m.history.tables f.place f.table (described f.table d) got (record {
      id_is = refl;
      facts = [];
      facts_are = sym (append-nil f.table.facts);
      untold = λ x no. absurd no;
      schemas = d ∷ [];
      schemas_are = refl;
      schemas_after = one-dated m.clock t d dated after;
    }))

alter-later : (m : Machine) (name : List ℕ × List ℕ) (change : Change) → IsLater m (alter m name change).machine
unfolding alter
alter-later m name change = drawing-later m _ (λ t after. table-later m name t _ (λ f got.
    unless-later m _ _ (described-later m f (changed_schema f.schema change t) t got (changed-modified f.schema change t) after)))

drop-later : (m : Machine) (name : List ℕ × List ℕ) → IsLater m (drop_table m name).machine
unfolding drop_table
drop-later m name = drawing-later m _ (λ t after. table-later m name t _ (λ f got.
    unless-later m _ _ (described-later m f (dropped f.schema t) t got (changed-modified f.schema (Become Dropped) t) after)))

-- facts that are dated by the drawn time
adding-later : (m : Machine) (name : List ℕ × List ℕ) (fault : Schema → Option RowsFault) (facts : Schema → Time → List RowFact) (answer : Time → Answer)
    → ((d : Schema) (t : Time) (f : RowFact) → Has f (facts d t) → date f ≡ t) → IsLater m (adding m name fault facts answer).machine
adding-later m name fault facts answer dated = drawing-later m _ (λ t after. table-later m name t _ (λ f got. unless-later m _ _ (later-as m t (with_facts m f (facts f.schema t) t).history (lt-le m.clock t after)
    (past-set m.clock m.history.tables f.place f.table (extended f.table (facts f.schema t)) got
    (record {
      id_is = refl;
      facts = facts f.schema t;
      facts_are = refl;
      untold = λ x has. later-untold f.table.descriptors m.clock (date x) (subst (λ (u : Time). time_lt m.clock u ≡ true) (sym (dated f.schema t x has)) after);
      schemas = [];
      schemas_are = sym (append-nil f.table.descriptors);
      schemas_after = λ d no. absurd no;
    })))))

upsert-later : (m : Machine) (name : List ℕ × List ℕ) (rows : List (List Datum)) → IsLater m (upsert m name rows).machine
unfolding upsert
upsert-later m name rows = adding-later m name _ _ _ (λ d t f has. ap date (map-has (put_of d t) f rows has).2)

delete-later : (m : Machine) (name : List ℕ × List ℕ) (keys : List Key) → IsLater m (delete m name keys).machine
unfolding delete
delete-later m name keys = adding-later m name _ _ _ (λ d t f has. ap date (map-has (λ k. Del k t) f keys has).2)

range-later : (m : Machine) (name : List ℕ × List ℕ) (lo hi : Key) → IsLater m (delete_range m name lo hi).machine
unfolding delete_range
range-later m name lo hi = adding-later m name (λ d. range_fault d lo hi) (λ d t. DelRange lo hi t ∷ []) RangeDeleted dated
  where
    dated : (d : Schema) (t : Time) (f : RowFact) → Has f (DelRange lo hi t ∷ []) → date f ≡ t
    dated d t f has = ⊎_elim (λ is. subst (λ (y : RowFact). date y ≡ t) (sym is) refl) (λ no. absurd no) has

-- ---- SELECT and GC

select_at-later : (m : Machine) (name : List ℕ × List ℕ) (t : Time) → IsLater m (select_at m name t).machine
select_at-later m name t = unless-later m _ _ (table-later m name t _ (λ f got. unless-later m _ _ (later-same m)))

select-later : (m : Machine) (name : List ℕ × List ℕ) (at : Option Time) → IsLater m (select m name at).machine
unfolding select
select-later m name at = select_at-later m name (unwrap_or at m.clock)

collect-later : (m : Machine) (name : List ℕ × List ℕ) (g : Time) → IsLater m (collect m name g).machine
unfolding collect
collect-later m name g = table-later m name m.clock _ (λ f got.
    let t = raised f.table.threshold g in
    unless-later m _ _ (later-as m m.clock (with_threshold m f t).history (le-refl m.clock)
    (past-set m.clock m.history.tables f.place f.table (record f.table { threshold = t }) got (longer-same m.clock f.table t))))

-- ---- BACKUP, SHOW BACKUPS and FORGET

layer-later : (m : Machine) (tests : List (Option Refusal)) (x : Extent) (last clock : Time) → time_le m.clock clock ≡ true → IsLater m (backup m tests x last clock).machine
layer-later m tests x last clock le = let r = layer_record m x in
    unless-later m _ _ (record { name = refl; limits = refl; clock = le; tables = past-same m.clock m.history.tables; more = Backup r ∷ []; jobs = refl; layers = λ q has. ⊎_elim (λ old. inl old) (λ new. inr (new-job q new)) (has-append_cases q m.layers (r ∷ []) has) })
  where
    new-job : (q : LayerRecord) → Has q (layer_record m x ∷ []) → length m.jobs < q.job
    new-job q (inl is) = subst (λ (x : LayerRecord). length m.jobs < x.job) (sym is) (omega arith)
    new-job q (inr none) = absurd none

ending-later : (m : Machine) (at : Option Time) (change : Time → Time → Stepped) → ((end clock : Time) → time_le m.clock clock ≡ true → IsLater m (change end clock).machine) → IsLater m (ending m at change).machine
ending-later m None change later = drawing-later m (λ t. change t t) (λ t after. later t t (lt-le m.clock t after))
ending-later m (Some t) change later = unless-later m _ _ (later t m.clock (le-refl m.clock))

backup-later : (m : Machine) (database collection : List ℕ) (at : Option Time) (history : Bool) → IsLater m (backup_database m database collection at history).machine
unfolding backup_database
backup-later m database collection at history = ending-later m at _ (λ end clock. layer-later m (absent_refusal (catalog_of m) database ∷ []) (full_extent collection (Database database) history end) (last_full m collection) clock)

tables-later : (m : Machine) (names : List (List ℕ × List ℕ)) (collection : List ℕ) (at : Option Time) (history : Bool) → IsLater m (backup_tables m names collection at history).machine
unfolding backup_tables
tables-later m names collection at history = ending-later m at _ (λ end clock. layer-later m (catalog_refusal (missing_fault (catalog_of m) end names) ∷ catalog_refusal (offline_fault (catalog_of m) end names) ∷ [])
    (full_extent collection (Tables (ids_named (schemas_of m.history.tables) names end)) history end) (last_full m collection) clock)

-- the same, whatever was found
pub finding-later : (m : Machine) (refusal : Refusal) {X : Type 0} (o : Option X) (change : X → Stepped) → ((x : X) → IsLater m (change x).machine) → IsLater m (with_found m refusal o change).machine
finding-later m refusal o change later = found-later m refusal o change (λ x is. later x)

source-later : (m : Machine) (source : Src) (collection : List ℕ) (change : List ℕ × Time → Stepped) → ((s : List ℕ × Time) → IsLater m (change s).machine) → IsLater m (with_source m source collection change).machine
source-later m source collection change later = finding-later m NoSuchBackup (source_among source (own_subdirectories m collection)) change later

latest-later : (m : Machine) (collection : List ℕ) (at : Option Time) (history : Bool) → IsLater m (backup_latest m collection at history).machine
unfolding backup_latest
latest-later m collection at history = ending-later m at _ (λ end clock le. source-later m Latest collection _ (λ s.
    finding-later m NoSuchBackup (first_of name_of_record collection s.0 s.1 m.layers) _ (λ r. layer-later m [] (next_extent collection r (last_end_in m collection s) history end) (last_end_in m collection s) clock le)))

show-later : (m : Machine) (collection : List ℕ) → IsLater m (show_backups m collection).machine
unfolding show_backups
show-later m collection = later-same m

forget-later : (m : Machine) (source : Src) (collection : List ℕ) (start end : Time) → IsLater m (forget m source collection start end).machine
unfolding forget
forget-later m source collection start end = source-later m source collection _ (λ s. finding-later m NoSuchLayer (find (is_between_times start end) (layers_in m collection s)) _ (λ r. later-layers m (forgetting m r).layers (λ q has. filter-has (λ x. not (same_name (name_of_record x) (name_of_record r))) q m.layers has)))

-- ---- RESTORE

pub restored-modified : (d : Schema) (id : ℕ) (database : List ℕ) (references : List ℕ) (t : Time) → (restored_schema d id database references t).modified ≡ t
unfolding restored_schema
restored-modified d id database references t = refl

-- a restored table begins after a time before both of its own
restored-after : (s : Time) (tables : List Table) (ids : List (ℕ × ℕ)) (to : Target) (t at published : Time) (x : Schema) → time_lt s at ≡ true → time_lt s published ≡ true
    → (d : Schema) → Has d (restored_table tables ids to t at published x).descriptors → time_lt s d.modified ≡ true
restored-after s tables ids to t at published x first second d has = let e = remapped_schema ids to at x in ⊎_elim
    (λ is. one-dated s at e (restored-modified x _ _ _ at) first d (inl is))
    (λ more. one-dated s published (changed_schema e (Become Public) published) (changed-modified e (Become Public) published) second d more) has

pub chosen-later : (m : Machine) (database : List ℕ) (t at published : Time) (rs : List LayerRecord) (chosen : List Schema) → time_lt m.clock at ≡ true → time_lt at published ≡ true → IsLater m (restore_chosen m database t at published rs chosen).machine
chosen-later m database t at published rs chosen first then =
    let second : time_lt m.clock published ≡ true = lt-trans m.clock at published first then in
    let make = restored_table m.history.tables (new_ids (catalog_of m) chosen) (target.Database database) t at published in
    unless-later m _ _ (record {
      name = refl;
      limits = refl;
      clock = lt-le m.clock published second;
      tables = past-more m.clock m.history.tables (map make chosen) (λ table has. let p = map-has make table chosen has in
          subst (λ (x : Table). (d : Schema) → Has d x.descriptors → time_lt m.clock d.modified ≡ true) (sym p.2) (restored-after m.clock m.history.tables (new_ids (catalog_of m) chosen) (target.Database database) t at published p.0 first second));
      more = Restore ∷ [];
      jobs = refl;
      layers = λ r has. inl has;
    })

cover-later : (m : Machine) (rs : List LayerRecord) (c : Cover) (change : List LayerRecord → Stepped) → ((xs : List LayerRecord) → IsLater m (change xs).machine) → IsLater m (with_cover m rs c change).machine
cover-later m rs (Chain places) change later = later (layers_at rs places)
cover-later m rs (Uncovered fault) change later = later-same m

restore-later : (m : Machine) (database : List ℕ) (source : Src) (collection : List ℕ) (at : Option Time) (new : Option (List ℕ)) → IsLater m (restore_database m database source collection at new).machine
unfolding restore_database
restore-later m database source collection at new = drawing-later m _ (λ made first. timed-later m (next made) _ (λ published is. source-later m source collection _ (λ s.
    let rs = layers_in m collection s in
    let t = time_of rs at in
    cover-later m rs (cover (links_of rs) t) (restore_chain m database (unwrap_or new database) t made published) (λ xs.
    finding-later m NothingToRestore (last_of xs) _ (λ r. chosen-later m (unwrap_or new database) t made published xs (chosen_tables m.history.tables database t r) first (next-later made published is))))))

pub steps-later : StepsAreLater
unfolding step
steps-later worlds m (Cluster name) = later-same m
steps-later worlds m (Tick wall) = tick-later m wall
steps-later worlds m (CreateDatabase name) = database-later m name
steps-later worlds m (CreateTable table columns key references) = create-later m table columns key references
steps-later worlds m (AddColumn table name kind) = alter-later m table (Add name kind)
steps-later worlds m (DropColumn table name) = alter-later m table (Remove name)
steps-later worlds m (RenameColumn table name to) = alter-later m table (Renamed name to)
steps-later worlds m (RenameTable table to) = alter-later m table (Rename to)
steps-later worlds m (DropTable table) = drop-later m table
steps-later worlds m (Upsert table rows) = upsert-later m table rows
steps-later worlds m (Delete table keys) = delete-later m table keys
steps-later worlds m (DeleteRange table lo hi) = range-later m table lo hi
steps-later worlds m (Select table at) = select-later m table at
steps-later worlds m (Gc table before) = collect-later m table before
steps-later worlds m (BackupDatabase database collection at history) = backup-later m database collection at history
steps-later worlds m (BackupTables tables collection at history) = tables-later m tables collection at history
steps-later worlds m (BackupLatest collection at history) = latest-later m collection at history
steps-later worlds m (RestoreDatabase database source collection at new) = restore-later m database source collection at new
steps-later worlds m (Forget source collection start end) = forget-later m source collection start end
steps-later worlds m (ShowBackups collection) = show-later m collection
