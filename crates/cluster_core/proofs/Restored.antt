-- A restore's tables, added one after another.
use Rattle.std.proofs.Common.{◌≡◌, inl, inr, ℕ, ◌+◌, ◌-◌, ◌<◌, ◌≤◌, ◌^◌, nat_eq, nat_lt, Bool, true, false, ◌&&◌, if◌then◌else◌, refl, sym, ap, ◌∙◌, subst, arith, List, [], ◌∷◌, ◌++◌, map, length, Option, Some, None, slice_set, unwrap_or}
use Rattle.std.specs.List.{AllByRecursion, range_with_len}
use Rattle.std.specs.Map.{lookup}
use Rattle.std.proofs.lemmas.Bool.Decides.{nat_tests}
use Rattle.std.proofs.lemmas.List.{append_assoc, append-nil, length-append, length-map}
use Rattle.std.proofs.lemmas.List.Sums.{sum_by-cons}
use Rattle.mvcc_keys.specs.Times.{Time, time_lt, time_le, zero_time, next}
use Rattle.mvcc_keys.specs.declared.entries.Entry.{Entry}
use Rattle.row_codec.specs.declared.rows.Kind.{Kind}
use Rattle.table_descriptors.specs.declared.changes.Change.TheVariants.{Become}
use Rattle.table_descriptors.specs.declared.columns.State.TheVariants.{Public}
use Rattle.table_descriptors.specs.Descriptors.{Schema, changed_schema, key_kinds}
use Rattle.table_descriptors.specs.Restoring.{restored_schema}
use Rattle.list_laws.specs.Members.{Has}
use Rattle.mvcc_keys.proofs.TimeOrder.{le-refl, lt-le, le-trans, le-lt-lt, zero-le}
use Rattle.history_model.specs.Rows.{RowFact, RowItem}
use Rattle.history_model.specs.Histories.{Table, in_force}
use Rattle.introduced_spans.specs.PlanLaws.{ascend_after}
use Rattle.version_store.specs.MapHolding.{KeepsAll}
use Rattle.table_rows.specs.RowTables.{HasRows, RowTables, with_facts}
use Rattle.layer_objects.specs.Objects.{by_id, rows_of, table_facts, table_kinds, table_threshold}
use Rattle.layer_objects.specs.Storable.{IsSized}
use Rattle.layer_chains.specs.Chains.{stored_put}
use Rattle.restore_rows.specs.Putting.{AreItems}
use Rattle.schema_catalog.specs.Catalogs.{Schemas, IsChangeable, database_fault, has_database, history_of, next_id, with_descriptor, with_table}
use Rattle.id_remap.specs.declared.targets.Target.{Target}
use Rattle.id_remap.specs.Remapping.{first_fault, ids_of, lacks_ids, missing_reference, new_id, remap_fault, remapped_schema, taken_name}
use Rattle.id_remap.specs.declared.targets.Target.TheVariants as target
use Rattle.id_remap.specs.declared.faults.RemapFault.{RemapFault}
use Rattle.id_remap.specs.declared.faults.RemapFault.TheVariants.{DatabaseExists}
use Rattle.machine_model.specs.Restores.{put_anew, restored_table, rows_to_restore}
use Rattle.machine_model.specs.Tables.{new_table}
use Rattle.cluster_core.specs.ClusterView.{AreWithin, ClusterState}
use Rattle.cluster_core.specs.Standing.{IsOwn, IsOrderly, Keeps}
use Rattle.cluster_core.specs.Restoring.{AreRowsFor, AreRowsFrom, AreRowsOfEach, HasRoomFor, IsAdding, IsFirst, count_rows, made_table, made_tables, with_added}
use Rattle.cluster_core.proofs.Tables.{by_id-at, rows-more, rows-new}
use Rattle.cluster_core.proofs.Kept.{keeps-as, keeps-push}
use Rattle.machine_model.proofs.Past.{next-later}
use Rattle.cluster_core.proofs.Adding.{map-dated}
use Rattle.cluster_core.proofs.SchemaCommands.{next_version}
use Rattle.cluster_core.proofs.Versions.{within-described}
use Rattle.list_laws.proofs.Places.{got-last}

-- ---- the last of a list

set-last : {X : Type 0} (xs : List X) (y z : X) → slice_set (xs ++ y ∷ []) (length xs) z ≡ xs ++ z ∷ []
set-last [] y z = refl
set-last (x ∷ xs) y z = ap (λ ws. x ∷ ws) (set-last xs y z)

-- ---- its descriptors

history-last : (s : Schemas) (d : Schema) → history_of (with_table s d) (next_id s) ≡ d ∷ []
history-last s d =
    let above : nat_lt (100 + length s.tables) 100 ≡ false = grind (arith, nat_tests) in
    let place : 100 + length s.tables - 100 ≡ length s.tables = omega arith in
    rw (above, place, got-last s.tables (d ∷ [])) refl

force-last : (s t : Schemas) (d : Schema) (at : Time) (id : ℕ) → t ≡ with_table s d → id ≡ next_id s → time_le d.modified at ≡ true → in_force (history_of t id) at ≡ Some d
force-last s t d at id is place le = rw (is, place, history-last s d, le) refl

module _ (s t : Schemas) (d : Schema) (id : ℕ) (made published : Time) (later : time_lt made published ≡ true) (first : IsFirst made d) (is : t ≡ with_table s d) (place : id ≡ next_id s) where
  force : in_force (history_of t id) published ≡ Some d
  force = force-last s t d published id is place (rw first.1 (lt-le made published later))

  pub may-publish : IsChangeable t published id
  may-publish = record { schema = d; found = force; version = rw first.0 (omega arith) }

  module _ (u : Schemas) (all : (x : Schema) → in_force (history_of t id) published ≡ Some x → u ≡ with_descriptor t (id - 100) (changed_schema x (Become Public) published)) where
    pub published-is : u ≡ record s { tables = s.tables ++ (d ∷ changed_schema d (Become Public) published ∷ []) ∷ [] }
    published-is =
        let at : id - 100 ≡ length s.tables = omega (arith, place) in
        let e = changed_schema d (Become Public) published in
        all d force ∙ (ap (λ (x : Schemas). with_descriptor x (id - 100) e) is ∙ (ap (λ (n : ℕ). with_descriptor (with_table s d) n e) at ∙ ap (λ (ts : List (List Schema)). record s { tables = ts })
        (rw (got-last s.tables (d ∷ [])) (set-last s.tables (d ∷ []) (d ∷ e ∷ [])))))

    pub published-within : (n : ℕ) → 2 ≤ n → AreWithin n t.tables → AreWithin n u.tables
    published-within n two within =
        let e = changed_schema d (Become Public) published in
        let small : e.version ≤ 2 = next_version d (Become Public) published 1 2 (rw first.0 (omega arith)) (omega arith) in
        subst (λ (x : Schemas). AreWithin n x.tables) (sym (all d force)) (within-described n n t (id - 100) e within (omega arith) (omega (arith, small, two)))

    pub published-more : length u.tables ≡ length s.tables + 1
    published-more = ap (λ (x : Schemas). length x.tables) published-is ∙ length-append s.tables _

    pub published-rest : u ≡ record s { tables = u.tables }
    published-rest = published-is ∙ ap (λ (x : Schemas). record s { tables = x.tables }) (sym published-is)

-- ---- a table with its rows

module _ (made published : Time) (s : Schema) (items : List RowItem) (begins : time_lt zero_time made ≡ true) (later : time_lt made published ≡ true) (first : IsFirst made s) where
  abbrev e : Schema
  e = changed_schema s (Become Public) published

  own : (d : Schema) → Has d (s ∷ e ∷ []) → IsOwn s.id (key_kinds s) d
  unfolding changed_schema
  own d (inl is) = subst (IsOwn s.id (key_kinds s)) (sym is) (record { id_is = refl; kinds_are = refl })
  own d (inr (inl is)) = subst (IsOwn s.id (key_kinds s)) (sym is) (record { id_is = refl; kinds_are = refl })
  own d (inr (inr none)) = absurd none

  dated : (d : Schema) → Has d (s ∷ e ∷ []) → time_le d.modified published ≡ true
  unfolding changed_schema
  dated d (inl is) = rw (is, first.1) (lt-le made published later)
  dated d (inr (inl is)) = rw is (le-refl published)
  dated d (inr (inr none)) = absurd none

  ascend : ascend_after zero_time (s ∷ e ∷ []) ≡ true
  unfolding changed_schema
  ascend = subst (λ (x : Time). (time_lt zero_time x && (time_lt x published && true)) ≡ true) (sym first.1) (rw (begins, later) refl)

  same-key : (d : Schema) → Has d (s ∷ e ∷ []) → d.key_columns ≡ s.key_columns
  unfolding changed_schema
  same-key d (inl is) = ap (λ (x : Schema). x.key_columns) is
  same-key d (inr (inl is)) = ap (λ (x : Schema). x.key_columns) is
  same-key d (inr (inr none)) = absurd none

  made-orderly : ((i : RowItem) → Has i items → IsSized (key_kinds s) (put_anew made i)) → IsOrderly published s.id (made_table made published s items)
  unfolding changed_schema
  made-orderly sized = record {
    id_is = refl;
    schemas = own;
    facts = λ f has. rw (map-dated (put_anew made) made (λ i. refl) items f has) (lt-le made published later);
    after = λ f has. rw (map-dated (put_anew made) made (λ i. refl) items f has) begins;
    threshold = zero-le published;
    sized = λ f has. all items f sized has;
    dated = dated;
    ascend = ascend;
    begun = λ none. cc none;
    keyed = λ d f first second. same-key d first ∙ sym (same-key f second);
  }
    where
      all : (is : List RowItem) (f : RowFact) → ((i : RowItem) → Has i is → IsSized (key_kinds s) (put_anew made i)) → Has f (map (put_anew made) is) → IsSized (key_kinds s) f
      all [] f each has = absurd has
      all (i ∷ is) f each (inl same) = subst (IsSized (key_kinds s)) (sym same) (each i (inl refl))
      all (i ∷ is) f each (inr more) = all is f (λ j has. each j (inr has)) more

-- ---- one table more

pub added : (old new : ClusterState) (d : Schema) (entries : List Entry) (ids : List (ℕ × ℕ)) (made published : Time) → time_lt made published ≡ true → IsFirst made d → next_id old.schemas < 2 ^ 32
    → new.schemas.tables ≡ old.schemas.tables ++ (d ∷ changed_schema d (Become Public) published ∷ []) ∷ [] → new.clock ≡ old.clock → new.events ≡ old.events + length entries
    → ((T : RowTables) (from to : ℕ) (items : List RowItem) → HasRows (λ h. KeepsAll old.store.tables.entries h) T → entries ≡ map (stored_put from (T.kinds to)) items → from < 2 ^ 32 → to < 2 ^ 32
    → lookup (nat_eq from) ids ≡ Some to → T.facts to ≡ [] → time_lt (T.threshold to) made ≡ true → AreItems (T.kinds to) items → HasRows (λ h. KeepsAll new.store.tables.entries h) (with_facts to (map (put_anew made) items) T))
    → (all : List Table) (others : List Schema) (rest : List (List Entry)) → IsAdding old ids made published (d ∷ others) (entries ∷ rest) all → IsAdding new ids made published others rest all
added old new d entries ids made published later first small schemas clock events put all others rest w = by w.items w.rows w.all_are
  where
    n : ℕ
    n = length w.tables

    bare : List Table
    bare = w.tables ++ new_table d ∷ []

    known : (i : List RowItem) → AreRowsFor ids made (100 + n) d entries i → HasRows (λ h. KeepsAll new.store.tables.entries h) (rows_of (w.tables ++ made_table made published d i ∷ []))
    known i r =
        let got = got-last w.tables (new_table d) in
        let kinds : by_id [] table_kinds bare (100 + n) ≡ key_kinds d = by_id-at [] table_kinds bare n (new_table d) got in
        let facts : by_id [] table_facts bare (100 + n) ≡ [] = by_id-at [] table_facts bare n (new_table d) got in
        let threshold : by_id zero_time table_threshold bare (100 + n) ≡ zero_time = by_id-at zero_time table_threshold bare n (new_table d) got in
        let count : length old.schemas.tables ≡ n = ap length (sym w.keeps.schemas) ∙ length-map w.tables (λ (x : Table). x.descriptors) in
        let has = put (rows_of bare) r.old (100 + n) i (rows-new (λ h. KeepsAll old.store.tables.entries h) w.tables (new_table d) refl refl w.keeps.rows)
        (subst (λ (ks : List Kind). entries ≡ map (stored_put r.old ks) i) (sym kinds) r.rows.stored) r.rows.small (rw (sym count) small) r.mapped facts (rw threshold w.begins) (subst (λ (ks : List Kind). AreItems ks i) (sym kinds) r.rows.each) in
        subst (λ (ts : List Table). HasRows (λ h. KeepsAll new.store.tables.entries h) (rows_of ts)) (set-last w.tables (new_table d) (made_table made published d i))
        (subst (HasRows (λ h. KeepsAll new.store.tables.entries h)) (sym (rows-more bare n (new_table d) (made_table made published d i) (map (put_anew made) i) got refl refl refl)) has)

    by : (items : List (List RowItem)) → AreRowsFrom ids made (100 + n) (d ∷ others) (entries ∷ rest) items → w.tables ++ made_tables made published (d ∷ others) items ≡ all → IsAdding new ids made published others rest all
    by [] rows is = absurd rows
    by (i ∷ more) rows is =
        let t = made_table made published d i in
        let r = rows.0 in
        let len : length entries ≡ length t.facts = ap length r.rows.stored ∙ (length-map i (stored_put r.old (key_kinds d)) ∙ sym (length-map i (put_anew made))) in
        let orderly : IsOrderly published d.id t = made-orderly made published d i w.begins later first r.rows.sized in
        let one : length (w.tables ++ t ∷ []) ≡ n + 1 = length-append w.tables (t ∷ []) in
        let more_than : 100 + n + 1 ≡ 100 + length (w.tables ++ t ∷ []) = omega (arith, one) in
        record {
          tables = w.tables ++ t ∷ [];
          items = more;
          keeps = keeps-push old new w.tables t w.keeps schemas (known i r) (events ∙ ap (λ (k : ℕ). old.events + k) len) (rw clock (le-refl old.clock))
              (subst (λ (k : ℕ). IsOrderly new.clock k t) r.id_is (subst (λ (x : Time). IsOrderly x d.id t) (sym (clock ∙ w.clock)) orderly));
          clock = clock ∙ w.clock;
          begins = w.begins;
          rows = subst (λ (k : ℕ). AreRowsFrom ids made k others rest more) more_than rows.1;
          all_are = append_assoc w.tables (t ∷ []) (made_tables made published others more) ∙ is;
        }

-- ---- all tables

-- some tables were added, and these are still to be
pub record IsAmid (start now : ClusterState) (ids : List (ℕ × ℕ)) (made published : Time) (all left : List Schema) (rows rest : List (List Entry)) : Type 0 where
  pub room : HasRoomFor now made left rest
  pub goes_on : (tables : List Table) → IsAdding start ids made published all rows tables → IsAdding now ids made published left rest tables
  pub count : ℕ
  pub sum : count + count_rows rest ≡ count_rows rows
  pub is : now ≡ with_added start count now.schemas.tables now.store

pub amid-begin : (c : ClusterState) (ids : List (ℕ × ℕ)) (made published : Time) (ss : List Schema) (rs : List (List Entry)) → HasRoomFor c made ss rs → IsAmid c c ids made published ss ss rs rs
amid-begin c ids made published ss rs room = record { room = room; goes_on = λ tables w. w; count = 0; sum = omega arith; is = ap (λ (n : ℕ). record c { events = n }) (omega arith) }

module _ (start now : ClusterState) (ids : List (ℕ × ℕ)) (made published : Time) (all : List Schema) (rows : List (List Entry)) where
  pub amid-next : (after : ClusterState) (s : Schema) (ss : List Schema) (r : List Entry) (rs : List (List Entry)) → IsAmid start now ids made published all (s ∷ ss) rows (r ∷ rs)
      → ((tables : List Table) (others : List Schema) (rest : List (List Entry)) → IsAdding now ids made published (s ∷ others) (r ∷ rest) tables → IsAdding after ids made published others rest tables)
      → length after.schemas.tables ≡ length now.schemas.tables + 1 → after ≡ with_added now (length r) after.schemas.tables after.store → IsAmid start after ids made published all ss rows rs
  amid-next after s ss r rs w goes more rest =
      let events : after.events ≡ now.events + length r = ap (λ (c : ClusterState). c.events) rest in
      let limit : after.schemas.limit ≡ now.schemas.limit = ap (λ (c : ClusterState). c.schemas.limit) rest in
      let most : after.most_events ≡ now.most_events = ap (λ (c : ClusterState). c.most_events) rest in
      let alike = w.room.alike in
      let room = w.room.tables in
      let fits = w.room.events in
      let sum = w.sum in
      let one : count_rows (r ∷ rs) ≡ length r + count_rows rs = sum_by-cons (λ (es : List Entry). length es) r rs in
      record {
        room = record {
          tables = omega (arith, more, limit, room);
          events = omega (arith, events, most, fits, one);
          first = w.room.first.1;
          alike = omega (arith, alike);
        };
        goes_on = λ tables from. goes tables ss rs (w.goes_on tables from);
        count = w.count + length r;
        sum = omega (arith, sum, one);
        is = rest ∙ (ap (λ (c : ClusterState). with_added c (length r) after.schemas.tables after.store) w.is
            ∙ ap (λ (n : ℕ). record start { schemas = record start.schemas { tables = after.schemas.tables }; store = after.store; events = n }) (omega arith));
      }

  pub amid-kept : (left : List Schema) (rest : List (List Entry)) → length left ≡ 0 → IsAmid start now ids made published all left rows rest → (tables : List Table) → IsAdding start ids made published all rows tables → Keeps now tables
  amid-kept [] rest none w tables from = (let x = w.goes_on tables from in subst (Keeps now) (sym (append-nil x.tables) ∙ x.all_are) x.keeps)
  amid-kept (s ∷ ss) rest none w tables from = (let no : ⊥ = omega (arith, none) in absurd no)

  pub amid-rest : (left : List Schema) (rest : List (List Entry)) → length left ≡ 0 → IsAmid start now ids made published all left rows rest → now ≡ with_added start (count_rows rows) now.schemas.tables now.store
  amid-rest left rest none w = w.is ∙ ap (λ (n : ℕ). with_added start n now.schemas.tables now.store) (all-of rest (sym none ∙ w.room.alike) w.sum)
    where
      all-of : (rs : List (List Entry)) → 0 ≡ length rs → w.count + count_rows rs ≡ count_rows rows → w.count ≡ count_rows rows
      all-of [] none sum = omega (arith, sum)
      all-of (r ∷ rs) none sum = (let no : ⊥ = omega (arith, none) in absurd no)

-- ---- chosen tables under new ids

module _ (ids : List (ℕ × ℕ)) (to : Target) (made : Time) where
  mapped-to : (old id : ℕ) → 0 < id → unwrap_or (lookup (nat_eq old) ids) 0 ≡ id → lookup (nat_eq old) ids ≡ Some id
  mapped-to old id above is = by (lookup (nat_eq old) ids) is
    where
      by : (r : Option ℕ) → unwrap_or r 0 ≡ id → r ≡ Some id
      by None e = (let no : ⊥ = omega (arith, above, e) in absurd no)
      by (Some x) e = ap Some e

  pub rows-from : (id : ℕ) (chosen : List Schema) (rows : List (List Entry)) (items : List (List RowItem)) → 0 < id → ids_of (map (remapped_schema ids to made) chosen) ≡ range_with_len id (length chosen) → AreRowsOfEach made chosen rows items
      → AreRowsFrom ids made id (map (remapped_schema ids to made) chosen) rows items
  unfolding restored_schema
  rows-from id [] [] [] above order has = tt
  rows-from id [] [] (i ∷ is) above order has = absurd has
  rows-from id [] (r ∷ rs) is above order has = absurd has
  rows-from id (d ∷ ds) [] is above order has = absurd has
  rows-from id (d ∷ ds) (r ∷ rs) [] above order has = absurd has
  rows-from id (d ∷ ds) (r ∷ rs) (i ∷ is) above order has =
      let head : new_id ids d.id ≡ id = cc order in
      let tail : ids_of (map (remapped_schema ids to made) ds) ≡ range_with_len (id + 1) (length ds) = cc order in
      (record { old = d.id; mapped = mapped-to d.id id above head; id_is = head; rows = has.0 }, rows-from (id + 1) ds rs is (omega arith) tail has.1)

  -- what the caller has to show of new tables
  pub all-first : (chosen : List Schema) → AllByRecursion (IsFirst made) (map (remapped_schema ids to made) chosen)
  unfolding restored_schema
  all-first [] = tt
  all-first (d ∷ ds) = ((refl, refl), all-first ds)

  -- rows of a past scan make the tables of a restore
  pub all-restored : (published t : Time) (tables : List Table) (chosen : List Schema)
      → made_tables made published (map (remapped_schema ids to made) chosen) (map (rows_to_restore tables t) chosen) ≡ map (restored_table tables ids to t made published) chosen
  all-restored published t tables [] = refl
  all-restored published t tables (d ∷ ds) = ap (λ ts. restored_table tables ids to t made published d ∷ ts) (all-restored published t tables ds)

-- ---- a restore's new database

pub adding : (c moved : ClusterState) (ids : List (ℕ × ℕ)) (to : Target) (made published : Time) (old : List Table) (chosen ss : List Schema) (rows : List (List Entry)) (items : List (List RowItem)) → Keeps c old
    → next c.clock ≡ Some made → next made ≡ Some published → moved.clock ≡ published → moved.schemas.tables ≡ c.schemas.tables → moved.store ≡ c.store → moved.events ≡ c.events
    → ss ≡ map (remapped_schema ids to made) chosen → ids_of ss ≡ range_with_len (next_id c.schemas) (length chosen) → AreRowsOfEach made chosen rows items
    → IsAdding moved ids made published ss rows (old ++ made_tables made published ss items)
adding c moved ids to made published old chosen ss rows items k made_is published_is clock schemas store events is order has =
    let n : length c.schemas.tables ≡ length old = ap length (sym k.schemas) ∙ length-map old (λ (x : Table). x.descriptors) in
    let lt = next-later c.clock made made_is in
    let le : time_le c.clock published ≡ true = le-trans c.clock made published (lt-le c.clock made lt) (lt-le made published (next-later made published published_is)) in
    let order' : ids_of (map (remapped_schema ids to made) chosen) ≡ range_with_len (100 + length old) (length chosen) = ap ids_of (sym is) ∙ (order ∙ ap (λ (k : ℕ). range_with_len (100 + k) (length chosen)) n) in
    record {
      tables = old;
      items = items;
      keeps = keeps-as c moved old k schemas store events (subst (λ (x : Time). time_le c.clock x ≡ true) (sym clock) le);
      clock = clock;
      begins = le-lt-lt zero_time c.clock made (zero-le c.clock) lt;
      rows = subst (λ (xs : List Schema). AreRowsFrom ids made (100 + length old) xs rows items) (sym is) (rows-from ids to made (100 + length old) chosen rows items (omega arith) order' has);
      all_are = refl;
    }

-- no test that refuses the new tables finds the database
pub not-there : (s : Schemas) (chosen : List Schema) (database : List ℕ) (skip : Bool) (at : Time) → remap_fault s chosen (target.Database database) skip at ≡ None → database_fault s database ≡ None
unfolding remap_fault
not-there s chosen database skip at none = by (has_database s database) (missing_reference (ids_of chosen) skip chosen) refl none
  where
    tests : List (Option RemapFault)
    tests = taken_name s (target.Database database) at chosen ∷ lacks_ids s chosen ∷ []

    by : (b : Bool) (missing : Option RemapFault) → has_database s database ≡ b → first_fault (missing ∷ None ∷ (if b then Some (DatabaseExists database) else None) ∷ tests) ≡ None → database_fault s database ≡ None
    by false missing is none = rw is refl
    by true None is none = cc none
    by true (Some fault) is none = cc none
