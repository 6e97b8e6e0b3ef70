-- The machines that a cluster stands for, where a command changes a table, adds one or moves the clock.
use Rattle.std.proofs.Common.{◌≡◌, ◌≢◌, inl, inr, ℕ, ◌+◌, ◌==◌, nat_lt, Bool, true, false, cond, refl, sym, ap, ◌∙◌, subst, arith, List, [], ◌∷◌, ◌++◌, map, length, Option, Some, option_map, unwrap_or, slice_get, slice_set, reverse, get_or}
use Rattle.std.proofs.Math.Path.{fun_ext}
use Rattle.std.proofs.lemmas.Bool.{cases_Bool}
use Rattle.std.proofs.lemmas.Bool.Decides.{nat_tests}
use Rattle.std.proofs.lemmas.List.{map-append, length-append}
use Rattle.std.proofs.lemmas.List.Sums.{sum_by-set, sum_by_push}
use Rattle.std.proofs.lemmas.Option.{slice_get-map, slice_get_within, get_or_from_slice_get}
use Rattle.mvcc_keys.specs.Times.{Time, time_lt, time_le, zero_time}
use Rattle.table_descriptors.specs.Descriptors.{Schema, key_kinds}
use Rattle.fact_model.specs.Facts.{date}
use Rattle.list_laws.specs.Members.{Has}
use Rattle.list_laws.proofs.Members.{has-append_cases, reverse-has}
use Rattle.mvcc_keys.proofs.TimeOrder.{le-refl, le-trans, lt-le, lt-le-absurd, le-lt-lt, zero-le}
use Rattle.row_codec.specs.declared.rows.Kind.{Kind}
use Rattle.introduced_spans.specs.PlanLaws.{ascend_after}
use Rattle.layer_objects.specs.Storable.{IsSized}
use Rattle.layer_book.specs.Books.{no_layers}
use Rattle.history_model.specs.Rows.{RowFact}
use Rattle.history_model.specs.Histories.{Table, in_force, schemas_of, accepted}
use Rattle.version_store.specs.Tables.{no_facts}
use Rattle.version_store.specs.MapHolding.{KeepsAll}
use Rattle.version_store.specs.declared.mvcc_map.MvccMap.{MvccMap}
use Rattle.table_rows.specs.RowTables.{HasRows, MayAdd, coded, with_facts, with_threshold}
use Rattle.schema_catalog.specs.Catalogs.{Schemas, no_schemas, with_descriptor, with_table}
use Rattle.machine_model.specs.Machine.{empty_machine}
use Rattle.machine_model.specs.Tables.{described, new_table}
use Rattle.machine_model.specs.TableRows.{extended, raised}
use Rattle.cluster_core.specs.ClusterView.{ClusterState}
use Rattle.layer_objects.specs.Objects.{table_kinds, kinds_of, table_facts, table_threshold, rows_of, by_id}
use Rattle.cluster_core.specs.Standing.{IsOwn, IsOrderly, Keeps, StandsFor}
use Rattle.machine_model.proofs.Orders.{and-true, ascend-more, not-none}
use Rattle.machine_model.proofs.Lists.{got-set, got-set_other, map-set, set-same, got-push, find-has}
use Rattle.cluster_core.proofs.Tables.{by_id-at, rows-same, rows-more, rows-raised, rows-new}
use Rattle.list_laws.proofs.Options.{some-is}

abbrev Stored : MvccMap → List Table → Type 0
Stored store tables = HasRows (λ h. KeepsAll store.tables.entries h) (rows_of tables)

-- ---- descriptors in force

pub in_force-has : (ds : List Schema) (t : Time) (d : Schema) → in_force ds t ≡ Some d → Has d ds
in_force-has ds t d e = reverse-has ds d (find-has (λ (x : Schema). time_le x.modified t) (reverse ds) d e)

-- ---- time that passes

later : (s t : Time) (id : ℕ) (table : Table) → time_le s t ≡ true → IsOrderly s id table → IsOrderly t id table
later s t id table le o = record {
  id_is = o.id_is;
  schemas = o.schemas;
  facts = λ f has. le-trans (date f) s t (o.facts f has) le;
  after = o.after;
  threshold = le-trans table.threshold s t o.threshold le;
  sized = o.sized;
  dated = λ d has. le-trans d.modified s t (o.dated d has) le;
  ascend = o.ascend;
  begun = o.begun;
  keyed = o.keyed;
}

-- the same tables
pub keeps-as : (old new : ClusterState) (tables : List Table) → Keeps old tables → new.schemas.tables ≡ old.schemas.tables → new.store ≡ old.store → new.events ≡ old.events → time_le old.clock new.clock ≡ true → Keeps new tables
keeps-as old new tables k schemas store events le = record {
  schemas = k.schemas ∙ sym schemas;
  rows = subst (λ (s : MvccMap). Stored s tables) (sym store) k.rows;
  events = k.events ∙ sym events;
  orderly = λ i table got. later old.clock new.clock (100 + i) table le (k.orderly i table got);
}

-- ---- one table changes

keeps-set : (old new : ClusterState) (tables : List Table) (i : ℕ) (t u : Table) → Keeps old tables → slice_get tables i ≡ Some t → schemas_of (slice_set tables i u) ≡ new.schemas.tables → Stored new.store (slice_set tables i u)
    → accepted (slice_set tables i u) ≡ new.events → time_le old.clock new.clock ≡ true → IsOrderly new.clock (100 + i) u → Keeps new (slice_set tables i u)
keeps-set old new tables i t u k got schemas rows events le orderly = record {
  schemas = schemas;
  rows = rows;
  events = events;
  orderly = λ j table is. elim (cases_Bool (j == i)) [
    | inl e ↦ (let same : j ≡ i = grind (arith, nat_tests, e) in
        let is_u : u ≡ table = some-is u table (sym (got-set tables i t u got) ∙ (ap (slice_get (slice_set tables i u)) (sym same) ∙ is)) in
        subst (λ (x : ℕ). IsOrderly new.clock (100 + x) table) (sym same) (subst (λ (x : Table). IsOrderly new.clock (100 + i) x) is_u orderly))
    | inr e ↦ (let other : j ≢ i = grind (arith, nat_tests, e) in
        later old.clock new.clock (100 + j) table le (k.orderly j table (sym (got-set_other tables i j u other) ∙ is)))
  ];
}

same-schemas : (tables : List Table) (i : ℕ) (t u : Table) → slice_get tables i ≡ Some t → u.descriptors ≡ t.descriptors → schemas_of (slice_set tables i u) ≡ schemas_of tables
same-schemas tables i t u got is =
    map-set (λ (x : Table). x.descriptors) tables i u
    ∙ (ap (slice_set (schemas_of tables) i) is ∙ set-same (schemas_of tables) i t.descriptors (slice_get-map (λ (x : Table). x.descriptors) tables i ∙ ap (option_map (λ (x : Table). x.descriptors)) got))

same-accepted : (tables : List Table) (i n : ℕ) (t u : Table) → slice_get tables i ≡ Some t → length u.facts ≡ length t.facts + n → accepted (slice_set tables i u) ≡ accepted tables + n
same-accepted tables i n t u got is =
    let there : get_or tables i t ≡ t = get_or_from_slice_get tables i t t got in
    let sum : accepted (slice_set tables i u) + length (get_or tables i t).facts ≡ accepted tables + length u.facts = sum_by-set (λ (x : Table). length x.facts) tables i u t (slice_get_within tables i t got) in
    let sum' : accepted (slice_set tables i u) + length t.facts ≡ accepted tables + length u.facts = rw there at sum in
    omega (arith, sum', is)

-- facts are added to it, which are dated after the clock
abbrev pub grown : ClusterState → MvccMap → Time → ℕ → ClusterState
grown c store at n = record c { clock = at; store = store; events = c.events + n }

pub keeps-more : (c : ClusterState) (store : MvccMap) (at : Time) (tables : List Table) (i : ℕ) (t : Table) (fs : List RowFact) → Keeps c tables → slice_get tables i ≡ Some t → time_lt c.clock at ≡ true
    → ((f : RowFact) → Has f fs → date f ≡ at) → ((f : RowFact) → Has f fs → IsSized (table_kinds t) f) → HasRows (λ h. KeepsAll store.tables.entries h) (with_facts (100 + i) fs (rows_of tables)) → Keeps (grown c store at (length fs)) (slice_set tables i (extended t fs))
keeps-more c store at tables i t fs k got lt dated sized has =
    let u = extended t fs in
    let o = k.orderly i t got in
    let le : time_le c.clock at ≡ true = lt-le c.clock at lt in
    keeps-set c (grown c store at (length fs)) tables i t u k got
    (same-schemas tables i t u got refl ∙ k.schemas)
    (subst (HasRows (λ h. KeepsAll store.tables.entries h)) (sym (rows-more tables i t u fs got refl refl refl)) has)
    (same-accepted tables i (length fs) t u got (length-append t.facts fs) ∙ ap (λ n. n + length fs) k.events)
    le
    (record {
      id_is = o.id_is;
      schemas = o.schemas;
      facts = λ f is. elim (has-append_cases f t.facts fs is) [ inl old ↦ le-trans (date f) c.clock at (o.facts f old) le | inr new ↦ subst (λ (x : Time). time_le x at ≡ true) (sym (dated f new)) (le-refl at) ];
      after = λ f is. elim (has-append_cases f t.facts fs is) [ inl old ↦ o.after f old | inr new ↦ subst (λ (x : Time). time_lt zero_time x ≡ true) (sym (dated f new)) (le-lt-lt zero_time c.clock at (zero-le c.clock) lt) ];
      threshold = le-trans t.threshold c.clock at o.threshold le;
      sized = λ f is. elim (has-append_cases f t.facts fs is) [ inl old ↦ o.sized f old | inr new ↦ sized f new ];
      dated = λ d is. le-trans d.modified c.clock at (o.dated d is) le;
      ascend = o.ascend;
      begun = o.begun;
      keyed = o.keyed;
    })

-- such facts may be added
pub may-add : (c : ClusterState) (at : Time) (tables : List Table) (i : ℕ) (t : Table) (f : RowFact) → Keeps c tables → slice_get tables i ≡ Some t → time_lt c.clock at ≡ true → date f ≡ at → MayAdd (rows_of tables) (100 + i) f
may-add c at tables i t f k got lt is =
    let o = k.orderly i t got in
    let facts : by_id [] table_facts tables (100 + i) ≡ t.facts = by_id-at [] table_facts tables i t got in
    let threshold : by_id zero_time table_threshold tables (100 + i) ≡ t.threshold = by_id-at zero_time table_threshold tables i t got in
    let before : time_le t.threshold c.clock ≡ true = o.threshold in
    let late : time_lt t.threshold at ≡ true = grind (arith, nat_tests, before, lt) in
    let apart : (g : RowFact) → Has g (by_id [] table_facts tables (100 + i)) → date g ≢ date f =
    (λ g has e. lt-le-absurd c.clock at lt (subst (λ (x : Time). time_le x c.clock ≡ true) (e ∙ is) (o.facts g (subst (λ (fs : List RowFact). Has g fs) facts has)))) in
    record {
      late = subst (λ (x : Time). time_lt (by_id zero_time table_threshold tables (100 + i)) x ≡ true) (sym is) (subst (λ (x : Time). time_lt x at ≡ true) (sym threshold) late);
      fresh = λ key g ok has g_touches f_touches. apart g has;
      other_range = λ g has g_range f_range. apart g has;
    }

-- a descriptor is added to it
abbrev pub redated : ClusterState → Schemas → Time → ClusterState
redated c schemas at = record c { clock = at; schemas = schemas; changes = c.changes + 1 }

front-kinds : (ds : List Schema) (d e : Schema) → Has d ds → kinds_of (ds ++ e ∷ []) ≡ kinds_of ds
front-kinds [] d e has = absurd has
front-kinds (x ∷ xs) d e has = refl

pub keeps-described : (c : ClusterState) (at : Time) (tables : List Table) (i : ℕ) (t : Table) (d e : Schema) → Keeps c tables → slice_get tables i ≡ Some t → time_lt c.clock at ≡ true → Has d t.descriptors
    → e.id ≡ d.id → key_kinds e ≡ key_kinds d → e.key_columns ≡ d.key_columns → e.modified ≡ at → Keeps (redated c (with_descriptor c.schemas i e) at) (slice_set tables i (described t e))
keeps-described c at tables i t d e k got lt has id kinds columns on =
    let u = described t e in
    let o = k.orderly i t got in
    let le : time_le c.clock at ≡ true = lt-le c.clock at lt in
    let first : table_kinds u ≡ table_kinds t = front-kinds t.descriptors d e has in
    let there : slice_get c.schemas.tables i ≡ Some t.descriptors = ap (λ (xs : List (List Schema)). slice_get xs i) (sym k.schemas) ∙ (slice_get-map (λ (x : Table). x.descriptors) tables i ∙ ap (option_map (λ (x : Table). x.descriptors)) got) in
    let own = o.schemas d has in
    keeps-set c (redated c (with_descriptor c.schemas i e) at) tables i t u k got
    (map-set (λ (x : Table). x.descriptors) tables i u ∙ (ap (λ (xs : List (List Schema)). slice_set xs i u.descriptors) k.schemas ∙ ap (λ (r : Option (List Schema)). slice_set c.schemas.tables i (unwrap_or r [] ++ e ∷ [])) (sym there)))
    (subst (HasRows (λ h. KeepsAll c.store.tables.entries h)) (sym (rows-same tables i t u got first refl refl)) k.rows)
    (same-accepted tables i 0 t u got (omega arith) ∙ (let zero : accepted tables + 0 ≡ accepted tables = omega arith in zero ∙ k.events))
    le
    (record {
      id_is = o.id_is;
      schemas = λ x is. elim (has-append_cases x t.descriptors (e ∷ []) is) [
        | inl old ↦ (let w = o.schemas x old in record { id_is = w.id_is; kinds_are = first ∙ w.kinds_are })
        | inr new ↦ last x new
      ];
      facts = λ f is. le-trans (date f) c.clock at (o.facts f is) le;
      after = o.after;
      threshold = le-trans t.threshold c.clock at o.threshold le;
      sized = λ f is. subst (λ (ks : List Kind). IsSized ks f) (sym first) (o.sized f is);
      dated = λ x is. elim (has-append_cases x t.descriptors (e ∷ []) is) [ inl old ↦ le-trans x.modified c.clock at (o.dated x old) le | inr new ↦ now x new ];
      ascend = ascend-more zero_time c.clock t.descriptors e (zero-le c.clock) o.ascend o.dated (subst (λ (x : Time). time_lt c.clock x ≡ true) (sym on) lt);
      begun = λ none. absurd (not-none t.descriptors e none);
      keyed = λ x y hx hy. as-first x hx ∙ sym (as-first y hy);
    })
  where
    as-new : (x : Schema) → Has x (e ∷ []) → x.key_columns ≡ d.key_columns
    as-new x (inl is) = ap (λ (y : Schema). y.key_columns) is ∙ columns
    as-new x (inr none) = absurd none

    -- each has the key columns of the one that is changed
    as-first : (x : Schema) → Has x (t.descriptors ++ e ∷ []) → x.key_columns ≡ d.key_columns
    as-first x is = elim (has-append_cases x t.descriptors (e ∷ []) is) [ inl old ↦ (k.orderly i t got).keyed x d old has | inr new ↦ as-new x new ]

    now : (x : Schema) → Has x (e ∷ []) → time_le x.modified at ≡ true
    now x (inl is) = subst (λ (y : Schema). time_le y.modified at ≡ true) (sym is) (subst (λ (y : Time). time_le y at ≡ true) (sym on) (le-refl at))
    now x (inr none) = absurd none

    last : (x : Schema) → Has x (e ∷ []) → IsOwn (100 + i) (table_kinds (described t e)) x
    last x (inl is) = (let own = (k.orderly i t got).schemas d has in
        subst (IsOwn (100 + i) (table_kinds (described t e))) (sym is) (record { id_is = id ∙ own.id_is; kinds_are = front-kinds t.descriptors d e has ∙ (own.kinds_are ∙ sym kinds) }))
    last x (inr none) = absurd none

-- its threshold is raised
abbrev pub restored : ClusterState → MvccMap → ClusterState
restored c store = record c { store = store }

pub keeps-raised : (c : ClusterState) (store : MvccMap) (g : Time) (tables : List Table) (i : ℕ) (t : Table) → Keeps c tables → slice_get tables i ≡ Some t → time_lt c.clock g ≡ false
    → HasRows (λ h. KeepsAll store.tables.entries h) (with_threshold (100 + i) g (rows_of tables)) → Keeps (restored c store) (slice_set tables i (record t { threshold = raised t.threshold g }))
keeps-raised c store g tables i t k got past has =
    let u : Table = record t { threshold = raised t.threshold g } in
    let o = k.orderly i t got in
    keeps-set c (restored c store) tables i t u k got
    (same-schemas tables i t u got refl ∙ k.schemas)
    (subst (HasRows (λ h. KeepsAll store.tables.entries h)) (sym (rows-raised tables i t u g got refl refl refl)) has)
    (same-accepted tables i 0 t u got (omega arith) ∙ (let zero : accepted tables + 0 ≡ accepted tables = omega arith in zero ∙ k.events))
    (le-refl c.clock)
    (record { id_is = o.id_is; schemas = o.schemas; facts = o.facts; after = o.after; threshold = by (time_lt t.threshold g) o.threshold; sized = o.sized; dated = o.dated; ascend = o.ascend; begun = o.begun; keyed = o.keyed })
  where
    by : (b : Bool) → time_le t.threshold c.clock ≡ true → time_le (cond b g t.threshold) c.clock ≡ true
    by true le = grind (arith, nat_tests, past)
    by false le = le

-- ---- a table is added

pub keeps-push : (old new : ClusterState) (tables : List Table) (t : Table) → Keeps old tables → new.schemas.tables ≡ old.schemas.tables ++ t.descriptors ∷ [] → Stored new.store (tables ++ t ∷ []) → new.events ≡ old.events + length t.facts
    → time_le old.clock new.clock ≡ true → IsOrderly new.clock (100 + length tables) t → Keeps new (tables ++ t ∷ [])
keeps-push old new tables t k schemas rows events le orderly = record {
  schemas = map-append (λ (x : Table). x.descriptors) tables (t ∷ []) ∙ (ap (λ (xs : List (List Schema)). xs ++ t.descriptors ∷ []) k.schemas ∙ sym schemas);
  rows = rows;
  events = sum_by_push (λ (x : Table). length x.facts) tables t ∙ (ap (λ n. n + length t.facts) k.events ∙ sym events);
  orderly = λ i table got. elim (got-push tables t i table got) [
    | inl there ↦ later old.clock new.clock (100 + i) table le (k.orderly i table there)
    | inr last ↦ subst (λ (n : ℕ). IsOrderly new.clock (100 + n) table) (sym last.0) (subst (IsOrderly new.clock (100 + length tables)) last.1 orderly)
  ];
}

pub keeps-new : (c : ClusterState) (at : Time) (tables : List Table) (d : Schema) → Keeps c tables → time_lt c.clock at ≡ true → d.id ≡ 100 + length tables → d.modified ≡ at → Keeps (redated c (with_table c.schemas d) at) (tables ++ new_table d ∷ [])
keeps-new c at tables d k lt id on =
    keeps-push c (redated c (with_table c.schemas d) at) tables (new_table d) k refl (rows-new (λ h. KeepsAll c.store.tables.entries h) tables (new_table d) refl refl k.rows) (omega arith) (lt-le c.clock at lt) first
  where
    own : (x : Schema) → Has x (d ∷ []) → IsOwn (100 + length tables) (table_kinds (new_table d)) x
    own x (inl is) = subst (IsOwn (100 + length tables) (key_kinds d)) (sym is) (record { id_is = id; kinds_are = refl })
    own x (inr none) = absurd none

    now : (x : Schema) → Has x (d ∷ []) → time_le x.modified at ≡ true
    now x (inl is) = subst (λ (y : Schema). time_le y.modified at ≡ true) (sym is) (subst (λ (y : Time). time_le y at ≡ true) (sym on) (le-refl at))
    now x (inr none) = absurd none

    only : (x : Schema) → Has x (d ∷ []) → x ≡ d
    only x (inl is) = is
    only x (inr none) = absurd none

    first : IsOrderly at (100 + length tables) (new_table d)
    first = record {
      id_is = id;
      schemas = own;
      facts = λ f none. absurd none;
      after = λ f none. absurd none;
      threshold = zero-le at;
      sized = λ f none. absurd none;
      dated = now;
      ascend = subst (λ (x : Time). ascend_after zero_time (record d { modified = x } ∷ []) ≡ true) (sym on) (and-true (time_lt zero_time at) (le-lt-lt zero_time c.clock at (zero-le c.clock) lt));
      begun = λ none. cc none;
      keyed = λ x y hx hy. ap (λ (z : Schema). z.key_columns) (only x hx ∙ sym (only y hy));
    }

-- ---- nothing yet

by_id-none : {X : Type 0} (none : X) (f : Table → X) → by_id none f [] ≡ (λ (id : ℕ). none)
by_id-none none f = fun_ext (λ id. by id (nat_lt id 100) refl)
  where
    by : (id : ℕ) (b : Bool) → nat_lt id 100 ≡ b → by_id none f [] id ≡ none
    by id true low = rw low refl
    by id false high = rw high refl

pub stands-empty : (name cluster : List ℕ) (events limit : ℕ) (clock : Time) (schemas : Schemas) (store : MvccMap) → schemas ≡ no_schemas limit → KeepsAll store.tables.entries no_facts
    → StandsFor (record { name = name; most_events = events; clock = clock; schemas = schemas; store = store; book = no_layers cluster; jobs = []; events = 0; steps = 0; changes = 0; ended = false }) (empty_machine name clock (record { events = events; tables = limit }))
stands-empty name cluster events limit clock schemas store is keeps = record {
  tables = [];
  keeps = record {
    schemas = ap (λ (s : Schemas). s.tables) (sym is);
    rows = record {
      bytes = subst (KeepsAll store.tables.entries) (λ i. record { facts = fun_ext (λ id. ap (λ (fs : ℕ → List RowFact). map (coded id (by_id [] table_kinds [] id)) (fs id)) (sym (by_id-none [] table_facts))) i; threshold = sym (by_id-none zero_time table_threshold) i }) keeps;
      rows = λ id f has. absurd (subst (λ (fs : ℕ → List RowFact). Has f (fs id)) (by_id-none [] table_facts) has);
    };
    events = refl;
    orderly = λ i table got. cc got;
  };
  machine_is = ap (λ (s : Schemas). record { name = name; limits = record { events = events; tables = s.limit }; clock = clock; history = record { databases = s.databases; tables = [] }; layers = []; jobs = [] }) (sym is);
  backups = record { backups = λ place r got. cc got; layers = λ p none. absurd none; scopes = λ q r none. absurd none };
}
