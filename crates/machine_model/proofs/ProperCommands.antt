-- A command in form leads from a proper machine to a proper one.
use Rattle.std.proofs.Common.{◌≡◌, ◌⊎◌, inl, inr, ℕ, ◌+◌, nat_le, Bool, true, false, ◌&&◌, not, refl, sym, ap, subst, ◌∙◌, List, [], ◌∷◌, ◌++◌, map, length, Option, Some, None, option_map, unwrap_or, if◌then◌else◌, is_some}
use Rattle.std.specs.Prelude.{filter}
use Rattle.std.specs.List.{find, list_all}
use Rattle.std.specs.Str.{bytes_eq}
use Rattle.std.proofs.lemmas.Bool.{cases_Bool}
use Rattle.std.proofs.lemmas.Slice.Eq.{bytes_eq-Decides}
use Rattle.mvcc_keys.specs.Times.{Time, time_le}
use Rattle.row_codec.specs.declared.rows.Kind.{Kind}
use Rattle.row_codec.specs.declared.rows.Datum.{Datum}
use Rattle.row_codec.proofs.KeyOrder.{both_true}
use Rattle.table_descriptors.specs.Names.{is_name}
use Rattle.table_descriptors.specs.declared.columns.Column.{Column}
use Rattle.table_descriptors.specs.declared.columns.State.TheVariants.{Dropped}
use Rattle.table_descriptors.specs.declared.changes.Change.{Change}
use Rattle.table_descriptors.specs.declared.changes.Change.TheVariants.{Add, Remove, RenameColumn as Renamed, Rename, Become}
use Rattle.table_descriptors.specs.Descriptors.{IsProperSchema, Schema, bad_change, broken_rule, changed_schema, columns_after, name_after, new_schema, numbered, renamed, repeats}
use Rattle.list_laws.specs.Members.{Has}
use Rattle.list_laws.proofs.Bools.{and-right}
use Rattle.history_model.specs.Rows.{Key}
use Rattle.history_model.specs.RowTests.{large_key, large_row, is_empty_range, repeated_key, repeated_row, wrong_key, wrong_row}
use Rattle.history_model.specs.Histories.{Table, has_name, in_force, is_dropped, is_named, place_named, schemas_of}
use Rattle.schema_catalog.specs.declared.faults.CatalogFault.TheVariants.{BadSchema, NameTaken, NoSuchDatabase, NoSuchTable as NoTable, NotPublic as IsOffline, TooManyTables}
use Rattle.schema_catalog.specs.Catalogs.{Schemas, change_fault, fault_if, has_database, is_missing, is_offline_at, is_same_name, missing_fault, offline_fault, schema_fault, table_fault, taken_name}
use Rattle.table_rows.specs.declared.faults.RowsFault.TheVariants.{WrongRow, TooLarge, DuplicateKey, EmptyRange}
use Rattle.table_rows.specs.Checks.{keys_fault, large_fault, range_fault, repeated_fault, rows_fault, wrong_fault}
use Rattle.command_lang.specs.Typed.{AreColumns, IsName}
use Rattle.machine_model.specs.Refusals.{catalog_refusal, rows_refusal}
use Rattle.machine_model.specs.Proper.{IsSameTable}
use Rattle.machine_model.proofs.KeyKinds.{kinds-kept}
use Rattle.machine_model.proofs.Lists.{find-has}
use Rattle.machine_model.proofs.ProperLists.{IsFree}
use Rattle.machine_model.proofs.ProperSteps.{Tells, fault-off, fault-parts, free-names, not-some, tells-if, tells-map, told-catalog, told-rows}
use Rattle.list_laws.proofs.Members.{reverse-has}

-- ---- tests

pub not-false : (b : Bool) → not b ≡ false → b ≡ true
not-false true e = refl
not-false false e = cc e

pub table-fine : (s : Schemas) (t : Time) (name : List ℕ × List ℕ) (columns : List (List ℕ × Kind)) (key : List (List ℕ × Bool)) (references : List (List ℕ × List ℕ)) → catalog_refusal (table_fault s t name columns key references) ≡ None → table_fault s t name columns key references ≡ None
unfolding table_fault
table-fine s t name columns key references e = told-catalog (fault_if (not (has_database s name.0)) (NoSuchDatabase name.0) ∷ fault_if (is_some (place_named s.tables name t)) (NameTaken name) ∷ schema_fault (broken_rule columns key (repeats is_same_name references))
    ∷ missing_fault s t references ∷ offline_fault s t references ∷ fault_if (nat_le s.limit (length s.tables)) TooManyTables ∷ []) (
      tells-if catalog_refusal (NoSuchDatabase name.0) (λ f. cc f) (not (has_database s name.0)),
      (
        tells-if catalog_refusal (NameTaken name) (λ f. cc f) (is_some (place_named s.tables name t)),
        (
          tells-map catalog_refusal BadSchema (λ x f. cc f) (broken_rule columns key (repeats is_same_name references)),
          (
            tells-map catalog_refusal NoTable (λ x f. cc f) (find (is_missing s t) references),
            (
              tells-map catalog_refusal IsOffline (λ x f. cc f) (find (is_offline_at s t) references),
              (tells-if catalog_refusal TooManyTables (λ f. cc f) (nat_le s.limit (length s.tables)), tt),
            ),
          ),
        ),
      ),
    ) e

pub table-untaken : (s : Schemas) (t : Time) (name : List ℕ × List ℕ) (columns : List (List ℕ × Kind)) (key : List (List ℕ × Bool)) (references : List (List ℕ × List ℕ)) → table_fault s t name columns key references ≡ None → place_named s.tables name t ≡ None
unfolding table_fault
table-untaken s t name columns key references e =
    let a = fault-parts (fault_if (not (has_database s name.0)) (NoSuchDatabase name.0)) _ e in
    let b = fault-parts (fault_if (is_some (place_named s.tables name t)) (NameTaken name)) _ a.1 in
    not-some (place_named s.tables name t) (fault-off (is_some (place_named s.tables name t)) (NameTaken name) b.0)

taken-tells : (s : Schemas) (t : Time) (d : Schema) (change : Change) → Tells catalog_refusal (taken_name s t d change)
taken-tells s t d (Add name kind) e = refl
taken-tells s t d (Remove name) e = refl
taken-tells s t d (Renamed from to) e = refl
taken-tells s t d (Rename to) e = tells-if catalog_refusal (NameTaken (d.database, to)) (λ f. cc f) (is_some (place_named s.tables (d.database, to) t)) e
taken-tells s t d (Become state) e = refl

no-rule : (r : Option ℕ) → schema_fault r ≡ None → r ≡ None
no-rule None e = refl
no-rule (Some w) e = cc e

pub change-fine : (s : Schemas) (t : Time) (d : Schema) (change : Change) → catalog_refusal (change_fault s t d change) ≡ None → (bad_change d change ≡ None) × (taken_name s t d change ≡ None)
unfolding change_fault
change-fine s t d change e =
    let none = told-catalog (schema_fault (bad_change d change) ∷ taken_name s t d change ∷ []) (tells-map catalog_refusal BadSchema (λ x f. cc f) (bad_change d change), (taken-tells s t d change, tt)) e in
    let a = fault-parts (schema_fault (bad_change d change)) _ none in
    let b = fault-parts (taken_name s t d change) _ a.1 in
    (no-rule (bad_change d change) a.0, b.0)

pub rows-tell : (d : Schema) (rows : List (List Datum)) → Tells rows_refusal (rows_fault d rows)
unfolding rows_fault
rows-tell d rows e = told-rows (wrong_fault (wrong_row d rows) ∷ large_fault (large_row d rows) ∷ repeated_fault (repeated_row d rows) ∷ []) (tells-map rows_refusal (λ p. WrongRow p.0 p.1) (λ x f. cc f) (wrong_row d rows), (tells-map rows_refusal TooLarge (λ x f. cc f) (large_row d rows), (tells-map rows_refusal DuplicateKey (λ x f. cc f) (repeated_row d rows), tt))) e

pub keys-tell : (d : Schema) (keys : List Key) → Tells rows_refusal (keys_fault d keys)
unfolding keys_fault
keys-tell d keys e = told-rows (wrong_fault (wrong_key d keys) ∷ large_fault (large_key d keys) ∷ repeated_fault (repeated_key d keys) ∷ []) (tells-map rows_refusal (λ p. WrongRow p.0 p.1) (λ x f. cc f) (wrong_key d keys), (tells-map rows_refusal TooLarge (λ x f. cc f) (large_key d keys), (tells-map rows_refusal DuplicateKey (λ x f. cc f) (repeated_key d keys), tt))) e

pub range-tell : (d : Schema) (lo hi : Key) → Tells rows_refusal (range_fault d lo hi)
unfolding range_fault
range-tell d lo hi e = told-rows (wrong_fault (wrong_key d (lo ∷ hi ∷ [])) ∷ large_fault (large_key d (lo ∷ hi ∷ [])) ∷ (if is_empty_range d lo hi then Some EmptyRange else None) ∷ []) (tells-map rows_refusal (λ p. WrongRow p.0 p.1) (λ x f. cc f) (wrong_key d (lo ∷ hi ∷ [])), (tells-map rows_refusal TooLarge (λ x f. cc f) (large_key d (lo ∷ hi ∷ [])), (tells-if rows_refusal EmptyRange (λ f. cc f) (is_empty_range d lo hi), tt))) e

-- ---- names

pub named-parts : (name : List ℕ × List ℕ) (d : Schema) → has_name name d ≡ true → (d.database ≡ name.0) × (d.name ≡ name.1)
named-parts name d e =
    let a = both_true (bytes_eq d.database name.0 && bytes_eq d.name name.1) (not (is_dropped d.state)) e in
    let b = both_true (bytes_eq d.database name.0) (bytes_eq d.name name.1) a.0 in
    ((bytes_eq-Decides d.database name.0).0 b.0, (bytes_eq-Decides d.name name.1).0 b.1)

-- what has the name of a descriptor is free where that name is
pub free-by : (tables : List Table) (t : Time) (d : Schema) → IsFree tables t (d.database, d.name) → (name : List ℕ × List ℕ) → has_name name d ≡ true → IsFree tables t name
free-by tables t d free name e =
    let p = named-parts name d e in
    subst (λ a. IsFree tables t (a, name.1)) p.0 (subst (λ b. IsFree tables t (d.database, b)) p.1 free)

pub force-has : (ds : List Schema) (t : Time) (d : Schema) → in_force ds t ≡ Some d → Has d ds
force-has ds t d e = reverse-has ds d (find-has (λ (x : Schema). time_le x.modified t) _ d e)

-- ---- changes

-- names that come in a change are names, and no other state comes but that the table is dropped
unfoldable pub IsTypedChange : Change → Type 0
IsTypedChange (Add name kind) = IsName name
IsTypedChange (Remove name) = Unit {0}
IsTypedChange (Renamed from to) = IsName to
IsTypedChange (Rename to) = IsName to
IsTypedChange (Become state) = is_dropped state ≡ true

pub drop-typed : IsTypedChange (Become Dropped)
unfolding IsTypedChange
drop-typed = refl

abbrev all-named : List Column → Bool
all-named cs = list_all (λ (c : Column). is_name c.name) cs

named-push : (cs : List Column) (c : Column) → all-named cs ≡ true → is_name c.name ≡ true → all-named (cs ++ c ∷ []) ≡ true
named-push [] c all is = rw is refl
named-push (x ∷ xs) c all is = let p = both_true (is_name x.name) (all-named xs) all in rw p.0 (named-push xs c p.1 is)

named-filter : (f : Column → Bool) (cs : List Column) → all-named cs ≡ true → all-named (filter f cs) ≡ true
named-filter f [] all = refl
named-filter f (x ∷ xs) all =
    let p = both_true (is_name x.name) (all-named xs) all in
    elim (cases_Bool (f x)) [ inl t ↦ rw (t, p.0) (named-filter f xs p.1) | inr e ↦ rw e (named-filter f xs p.1) ]

named-map : (from to : List ℕ) (cs : List Column) → is_name to ≡ true → all-named cs ≡ true → all-named (map (renamed from to) cs) ≡ true
named-map from to [] is all = refl
named-map from to (x ∷ xs) is all =
    let p = both_true (is_name x.name) (all-named xs) all in
    elim (cases_Bool (bytes_eq x.name from)) [ inl t ↦ rw (t, is) (named-map from to xs is p.1) | inr e ↦ rw (e, p.0) (named-map from to xs is p.1) ]

pub columns-named : (d : Schema) (change : Change) → IsProperSchema d → IsTypedChange change → all-named (columns_after d change) ≡ true
unfolding IsTypedChange
columns-named d (Add name kind) proper typed = named-push d.columns _ proper.columns.named typed
columns-named d (Remove name) proper typed = named-filter _ d.columns proper.columns.named
columns-named d (Renamed from to) proper typed = named-map from to d.columns typed proper.columns.named
columns-named d (Rename to) proper typed = proper.columns.named
columns-named d (Become state) proper typed = proper.columns.named

pub name-named : (d : Schema) (change : Change) → IsProperSchema d → IsTypedChange change → is_name (name_after d change) ≡ true
unfolding IsTypedChange
name-named d (Add name kind) proper typed = proper.name
name-named d (Remove name) proper typed = proper.name
name-named d (Renamed from to) proper typed = proper.name
name-named d (Rename to) proper typed = typed
name-named d (Become state) proper typed = proper.name

-- the name of a changed table is its own, or free
pub own-name : (tables : List Table) (t : Time) (ds : List Schema) (limit : ℕ) (databases : List (List ℕ)) (d : Schema) (change : Change) → in_force ds t ≡ Some d → IsTypedChange change → taken_name (record { databases = databases; tables = schemas_of tables; limit = limit }) t d change ≡ None
    → (name : List ℕ × List ℕ) → has_name name (changed_schema d change t) ≡ true → (is_named name t ds ≡ true) ⊎ IsFree tables t name
unfolding changed_schema IsTypedChange
own-name tables t ds limit databases d (Add column kind) force typed free name e = inl (ap (λ o. unwrap_or (option_map (has_name name) o) false) force ∙ e)
own-name tables t ds limit databases d (Remove column) force typed free name e = inl (ap (λ o. unwrap_or (option_map (has_name name) o) false) force ∙ e)
own-name tables t ds limit databases d (Renamed from to) force typed free name e = inl (ap (λ o. unwrap_or (option_map (has_name name) o) false) force ∙ e)
own-name tables t ds limit databases d (Rename to) force typed free name e =
    let none = not-some (place_named (schemas_of tables) (d.database, to) t) (fault-off (is_some (place_named (schemas_of tables) (d.database, to) t)) (NameTaken (d.database, to)) free) in
    inr (free-by tables t (changed_schema d (Rename to) t) (free-names tables t (d.database, to) none) name e)
own-name tables t ds limit databases d (Become state) force typed free name e =
    let alive = and-right (bytes_eq d.database name.0 && bytes_eq d.name name.1) (not (is_dropped state)) e in
    absurd (let no : false ≡ true = sym (ap not typed) ∙ alive in cc no)

pub next-version : (d : Schema) (change : Change) (t : Time) → (changed_schema d change t).version ≡ d.version + 1
unfolding changed_schema
next-version d change t = refl

pub same-id : (d : Schema) (change : Change) (t : Time) → (changed_schema d change t).id ≡ d.id
unfolding changed_schema
same-id d change t = refl

pub same-table : (d : Schema) (change : Change) (t : Time) → IsProperSchema d → bad_change d change ≡ None → IsSameTable d (changed_schema d change t)
unfolding changed_schema
same-table d change t proper fine = record { database = refl; key_columns = refl; kinds = kinds-kept d change t proper fine }

-- ---- a new table

pub numbered-named : (k : ℕ) (columns : List (List ℕ × Kind)) → AreColumns columns → all-named (numbered k columns) ≡ true
numbered-named k [] all = refl
numbered-named k (c ∷ cs) all = rw all.0 (numbered-named (k + 1) cs all.1)

pub new-id : (id : ℕ) (database name : List ℕ) (columns : List (List ℕ × Kind)) (key : List (List ℕ × Bool)) (references : List ℕ) (t : Time) → (new_schema id database name columns key references t).id ≡ id
unfolding new_schema
new-id id database name columns key references t = refl

pub new-version : (id : ℕ) (database name : List ℕ) (columns : List (List ℕ × Kind)) (key : List (List ℕ × Bool)) (references : List ℕ) (t : Time) → (new_schema id database name columns key references t).version ≡ 1
unfolding new_schema
new-version id database name columns key references t = refl

pub new-free : (tables : List Table) (u : Time) (id : ℕ) (name : List ℕ × List ℕ) (columns : List (List ℕ × Kind)) (key : List (List ℕ × Bool)) (references : List ℕ) (t : Time) → IsFree tables u name
    → let d = new_schema id name.0 name.1 columns key references t in IsFree tables u (d.database, d.name)
unfolding new_schema
new-free tables u id name columns key references t free = free
