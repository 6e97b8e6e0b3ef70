-- Every descriptor that is made or changed is a proper one.
use Rattle.std.proofs.Common.{◌≡◌, ℕ, suc, ◌+◌, ◌<◌, ◌≤◌, ◌^◌, Bool, true, false, List, [], ◌∷◌, ◌++◌, length, map, nat_eq, nat_lt, nat_le, Option, Some, None, inl, inr, arith, refl, sym, ap, ◌∙◌, length-append}
use Rattle.std.proofs.lemmas.List.{length-map}
use Rattle.std.specs.Prelude.{◌&&◌, ◌||◌, not, filter, if◌then◌else◌, ◌==◌}
use Rattle.std.specs.List.{list_any, list_all, position_or_len}
use Rattle.std.specs.Str.{bytes_eq}
use Rattle.std.proofs.lemmas.Bool.{cases_Bool}
use Rattle.std.proofs.lemmas.Bool.Decides.{nat_tests}
use Rattle.std.proofs.lemmas.Slice.Eq.{bytes_eq-Decides}
use Rattle.std.proofs.lemmas.List.Folds.{list_any-append, list_all-append}
use Rattle.mvcc_keys.specs.Times.{Time, IsTime}
use Rattle.row_codec.specs.declared.rows.Kind.{Kind}
use Rattle.row_codec.specs.declared.rows.Kind.TheVariants.{Int, Text, Bytes, Bool as Truth, IntDown, TextDown, BytesDown, BoolDown}
use Rattle.row_codec.proofs.KeyOrder.{both_true}
use Rattle.table_descriptors.specs.Names.{is_name}
use Rattle.table_descriptors.specs.Fields.{is_id}
use Rattle.table_descriptors.specs.Descriptors.{Schema, repeats, repeats_column, repeats_key_column, repeats_id, are_columns, bad_schema, upright, is_upright, numbered, id_of, key_ids, down_ids, new_schema, last_key, ascends, column_id, same_name, has_id, is_column, AreProperColumns, IsProperSchema, has_column, is_key_name, bad_change, renamed, columns_after, next_after, name_after, changed_schema}
use Rattle.table_descriptors.specs.DescriptorFiles.{directed, key_id, down_of}
use Rattle.table_descriptors.specs.declared.changes.Change.{Change}
use Rattle.table_descriptors.specs.declared.changes.Change.TheVariants.{Add, Remove, RenameColumn, Rename, Become}
use Rattle.table_descriptors.specs.declared.columns.Column.{Column}
use Rattle.table_descriptors.proofs.ListLaws.{last-below, last-push, last-cons, list_all-weaker, eq-flip, bytes_eq-flip, each-push, each-ascends, ascends-each, each-new, differs-each, is_again}
use Rattle.list_laws.proofs.Bools.{or-neither, or-left, or-right}
use Rattle.list_laws.proofs.Filters.{filter-fewer}

-- ---- new columns

numbered-ascend : (n : ℕ) (cs : List (List ℕ × Kind)) → ascends column_id n (numbered (n + 1) cs) ≡ true
numbered-ascend n [] = refl
numbered-ascend n (c ∷ cs) = let up : nat_lt n (n + 1) ≡ true = grind (arith, nat_tests) in rw up (numbered-ascend (n + 1) cs)

numbered-below : (n m : ℕ) (cs : List (List ℕ × Kind)) → n + length cs ≤ m → list_all (λ (c : Column). nat_lt (column_id c) m) (numbered n cs) ≡ true
numbered-below n m [] h = refl
numbered-below n m (c ∷ cs) h = let up : nat_lt n m ≡ true = grind (arith, nat_tests) in rw up (numbered-below (n + 1) m cs (omega arith))

numbered-length : (n : ℕ) (cs : List (List ℕ × Kind)) → length (numbered n cs) ≡ length cs
numbered-length n [] = refl
numbered-length n (c ∷ cs) = ap (λ k. suc k) (numbered-length (n + 1) cs)

numbered-any : (f : List ℕ → Bool) (n : ℕ) (cs : List (List ℕ × Kind)) → list_any (λ (c : Column). f c.name) (numbered n cs) ≡ list_any (λ c. f c.0) cs
numbered-any f n [] = refl
numbered-any f n (c ∷ cs) = ap (λ b. f c.0 || b) (numbered-any f (n + 1) cs)

numbered-differ : (n : ℕ) (cs : List (List ℕ × Kind)) → repeats same_name (numbered n cs) ≡ repeats_column cs
numbered-differ n [] = refl
numbered-differ n (c ∷ cs) = rw (numbered-any (λ name. bytes_eq name c.0) (n + 1) cs, numbered-differ (n + 1) cs) refl

upright-is : (k : Kind) → is_upright (upright k) ≡ true
upright-is Int = refl
upright-is Text = refl
upright-is Bytes = refl
upright-is Truth = refl
upright-is IntDown = refl
upright-is TextDown = refl
upright-is BytesDown = refl
upright-is BoolDown = refl

numbered-kinds : (n : ℕ) (cs : List (List ℕ × Kind)) → list_all (λ (c : Column). is_upright c.kind) (numbered n cs) ≡ true
numbered-kinds n [] = refl
numbered-kinds n (c ∷ cs) = rw (upright-is c.1) (numbered-kinds (n + 1) cs)

-- ---- key columns

-- the place of a column that is there
abbrev place : List ℕ → List (List ℕ × Kind) → ℕ
place name cs = position_or_len (λ c. bytes_eq c.0 name) cs

abbrev has : List ℕ → List (List ℕ × Kind) → Bool
has name cs = list_any (λ c. bytes_eq c.0 name) cs

place-within : (name : List ℕ) (cs : List (List ℕ × Kind)) → has name cs ≡ true → place name cs < length cs
place-within name [] h = absurd (cc)
place-within name (c ∷ cs) h =
    elim (cases_Bool (bytes_eq c.0 name)) [
      | inl t ↦ rw t (omega arith)
      | inr f ↦ let rest = place-within name cs (rw f at h) in rw f (omega arith)
    ]

id_of-place : (name : List ℕ) (cs : List (List ℕ × Kind)) → has name cs ≡ true → id_of cs name ≡ place name cs + 1
id_of-place name cs h = let within = place-within name cs h in let yes : nat_lt (place name cs) (length cs) ≡ true = grind (arith, nat_tests) in rw yes refl

place-is : (name : List ℕ) (n m : ℕ) (cs : List (List ℕ × Kind)) → has name cs ≡ true → m ≡ place name cs + n → is_column m (numbered n cs) ≡ true
place-is name n m [] h e = absurd (cc)
place-is name n m (c ∷ cs) h e =
    elim (cases_Bool (bytes_eq c.0 name)) [
      | inl t ↦ let e' = rw t at e in let same : nat_eq n m ≡ true = grind (arith, nat_tests) in rw same refl
      | inr f ↦ let e' = rw f at e in or-right (nat_eq n m) (is_column m (numbered (n + 1) cs)) (place-is name (n + 1) m cs (rw f at h) (omega arith))
    ]

same-place : (a b : List ℕ) (cs : List (List ℕ × Kind)) → has a cs ≡ true → has b cs ≡ true → place a cs ≡ place b cs → a ≡ b
same-place a b [] ha hb e = absurd (cc)
same-place a b (c ∷ cs) ha hb e =
    elim (cases_Bool (bytes_eq c.0 a)) [
      | inl s ↦ elim (cases_Bool (bytes_eq c.0 b)) [
        | inl t ↦ sym ((bytes_eq-Decides c.0 a).0 s) ∙ (bytes_eq-Decides c.0 b).0 t
        | inr t ↦ let e' = rw (s, t) at e in absurd (omega arith)
      ]
      | inr s ↦ elim (cases_Bool (bytes_eq c.0 b)) [
        | inl t ↦ let e' = rw (s, t) at e in absurd (omega arith)
        | inr t ↦ let e' = rw (s, t) at e in same-place a b cs (rw s at ha) (rw t at hb) (omega arith)
      ]
    ]

abbrev Keys : Type 0
Keys = List (List ℕ × Bool)

pub ids-are : (cs : List (List ℕ × Kind)) (key : Keys) → are_columns cs key ≡ true → list_all (λ id. is_column id (numbered 1 cs)) (key_ids cs key) ≡ true
ids-are cs [] h = refl
ids-are cs (k ∷ key) h =
    let parts = both_true (has k.0 cs) (are_columns cs key) h in
    rw (place-is k.0 1 (id_of cs k.0) cs parts.0 (id_of-place k.0 cs parts.0)) (ids-are cs key parts.1)

id-new : (cs : List (List ℕ × Kind)) (k : List ℕ × Bool) (key : Keys) → has k.0 cs ≡ true → are_columns cs key ≡ true → list_any (λ y. bytes_eq y.0 k.0) key ≡ false → has_id (id_of cs k.0) (key_ids cs key) ≡ false
id-new cs k [] hk h r = refl
id-new cs k (y ∷ key) hk h r =
    let parts = both_true (has y.0 cs) (are_columns cs key) h in
    let other = or-neither (bytes_eq y.0 k.0) (list_any (λ z. bytes_eq z.0 k.0) key) r in
    elim (cases_Bool (id_of cs y.0 == id_of cs k.0)) [
      | inl t ↦
          let same : id_of cs y.0 ≡ id_of cs k.0 = grind (arith, nat_tests) in
          let at : place y.0 cs ≡ place k.0 cs = omega (arith, id_of-place y.0 cs parts.0, id_of-place k.0 cs hk, same) in
          let eq = (bytes_eq-Decides y.0 k.0).1 (same-place y.0 k.0 cs parts.0 hk at) in
          absurd (cc)
      | inr f ↦ rw f (id-new cs k key hk parts.1 other.1)
    ]

pub ids-differ : (cs : List (List ℕ × Kind)) (key : Keys) → are_columns cs key ≡ true → repeats_key_column key ≡ false → repeats_id (key_ids cs key) ≡ false
ids-differ cs [] h r = refl
ids-differ cs (k ∷ key) h r =
    let parts = both_true (has k.0 cs) (are_columns cs key) h in
    let other = or-neither (list_any (λ y. bytes_eq y.0 k.0) key) (repeats_key_column key) r in
    rw (id-new cs k key parts.0 parts.1 other.0) (ids-differ cs key parts.1 other.1)

-- ---- directions

down-absent : (id : ℕ) (ks : List (ℕ × Bool)) → has_id id (map key_id ks) ≡ false → has_id id (down_of ks) ≡ false
down-absent id [] h = refl
down-absent id ((i, false) ∷ ks) h = down-absent id ks (or-neither (i == id) (has_id id (map key_id ks)) h).1
down-absent id ((i, true) ∷ ks) h = let parts = or-neither (i == id) (has_id id (map key_id ks)) h in rw parts.0 (down-absent id ks parts.1)

directed-more : (i : ℕ) (down ids : List ℕ) → has_id i ids ≡ false → directed (i ∷ down) ids ≡ directed down ids
directed-more i down [] h = refl
directed-more i down (j ∷ ids) h =
    let parts = or-neither (j == i) (has_id i ids) h in
    let other : (i == j) ≡ false = eq-flip j i ∙ parts.0 in
    rw (other, directed-more i down ids parts.1) refl

-- key columns that differ have the directions that they came with
pub directed-down : (ks : List (ℕ × Bool)) → repeats_id (map key_id ks) ≡ false → directed (down_of ks) (map key_id ks) ≡ ks
directed-down [] h = refl
directed-down ((i, false) ∷ ks) h =
    let parts = or-neither (has_id i (map key_id ks)) (repeats_id (map key_id ks)) h in
    rw (down-absent i ks parts.0, directed-down ks parts.1) refl
directed-down ((i, true) ∷ ks) h =
    let parts = or-neither (has_id i (map key_id ks)) (repeats_id (map key_id ks)) h in
    let same : (i == i) ≡ true = grind (arith, nat_tests) in
    rw (same, directed-more i (down_of ks) (map key_id ks) parts.0, directed-down ks parts.1) refl

pub down-directed : (down ids : List ℕ) → down_of (directed down ids) ≡ filter (λ id. has_id id down) ids
down-directed down [] = refl
down-directed down (i ∷ ids) = elim (cases_Bool (has_id i down)) [ inl t ↦ rw (t, down-directed down ids) refl | inr f ↦ rw (f, down-directed down ids) refl ]

pub directed-ids : (down ids : List ℕ) → map key_id (directed down ids) ≡ ids
directed-ids down [] = refl
directed-ids down (i ∷ ids) = ap (λ xs. i ∷ xs) (directed-ids down ids)

-- the key columns of a new table
abbrev new_keys : List (List ℕ × Kind) → Keys → List (ℕ × Bool)
new_keys cs key = map (λ k. (id_of cs k.0, k.1)) key

new_keys-ids : (cs : List (List ℕ × Kind)) (key : Keys) → map key_id (new_keys cs key) ≡ key_ids cs key
new_keys-ids cs [] = refl
new_keys-ids cs (k ∷ key) = ap (λ xs. id_of cs k.0 ∷ xs) (new_keys-ids cs key)

new_keys-down : (cs : List (List ℕ × Kind)) (key : Keys) → down_of (new_keys cs key) ≡ down_ids cs key
new_keys-down cs [] = refl
new_keys-down cs ((k, true) ∷ key) = ap (λ xs. id_of cs k ∷ xs) (new_keys-down cs key)
new_keys-down cs ((k, false) ∷ key) = new_keys-down cs key

-- the descending ones of key columns that differ, in key order
pub down-kept : (ks : List (ℕ × Bool)) → repeats_id (map key_id ks) ≡ false → filter (λ id. has_id id (down_of ks)) (map key_id ks) ≡ down_of ks
down-kept ks h = sym (down-directed (down_of ks) (map key_id ks)) ∙ ap down_of (directed-down ks h)

new_down : (cs : List (List ℕ × Kind)) (key : Keys) → repeats_id (key_ids cs key) ≡ false → filter (λ id. has_id id (down_ids cs key)) (key_ids cs key) ≡ down_ids cs key
new_down cs key h =
    let kept = down-kept (new_keys cs key) (rw (new_keys-ids cs key) h) in
    rw (new_keys-down cs key, new_keys-ids cs key) at kept

-- ---- new tables

pub record Allowed (columns : List (List ℕ × Kind)) (key : Keys) (references : List ℕ) : Type 0 where
  pub differ : repeats_column columns ≡ false
  pub are : are_columns columns key ≡ true
  pub once : repeats_key_column key ≡ false
  pub few : length columns ≤ 64
  pub others : repeats_id references ≡ false

-- a new table that breaks no rule
allowed : (columns : List (List ℕ × Kind)) (key : Keys) (references : List ℕ) → bad_schema columns key references ≡ None → Allowed columns key references
allowed columns key references h =
    elim (cases_Bool (repeats_column columns)) [
      | inl t ↦ let e = rw t at h in absurd (cc)
      | inr f1 ↦ elim (cases_Bool (are_columns columns key)) [
        | inr t ↦ let e = rw (f1, t) at h in absurd (cc)
        | inl f2 ↦ elim (cases_Bool (repeats_key_column key)) [
          | inl t ↦ let e = rw (f1, f2, t) at h in absurd (cc)
          | inr f3 ↦ elim (cases_Bool (nat_lt 64 (length columns))) [
            | inl t ↦ let e = rw (f1, f2, f3, t) at h in absurd (cc)
            | inr f4 ↦ elim (cases_Bool (repeats_id references)) [
              | inl t ↦ let e = rw (f1, f2, f3, f4, t) at h in absurd (cc)
              | inr f5 ↦ record { differ = f1; are = f2; once = f3; few = grind (arith, nat_tests); others = f5 }
            ]
          ]
        ]
      ]
    ]

some-columns : (columns : List (List ℕ × Kind)) (key : Keys) → are_columns columns key ≡ true → 0 < length key → 0 < length columns
some-columns [] [] h s = s
some-columns [] (k ∷ key) h s = absurd (cc)
some-columns (c ∷ columns) key h s = omega arith

new_columns-proper : (columns : List (List ℕ × Kind)) → 0 < length columns → length columns ≤ 64 → repeats_column columns ≡ false → list_all (λ (c : Column). is_name c.name) (numbered 1 columns) ≡ true → AreProperColumns (numbered 1 columns)
new_columns-proper columns some few differ named = record {
  some = rw (numbered-length 1 columns) some;
  few = rw (numbered-length 1 columns) few;
  ascend = numbered-ascend 0 columns;
  named = named;
  differ = numbered-differ 1 columns ∙ differ;
  kinds = numbered-kinds 1 columns;
}

pub new_schema-proper : (id : ℕ) (database name : List ℕ) (columns : List (List ℕ × Kind)) (key : Keys) (references : List ℕ) (at : Time)
    → id < 2 ^ 32 → is_name database ≡ true → is_name name ≡ true → bad_schema columns key references ≡ None → 0 < length key
    → list_all (λ (c : Column). is_name c.name) (numbered 1 columns) ≡ true → list_all is_id references ≡ true → IsTime at
    → IsProperSchema (new_schema id database name columns key references at)
unfolding new_schema
new_schema-proper id database name columns key references at hid hd hn bad some named refs time =
    let a = allowed columns key references bad in
    let differ = ids-differ columns key a.are a.once in
    record {
      id = hid;
      from_one = omega arith;
      version = omega arith;
      database = hd;
      name = hn;
      columns = new_columns-proper columns (some-columns columns key a.are some) a.few a.differ named;
      key = rw (length-map key (λ (k : List ℕ × Bool). id_of columns k.0)) some;
      key_columns = ids-are columns key a.are;
      differ = differ;
      references = refs;
      once = a.others;
      next = last-below column_id (length columns + 1) (numbered 1 columns) (omega arith) (numbered-below 1 (length columns + 1) columns (omega arith));
      next_column = let few = a.few in omega arith;
      modified = time;
      down = new_down columns key differ;
    }

-- ---- changes

all-filter : {X : Type 0} (f p : X → Bool) (xs : List X) → list_all f xs ≡ true → list_all f (filter p xs) ≡ true
all-filter f p [] h = refl
all-filter f p (x ∷ xs) h =
    let parts = both_true (f x) (list_all f xs) h in
    elim (cases_Bool (p x)) [ inl t ↦ rw (t, parts.0) (all-filter f p xs parts.1) | inr n ↦ rw n (all-filter f p xs parts.1) ]

none-filter : {X : Type 0} (f p : X → Bool) (xs : List X) → list_any f xs ≡ false → list_any f (filter p xs) ≡ false
none-filter f p [] h = refl
none-filter f p (x ∷ xs) h =
    let parts = or-neither (f x) (list_any f xs) h in
    elim (cases_Bool (p x)) [ inl t ↦ rw (t, parts.0) (none-filter f p xs parts.1) | inr n ↦ rw n (none-filter f p xs parts.1) ]

repeats-filter : {X : Type 0} (same : X → X → Bool) (p : X → Bool) (xs : List X) → repeats same xs ≡ false → repeats same (filter p xs) ≡ false
repeats-filter same p [] h = refl
repeats-filter same p (x ∷ xs) h =
    let parts = or-neither (list_any (λ y. same y x) xs) (repeats same xs) h in
    elim (cases_Bool (p x)) [ inl t ↦ rw (t, none-filter (λ y. same y x) p xs parts.0) (repeats-filter same p xs parts.1) | inr n ↦ rw n (repeats-filter same p xs parts.1) ]

ascends-lower : {X : Type 0} (key : X → ℕ) (n m : ℕ) (xs : List X) → n ≤ m → ascends key m xs ≡ true → ascends key n xs ≡ true
ascends-lower key n m [] le h = refl
ascends-lower key n m (x ∷ xs) le h =
    let parts = both_true (nat_lt m (key x)) (ascends key (key x) xs) h in
    let up : nat_lt n (key x) ≡ true = let a = parts.0 in grind (arith, nat_tests) in
    rw up parts.1

ascends-filter : {X : Type 0} (key : X → ℕ) (n : ℕ) (p : X → Bool) (xs : List X) → ascends key n xs ≡ true → ascends key n (filter p xs) ≡ true
ascends-filter key n p [] h = refl
ascends-filter key n p (x ∷ xs) h =
    let parts = both_true (nat_lt n (key x)) (ascends key (key x) xs) h in
    elim (cases_Bool (p x)) [
      | inl t ↦ rw (t, parts.0) (ascends-filter key (key x) p xs parts.1)
      | inr f ↦ let le : n ≤ key x = let a = parts.0 in grind (arith, nat_tests) in rw f (ascends-filter key n p xs (ascends-lower key n (key x) xs le parts.1))
    ]

-- columns of a proper list under a change that keeps those of the key
record Follows (columns : List Column) (next : ℕ) (key : List ℕ) : Type 0 where
  proper : AreProperColumns columns
  there : list_all (λ id. is_column id columns) key ≡ true
  below : last_key column_id columns < next

follows-proper : (d : Schema) (change : Change) (at : Time) → IsProperSchema d → d.version < 4294967295 → Follows (columns_after d change) (next_after d change) d.key_columns
    → next_after d change < 2 ^ 32 → is_name (name_after d change) ≡ true → IsTime at → IsProperSchema (changed_schema d change at)
unfolding changed_schema
follows-proper d change at h v f next name time = record {
  id = h.id;
  from_one = omega arith;
  version = omega arith;
  database = h.database;
  name = name;
  columns = f.proper;
  key = h.key;
  key_columns = f.there;
  differ = h.differ;
  references = h.references;
  once = h.once;
  next = f.below;
  next_column = next;
  modified = time;
  down = h.down;
}

-- ---- an added column

column-more : (id : ℕ) (columns : List Column) (c : Column) → is_column id columns ≡ true → is_column id (columns ++ c ∷ []) ≡ true
column-more id columns c h = list_any-append (λ (e : Column). e.id == id) columns (c ∷ []) ∙ or-left (is_column id columns) (is_column id (c ∷ [])) h

abbrev added : ℕ → List ℕ → Kind → Column
added id name kind = record { id = id; name = name; kind = upright kind }

flip-name : (x y : Column) → same_name y x ≡ same_name x y
flip-name x y = bytes_eq-flip x.name y.name

add-follows : (columns : List Column) (key : List ℕ) (next : ℕ) (name : List ℕ) (kind : Kind) → AreProperColumns columns → list_all (λ id. is_column id columns) key ≡ true → last_key column_id columns < next
    → length columns < 64 → has_column name columns ≡ false → list_all (λ (c : Column). is_name c.name) (columns ++ added next name kind ∷ []) ≡ true → Follows (columns ++ added next name kind ∷ []) (next + 1) key
add-follows columns key next name kind h there below few new named =
    let c : Column = added next name kind in
    let up : nat_lt (last_key column_id columns) next ≡ true = grind (arith, nat_tests) in
    record {
      proper = record {
        some = omega (arith, length-append columns (c ∷ []));
        few = omega (arith, length-append columns (c ∷ []));
        ascend = ascends-each column_id [] (columns ++ c ∷ []) (each-push (λ b (x : Column). nat_lt (last_key column_id b) (column_id x) ≡ true) [] columns c (each-ascends column_id [] columns h.ascend) up);
        named = named;
        differ = (differs-each same_name (λ y x. bytes_eq y.name x.name) flip-name [] (columns ++ c ∷ []) (each-push (λ b (x : Column). is_again (λ y z. bytes_eq y.name z.name) b x ≡ false) [] columns c
            (each-new same_name (λ y x. bytes_eq y.name x.name) flip-name columns h.differ) new)).0;
        kinds = rw (list_all-append (λ (e : Column). is_upright e.kind) columns (c ∷ []), h.kinds, upright-is kind) refl;
      };
      there = list_all-weaker (λ id. is_column id columns) (λ id. is_column id (columns ++ c ∷ [])) (λ id is. column-more id columns c is) key there;
      below = rw (last-push column_id columns c) (omega arith);
    }

-- ---- a column that is dropped

all-have : (ids ks : List ℕ) → ((id : ℕ) → has_id id ks ≡ true → has_id id ids ≡ true) → list_all (λ id. has_id id ids) ks ≡ true
all-have ids [] h = refl
all-have ids (k ∷ ks) h =
    let same : (k == k) ≡ true = grind (arith, nat_tests) in
    rw (h k (rw same refl)) (all-have ids ks (λ id is. h id (or-right (k == id) (has_id id ks) is)))

all-both : {X : Type 0} (e f g : X → Bool) → ((x : X) → e x ≡ true → f x ≡ true → g x ≡ true) → (xs : List X) → list_all e xs ≡ true → list_all f xs ≡ true → list_all g xs ≡ true
all-both e f g w [] a b = refl
all-both e f g w (x ∷ xs) a b =
    let es = both_true (e x) (list_all e xs) a in
    let fs = both_true (f x) (list_all f xs) b in
    rw (w x es.0 fs.0) (all-both e f g w xs es.1 fs.1)

abbrev keeps : List ℕ → Column → Bool
keeps name c = not (bytes_eq c.name name)

key-kept : (name key : List ℕ) (columns : List Column) (id : ℕ) → list_any (λ (c : Column). bytes_eq c.name name && has_id c.id key) columns ≡ false → has_id id key ≡ true → is_column id columns ≡ true
    → is_column id (filter (keeps name) columns) ≡ true
key-kept name key [] id none has there = absurd (cc)
key-kept name key (c ∷ columns) id none has there =
    let parts = or-neither (bytes_eq c.name name && has_id c.id key) (list_any (λ (e : Column). bytes_eq e.name name && has_id e.id key) columns) none in
    elim (cases_Bool (bytes_eq c.name name)) [
      | inr f ↦ elim (cases_Bool (c.id == id)) [
        | inl s ↦ rw (f, s) refl
        | inr s ↦ rw (f, s) (key-kept name key columns id parts.1 has (rw s at there))
      ]
      | inl t ↦
          let not_key : has_id c.id key ≡ false = rw t at parts.0 in
          elim (cases_Bool (c.id == id)) [
            | inl s ↦ let is : c.id ≡ id = grind (arith, nat_tests) in let e = rw is at not_key in absurd (cc)
            | inr s ↦ rw t (key-kept name key columns id parts.1 has (rw s at there))
          ]
    ]

pub ascends-below : {X : Type 0} (key : X → ℕ) (n m : ℕ) (xs : List X) → ascends key n xs ≡ true → last_key key xs < m → list_all (λ x. nat_lt (key x) m) xs ≡ true
ascends-below key n m [] h l = refl
ascends-below key n m (x ∷ []) h l = let up : nat_lt (key x) m ≡ true = grind (arith, nat_tests) in rw up refl
ascends-below key n m (x ∷ y ∷ ys) h l =
    let parts = both_true (nat_lt n (key x)) (ascends key (key x) (y ∷ ys)) h in
    let rest = ascends-below key (key x) m (y ∷ ys) parts.1 (rw (last-cons key x y ys) at l) in
    let above = (both_true (nat_lt (key x) (key y)) (ascends key (key y) ys) parts.1).0 in
    let first = (both_true (nat_lt (key y) m) (list_all (λ z. nat_lt (key z) m) ys) rest).0 in
    let up : nat_lt (key x) m ≡ true = grind (arith, nat_tests) in
    rw up rest

some-there : (ids : List ℕ) (columns : List Column) → 0 < length ids → list_all (λ id. is_column id columns) ids ≡ true → 0 < length columns
some-there [] columns s h = absurd (omega arith)
some-there (id ∷ ids) [] s h = absurd (cc)
some-there (id ∷ ids) (c ∷ columns) s h = omega arith

drop-follows : (columns : List Column) (key : List ℕ) (next : ℕ) (name : List ℕ) → AreProperColumns columns → 0 < length key → list_all (λ id. is_column id columns) key ≡ true → last_key column_id columns < next
    → list_any (λ (c : Column). bytes_eq c.name name && has_id c.id key) columns ≡ false → Follows (filter (keeps name) columns) next key
drop-follows columns key next name h some there below none =
    let kept = all-both (λ id. has_id id key) (λ id. is_column id columns) (λ id. is_column id (filter (keeps name) columns)) (λ id has is. key-kept name key columns id none has is) key (all-have key key (λ id is. is)) there in
    record {
      proper = record {
        some = some-there key (filter (keeps name) columns) some kept;
        few = let fewer = filter-fewer (keeps name) columns in let most = h.few in omega arith;
        ascend = ascends-filter column_id 0 (keeps name) columns h.ascend;
        named = all-filter (λ (c : Column). is_name c.name) (keeps name) columns h.named;
        differ = repeats-filter same_name (keeps name) columns h.differ;
        kinds = all-filter (λ (c : Column). is_upright c.kind) (keeps name) columns h.kinds;
      };
      there = kept;
      below = last-below column_id next (filter (keeps name) columns) (omega arith) (all-filter (λ (c : Column). nat_lt (column_id c) next) (keeps name) columns (ascends-below column_id 0 next columns h.ascend below));
    }

-- ---- a column under another name

renamed-id : (from to : List ℕ) (c : Column) → (renamed from to c).id ≡ c.id
renamed-id from to c = elim (cases_Bool (bytes_eq c.name from)) [ inl t ↦ rw t refl | inr f ↦ rw f refl ]

renamed-kind : (from to : List ℕ) (c : Column) → (renamed from to c).kind ≡ c.kind
renamed-kind from to c = elim (cases_Bool (bytes_eq c.name from)) [ inl t ↦ rw t refl | inr f ↦ rw f refl ]

renamed-ascend : (from to : List ℕ) (n : ℕ) (columns : List Column) → ascends column_id n (map (renamed from to) columns) ≡ ascends column_id n columns
renamed-ascend from to n [] = refl
renamed-ascend from to n (c ∷ columns) = rw (renamed-id from to c, renamed-ascend from to c.id columns) refl

renamed-all : (f : Column → Bool) (from to : List ℕ) (columns : List Column) → ((c : Column) → f (renamed from to c) ≡ f c) → list_all f (map (renamed from to) columns) ≡ list_all f columns
renamed-all f from to [] h = refl
renamed-all f from to (c ∷ columns) h = rw (h c, renamed-all f from to columns h) refl

renamed-there : (from to : List ℕ) (id : ℕ) (columns : List Column) → is_column id (map (renamed from to) columns) ≡ is_column id columns
renamed-there from to id [] = refl
renamed-there from to id (c ∷ columns) = rw (renamed-id from to c, renamed-there from to id columns) refl

-- two columns of different names, of which none has the new one
renamed-apart : (from to : List ℕ) (y x : Column) → same_name y x ≡ false → bytes_eq y.name to ≡ false → bytes_eq x.name to ≡ false → same_name (renamed from to y) (renamed from to x) ≡ false
renamed-apart from to y x h ny nx =
    elim (cases_Bool (bytes_eq y.name from)) [
      | inl t ↦ elim (cases_Bool (bytes_eq x.name from)) [
        | inl s ↦
            let same : y.name ≡ x.name = (bytes_eq-Decides y.name from).0 t ∙ sym ((bytes_eq-Decides x.name from).0 s) in
            let e = (bytes_eq-Decides y.name x.name).1 same in
            absurd (cc)
        | inr s ↦ rw (t, s) (bytes_eq-flip x.name to ∙ nx)
      ]
      | inr t ↦ elim (cases_Bool (bytes_eq x.name from)) [ inl s ↦ rw (t, s) ny | inr s ↦ rw (t, s) h ]
    ]

renamed-none : (from to : List ℕ) (x : Column) (columns : List Column) → list_any (λ y. same_name y x) columns ≡ false → has_column to columns ≡ false → bytes_eq x.name to ≡ false
    → list_any (λ y. same_name y (renamed from to x)) (map (renamed from to) columns) ≡ false
renamed-none from to x [] h n nx = refl
renamed-none from to x (y ∷ columns) h n nx =
    let parts = or-neither (same_name y x) (list_any (λ z. same_name z x) columns) h in
    let others = or-neither (bytes_eq y.name to) (has_column to columns) n in
    rw (renamed-apart from to y x parts.0 others.0 nx) (renamed-none from to x columns parts.1 others.1 nx)

renamed-differ : (from to : List ℕ) (columns : List Column) → repeats same_name columns ≡ false → has_column to columns ≡ false → repeats same_name (map (renamed from to) columns) ≡ false
renamed-differ from to [] h n = refl
renamed-differ from to (x ∷ columns) h n =
    let parts = or-neither (list_any (λ z. same_name z x) columns) (repeats same_name columns) h in
    let others = or-neither (bytes_eq x.name to) (has_column to columns) n in
    rw (renamed-none from to x columns parts.0 others.1 others.0) (renamed-differ from to columns parts.1 others.1)

rename-follows : (columns : List Column) (key : List ℕ) (next : ℕ) (from to : List ℕ) → AreProperColumns columns → list_all (λ id. is_column id columns) key ≡ true → last_key column_id columns < next
    → has_column to columns ≡ false → list_all (λ (c : Column). is_name c.name) (map (renamed from to) columns) ≡ true → Follows (map (renamed from to) columns) next key
rename-follows columns key next from to h there below new named = record {
  proper = record {
    some = rw (length-map columns (renamed from to)) h.some;
    few = rw (length-map columns (renamed from to)) h.few;
    ascend = renamed-ascend from to 0 columns ∙ h.ascend;
    named = named;
    differ = renamed-differ from to columns h.differ new;
    kinds = renamed-all (λ (c : Column). is_upright c.kind) from to columns (λ c. ap is_upright (renamed-kind from to c)) ∙ h.kinds;
  };
  there = list_all-weaker (λ id. is_column id columns) (λ id. is_column id (map (renamed from to) columns)) (λ id is. renamed-there from to id columns ∙ is) key there;
  below = last-below column_id next (map (renamed from to) columns) (omega arith)
      (renamed-all (λ (c : Column). nat_lt (column_id c) next) from to columns (λ c. ap (λ n. nat_lt n next) (renamed-id from to c)) ∙ ascends-below column_id 0 next columns h.ascend below);
}

-- ---- every change

same-follows : (d : Schema) → IsProperSchema d → Follows d.columns d.next_column d.key_columns
same-follows d h = record { proper = h.columns; there = h.key_columns; below = h.next }

if-none : (b : Bool) (n : ℕ) (o : Option ℕ) → (if b then Some n else o) ≡ None → (b ≡ false) × (o ≡ None)
if-none true n o h = absurd (cc)
if-none false n o h = (refl, h)

pub changed-proper : (d : Schema) (change : Change) (at : Time) → IsProperSchema d → bad_change d change ≡ None → d.version < 4294967295
    → list_all (λ (c : Column). is_name c.name) (columns_after d change) ≡ true → is_name (name_after d change) ≡ true → IsTime at → IsProperSchema (changed_schema d change at)
changed-proper d (Add name kind) at h b v columns named time =
    let many = if-none (nat_le 64 (length d.columns)) 4 _ b in
    let taken = if-none (has_column name d.columns) 6 _ many.1 in
    let ids = if-none (nat_le 4294967295 d.next_column) 9 None taken.1 in
    let few : length d.columns < 64 = let a = many.0 in grind (arith, nat_tests) in
    let left : d.next_column < 4294967295 = let a = ids.0 in grind (arith, nat_tests) in
    follows-proper d (Add name kind) at h v (add-follows d.columns d.key_columns d.next_column name kind h.columns h.key_columns h.next few taken.0 columns) (omega arith) named time
changed-proper d (Remove name) at h b v columns named time =
    let key = if-none (is_key_name d name) 5 _ b in
    follows-proper d (Remove name) at h v (drop-follows d.columns d.key_columns d.next_column name h.columns h.key h.key_columns h.next key.0) h.next_column named time
changed-proper d (RenameColumn from to) at h b v columns named time =
    let taken = if-none (has_column to d.columns) 6 _ b in
    follows-proper d (RenameColumn from to) at h v (rename-follows d.columns d.key_columns d.next_column from to h.columns h.key_columns h.next taken.0 columns) h.next_column named time
changed-proper d (Rename to) at h b v columns named time = follows-proper d (Rename to) at h v (same-follows d h) h.next_column named time
changed-proper d (Become state) at h b v columns named time = follows-proper d (Become state) at h v (same-follows d h) h.next_column named time
