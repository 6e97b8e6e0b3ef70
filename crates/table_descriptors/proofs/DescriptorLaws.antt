-- Descriptors are read as they are written.
use Rattle.std.proofs.Common.{◌≡◌, ℕ, ◌+◌, ◌<◌, ◌≤◌, ◌^◌, Bool, true, false, List, [], ◌∷◌, ◌++◌, length, map, nat_eq, nat_lt, nat_le, Some, inl, inr, arith, refl, sym, ap, ◌∙◌, length-append, append_assoc}
use Rattle.std.specs.Prelude.{◌&&◌, ◌||◌, not, filter, ◌==◌}
use Rattle.std.specs.List.{list_any, list_all}
use Rattle.std.specs.Str.{bytes_eq}
use Rattle.std.proofs.lemmas.Bool.{cases_Bool}
use Rattle.std.proofs.lemmas.Bool.Decides.{nat_tests}
use Rattle.std.proofs.lemmas.List.{length-map}
use Rattle.std.proofs.lemmas.List.Folds.{list_any-append}
use Rattle.std.proofs.lemmas.Map.Steps.{length-le_from_distinct_below}
use Rattle.std.specs.List.{IsDistinct, AllByRecursion}
use Rattle.key_encoding.specs.Coding.{IsWord}
use Rattle.key_encoding.specs.Spelling.{uvarint}
use Rattle.mvcc_keys.specs.Times.{IsTime}
use Rattle.mvcc_keys.specs.Codes.{time_bytes}
use Rattle.row_codec.specs.declared.rows.Kind.{Kind}
use Rattle.row_codec.specs.declared.rows.Kind.TheVariants.{Int, Text, Bytes, Bool as Truth, IntDown, TextDown, BytesDown, BoolDown}
use Rattle.row_codec.specs.RowValues.{sized}
use Rattle.row_codec.proofs.KeyLaws.{some_is}
use Rattle.row_codec.proofs.KeyOrder.{both_true}
use Rattle.table_descriptors.specs.Names.{is_name, is_name_text}
use Rattle.table_descriptors.specs.Fields.{IsFormat, EachAfter, list_code, is_id, is_count, read_byte}
use Rattle.table_descriptors.specs.Descriptors.{Schema, repeats, repeats_id, last_key, column_id, same_name, has_id, is_column, has_column, is_upright, AreProperColumns, IsProperSchema}
use Rattle.table_descriptors.specs.DescriptorFiles.{form_of, form_code, state_of, state_code, kind_at, kind_code, column_code, direction_code, key_code, descends, directed, schema_code, column_of, read_column, is_column_count, key_id, is_down, has_to_descend, read_direction, read_key, has_key, read_reference, SchemaFields, read_fields, down_of, schema_of, read_schema}
use Rattle.table_descriptors.specs.declared.columns.Column.{Column}
use Rattle.table_descriptors.specs.declared.columns.State.{State}
use Rattle.table_descriptors.specs.declared.columns.State.TheVariants.{Public, Offline, Dropped}
use Rattle.table_descriptors.proofs.FieldLaws.{then-format, made-format, such-format, list-format, id-format, count-format, name-format, time-format, byte-format, flag-format, ok_parts}
use Rattle.table_descriptors.proofs.ListLaws.{each-and, each-weaker, each-all, all-each, each-ascends, ascends-each, each-new, differs-each, is_again, eq-flip, bytes_eq-flip, list_all-weaker}
use Rattle.table_descriptors.proofs.SchemaLaws.{directed-down, down-directed, directed-ids, down-kept, ascends-below}
use Rattle.list_laws.proofs.Bools.{and-false, or-neither, not-true}

-- ---- marks

form-code : (x : Bool) → Unit {0} → form_of (form_code x) ≡ Some x
form-code true h = refl
form-code false h = refl

form-back : (n : ℕ) (x : Bool) → form_of n ≡ Some x → Unit {0} × (n ≡ form_code x)
form-back n x e =
    elim (cases_Bool (nat_eq n 1)) [
      | inl z ↦ let e' : Some false ≡ Some x = rw z at e in let is : n ≡ 1 = grind (arith, nat_tests) in (tt, rw (← some_is false x e', is) refl)
      | inr g ↦ elim (cases_Bool (nat_eq n 2)) [
        | inl o ↦ let e' : Some true ≡ Some x = rw (g, o) at e in let is : n ≡ 2 = grind (arith, nat_tests) in (tt, rw (← some_is true x e', is) refl)
        | inr k ↦ let e' = rw (g, k) at e in absurd (cc)
      ]
    ]

pub form-format : IsFormat (λ _. Unit {0}) (λ b. form_code b ∷ []) (read_byte form_of)
form-format = byte-format (λ _. Unit {0}) form_of form_code form-code form-back

state-code : (x : State) → Unit {0} → state_of (state_code x) ≡ Some x
state-code Public h = refl
state-code Offline h = refl
state-code Dropped h = refl

state-back : (n : ℕ) (x : State) → state_of n ≡ Some x → Unit {0} × (n ≡ state_code x)
state-back n x e =
    elim (cases_Bool (nat_eq n 1)) [
      | inl z ↦ let e' : Some Public ≡ Some x = rw z at e in let is : n ≡ 1 = grind (arith, nat_tests) in (tt, rw (← some_is Public x e', is) refl)
      | inr g ↦ elim (cases_Bool (nat_eq n 2)) [
        | inl o ↦ let e' : Some Offline ≡ Some x = rw (g, o) at e in let is : n ≡ 2 = grind (arith, nat_tests) in (tt, rw (← some_is Offline x e', is) refl)
        | inr k ↦ elim (cases_Bool (nat_eq n 3)) [
          | inl o ↦ let e' : Some Dropped ≡ Some x = rw (g, k, o) at e in let is : n ≡ 3 = grind (arith, nat_tests) in (tt, rw (← some_is Dropped x e', is) refl)
          | inr l ↦ let e' = rw (g, k, l) at e in absurd (cc)
        ]
      ]
    ]

pub state-format : IsFormat (λ _. Unit {0}) (λ s. state_code s ∷ []) (read_byte state_of)
state-format = byte-format (λ _. Unit {0}) state_of state_code state-code state-back

kind-code : (x : Kind) → is_upright x ≡ true → kind_at (kind_code x) ≡ Some x
kind-code Int h = refl
kind-code Text h = refl
kind-code Bytes h = refl
kind-code Truth h = refl
kind-code IntDown h = absurd (cc)
kind-code TextDown h = absurd (cc)
kind-code BytesDown h = absurd (cc)
kind-code BoolDown h = absurd (cc)

kind-back : (n : ℕ) (x : Kind) → kind_at n ≡ Some x → (is_upright x ≡ true) × (n ≡ kind_code x)
kind-back n x e =
    elim (cases_Bool (nat_eq n 1)) [
      | inl z ↦ let e' : Some Int ≡ Some x = rw z at e in let is : n ≡ 1 = grind (arith, nat_tests) in rw (← some_is Int x e') (refl, is)
      | inr g ↦ elim (cases_Bool (nat_eq n 2)) [
        | inl o ↦ let e' : Some Text ≡ Some x = rw (g, o) at e in let is : n ≡ 2 = grind (arith, nat_tests) in rw (← some_is Text x e') (refl, is)
        | inr k ↦ elim (cases_Bool (nat_eq n 3)) [
          | inl o ↦ let e' : Some Bytes ≡ Some x = rw (g, k, o) at e in let is : n ≡ 3 = grind (arith, nat_tests) in rw (← some_is Bytes x e') (refl, is)
          | inr l ↦ elim (cases_Bool (nat_eq n 4)) [
            | inl o ↦ let e' : Some Truth ≡ Some x = rw (g, k, l, o) at e in let is : n ≡ 4 = grind (arith, nat_tests) in rw (← some_is Truth x e') (refl, is)
            | inr m ↦ let e' = rw (g, k, l, m) at e in absurd (cc)
          ]
        ]
      ]
    ]

pub kind-format : IsFormat (λ k. is_upright k ≡ true) (λ k. kind_code k ∷ []) (read_byte kind_at)
kind-format = byte-format (λ k. is_upright k ≡ true) kind_at kind_code kind-code kind-back

-- ---- columns

abbrev pub IsId : ℕ → Type 0
IsId n = IsWord n × (is_id n ≡ true)

abbrev pub IsName : List ℕ → Type 0
IsName n = (length n < 2 ^ 64) × (is_name n ≡ true)

-- a column as it is read after others
abbrev IsNextColumn : List Column → Column → Type 0
IsNextColumn before c = (IsId c.id × (nat_lt (last_key column_id before) c.id ≡ true)) × ((IsName c.name × (not (has_column c.name before) ≡ true)) × (is_upright c.kind ≡ true))

column-format : (before : List Column) → IsFormat (IsNextColumn before) column_code (read_column before)
unfolding read_column
column-format before = made-format (IsNextColumn before) column_of (λ (c : Column). (c.id, (c.name, c.kind)))
    (then-format (such-format (λ id. nat_lt (last_key column_id before) id) id-format) (λ id. then-format (such-format (λ name. not (has_column name before)) name-format) (λ name. kind-format)))
    (λ c h. (h, refl)) (λ p h. (h, refl))

pub name-short : (n : List ℕ) → is_name n ≡ true → IsName n
unfolding is_name
name-short n h = let short = (both_true (nat_le (length n) 32) (is_name_text n) h).0 in (grind (arith, nat_tests), h)

pub id-is : (n : ℕ) → is_id n ≡ true → IsId n
id-is n h = let fits : n < 2 ^ 32 = grind (arith, nat_tests) in (omega arith, h)

pub id-of : (n : ℕ) → n < 2 ^ 32 → IsId n
id-of n h = (omega arith, grind (arith, nat_tests))

flip-name : (x y : Column) → bytes_eq y.name x.name ≡ same_name x y
flip-name x y = bytes_eq-flip x.name y.name

columns-each : (columns : List Column) → AreProperColumns columns → list_all (λ (c : Column). is_id c.id) columns ≡ true → EachAfter IsNextColumn [] columns
columns-each columns h ids =
    let up = each-ascends column_id [] columns h.ascend in
    let new = each-new same_name (λ y x. bytes_eq y.name x.name) flip-name columns h.differ in
    let fits = each-all (λ (c : Column). is_id c.id) [] columns ids in
    let named = each-all (λ (c : Column). is_name c.name) [] columns h.named in
    let kinds = each-all (λ (c : Column). is_upright c.kind) [] columns h.kinds in
    each-weaker _ IsNextColumn (λ b c p.
    ((id-is c.id p.1.1.0, p.0), ((name-short c.name p.1.1.1.0, rw p.1.0 refl), p.1.1.1.1))) [] columns
    (each-and (λ b (c : Column). nat_lt (last_key column_id b) (column_id c) ≡ true) _ [] columns up
    (each-and (λ b (c : Column). is_again (λ y x. bytes_eq y.name x.name) b c ≡ false) _ [] columns new
    (each-and (λ b (c : Column). is_id c.id ≡ true) _ [] columns fits (each-and (λ b (c : Column). is_name c.name ≡ true) (λ b (c : Column). is_upright c.kind ≡ true) [] columns named kinds))))

each-columns : (columns : List Column) → EachAfter IsNextColumn [] columns → 0 < length columns → length columns ≤ 64 → AreProperColumns columns × (list_all (λ (c : Column). is_id c.id) columns ≡ true)
each-columns columns h some few =
    let differ = differs-each same_name (λ y x. bytes_eq y.name x.name) flip-name [] columns (each-weaker IsNextColumn (λ b c. is_again (λ y x. bytes_eq y.name x.name) b c ≡ false) (λ b c p. not-true (has_column c.name b) p.1.0.1) [] columns h) in (
      record {
        some = some;
        few = few;
        ascend = ascends-each column_id [] columns (each-weaker IsNextColumn (λ b c. nat_lt (last_key column_id b) (column_id c) ≡ true) (λ b c p. p.0.1) [] columns h);
        named = all-each (λ (c : Column). is_name c.name) [] columns (each-weaker IsNextColumn (λ b c. is_name c.name ≡ true) (λ b c p. p.1.0.0.1) [] columns h);
        differ = differ.0;
        kinds = all-each (λ (c : Column). is_upright c.kind) [] columns (each-weaker IsNextColumn (λ b c. is_upright c.kind ≡ true) (λ b c p. p.1.1) [] columns h);
      },
      all-each (λ (c : Column). is_id c.id) [] columns (each-weaker IsNextColumn (λ b c. is_id c.id ≡ true) (λ b c p. p.0.0.1) [] columns h),
    )

-- ---- key columns

abbrev IsDirection : Bool → Bool → Bool → Type 0
IsDirection true has_to down = Unit {0} × ((down || not has_to) ≡ true)
IsDirection false has_to down = down ≡ false

direction-format : (descends has_to : Bool) → IsFormat (IsDirection descends has_to) (direction_code descends) (read_direction descends has_to)
direction-format true has_to = such-format (λ down. down || not has_to) flag-format
direction-format false has_to = record {
  found = λ down r h. rw h refl;
  only = λ b down r h e. let parts = ok_parts (false, b) (down, r) e in (sym parts.0, parts.1);
}

abbrev IsNextKey : Bool → List Column → ℕ → List (ℕ × Bool) → ℕ × Bool → Type 0
IsNextKey descends columns count before k = (IsId k.0 × ((is_column k.0 columns && not (has_key k.0 before)) ≡ true)) × IsDirection descends (has_to_descend count before) k.1

key-format : (descends : Bool) (columns : List Column) (count : ℕ) (before : List (ℕ × Bool)) → IsFormat (IsNextKey descends columns count before) (key_code descends) (read_key descends columns count before)
unfolding read_key
key-format descends columns count before = then-format (such-format (λ id. is_column id columns && not (has_key id before)) id-format) (λ id. direction-format descends (has_to_descend count before))

column-fits : (id : ℕ) (columns : List Column) → list_all (λ (c : Column). is_id c.id) columns ≡ true → is_column id columns ≡ true → is_id id ≡ true
column-fits id [] h is = absurd (cc)
column-fits id (c ∷ columns) h is =
    let parts = both_true (is_id c.id) (list_all (λ (e : Column). is_id e.id) columns) h in
    elim (cases_Bool (c.id == id)) [
      | inl t ↦ let same : c.id ≡ id = grind (arith, nat_tests) in rw same at parts.0
      | inr f ↦ column-fits id columns parts.1 (rw f at is)
    ]

abbrev same_key : ℕ × Bool → ℕ × Bool → Bool
same_key x y = key_id x == key_id y

keys-repeat : (keys : List (ℕ × Bool)) → repeats same_key keys ≡ repeats_id (map key_id keys)
keys-repeat [] = refl
keys-repeat (k ∷ keys) = rw (keys-any k keys, keys-repeat keys) refl
  where
    keys-any : (k : ℕ × Bool) (keys : List (ℕ × Bool)) → list_any (λ y. same_key y k) keys ≡ list_any (λ x. x == key_id k) (map key_id keys)
    keys-any k [] = refl
    keys-any k (y ∷ keys) = ap (λ b. same_key y k || b) (keys-any k keys)

-- where some key column descends, the last has to if none before it does
directions-each : (count : ℕ) (before keys : List (ℕ × Bool)) → length before + length keys ≡ count → (list_any is_down before || list_any is_down keys) ≡ true
    → EachAfter (λ b k. IsDirection true (has_to_descend count b) (is_down k)) before keys
directions-each count before [] l h = tt
directions-each count before (k ∷ keys) l h = (
  (tt, here (is_down k) (list_any is_down before) refl refl),
  directions-each count (before ++ k ∷ []) keys (omega (arith, length-append before (k ∷ []))) (rw (list_any-append is_down before (k ∷ [])) (moved (list_any is_down before) (is_down k) (list_any is_down keys) h)),
)
  where
    moved : (a b d : Bool) → (a || (b || d)) ≡ true → ((a || (b || false)) || d) ≡ true
    moved true b d e = refl
    moved false true d e = refl
    moved false false d e = e

    more : (ks : List (ℕ × Bool)) → list_any is_down ks ≡ true → 0 < length ks
    more [] e = absurd (cc)
    more (x ∷ ks) e = omega arith

    here : (b a : Bool) → is_down k ≡ b → list_any is_down before ≡ a → (is_down k || not (has_to_descend count before)) ≡ true
    here true a eb ea = rw eb refl
    here false true eb ea = rw (eb, ea, and-false (length before + 1 == count)) refl
    here false false eb ea =
        let some = more keys (rw (ea, eb) at h) in
        let not_last : (length before + 1 == count) ≡ false = grind (arith, nat_tests) in
        rw (eb, ea, not_last) refl

each-directions : (count : ℕ) (before keys : List (ℕ × Bool)) → length before + length keys ≡ count → 0 < length keys → EachAfter (λ b k. IsDirection true (has_to_descend count b) (is_down k)) before keys
    → (list_any is_down before || list_any is_down keys) ≡ true
each-directions count before [] l s h = absurd (omega arith)
each-directions count before (k ∷ []) l s h =
    let last : (length before + 1 == count) ≡ true = grind (arith, nat_tests) in
    one (list_any is_down before) (is_down k) (rw last at h.0.1)
  where
    one : (a b : Bool) → (b || not (not a)) ≡ true → (a || (b || false)) ≡ true
    one true b e = refl
    one false true e = refl
    one false false e = e
each-directions count before (k ∷ j ∷ keys) l s h =
    let rest = each-directions count (before ++ k ∷ []) (j ∷ keys) (omega (arith, length-append before (k ∷ []))) (omega arith) h.1 in
    moved (list_any is_down before) (is_down k) (list_any is_down (j ∷ keys)) (rw (list_any-append is_down before (k ∷ [])) at rest)
  where
    moved : (a b d : Bool) → ((a || (b || false)) || d) ≡ true → (a || (b || d)) ≡ true
    moved true b d e = refl
    moved false true d e = refl
    moved false false d e = e

none-directed : (ids : List ℕ) (before : List (ℕ × Bool)) → EachAfter (λ b k. is_down k ≡ false) before (directed [] ids)
none-directed [] before = tt
none-directed (id ∷ ids) before = (refl, none-directed ids (before ++ (id, false) ∷ []))

none-down : (before keys : List (ℕ × Bool)) → EachAfter (λ b k. is_down k ≡ false) before keys → down_of keys ≡ []
none-down before [] h = refl
none-down before (k ∷ keys) h = rw h.0 (none-down (before ++ k ∷ []) keys h.1)

some-down : (keys : List (ℕ × Bool)) → list_any is_down keys ≡ true → nat_lt 0 (length (down_of keys)) ≡ true
some-down [] h = absurd (cc)
some-down ((id, true) ∷ keys) h = grind (arith, nat_tests)
some-down ((id, false) ∷ keys) h = some-down keys h

-- the directions of a descriptor's key columns
directed-each : (down ids : List ℕ) → filter (λ id. has_id id down) ids ≡ down → EachAfter (λ b k. IsDirection (nat_lt 0 (length down)) (has_to_descend (length (directed down ids)) b) (is_down k)) [] (directed down ids)
directed-each [] ids h = none-directed ids []
directed-each (d ∷ down) ids h = let yes : nat_lt 0 (length (d ∷ down)) ≡ true = grind (arith, nat_tests) in rw yes (directions-each (length (directed (d ∷ down) ids)) [] (directed (d ∷ down) ids) (omega arith) (any-down (directed (d ∷ down) ids) (down-directed (d ∷ down) ids ∙ h)))
  where
    any-down : (keys : List (ℕ × Bool)) → down_of keys ≡ d ∷ down → list_any is_down keys ≡ true
    any-down [] e = absurd (cc)
    any-down ((id, true) ∷ keys) e = refl
    any-down ((id, false) ∷ keys) e = any-down keys e

each-descends : (descends : Bool) (keys : List (ℕ × Bool)) → 0 < length keys → EachAfter (λ b k. IsDirection descends (has_to_descend (length keys) b) (is_down k)) [] keys → nat_lt 0 (length (down_of keys)) ≡ descends
each-descends true keys s h = some-down keys (each-directions (length keys) [] keys (omega arith) s h)
each-descends false keys s h = rw (none-down [] keys h) refl

flip-key : (x y : ℕ × Bool) → (key_id y == key_id x) ≡ same_key x y
flip-key x y = eq-flip (key_id x) (key_id y)

keys-each : (columns : List Column) (d : Schema) → IsProperSchema d → list_all (λ (c : Column). is_id c.id) d.columns ≡ true
    → EachAfter (IsNextKey (descends d) d.columns (length (directed d.down d.key_columns))) [] (directed d.down d.key_columns)
keys-each columns d h fits =
    let keys = directed d.down d.key_columns in
    let differ = each-new same_key (λ y x. key_id y == key_id x) flip-key keys (keys-repeat keys ∙ (ap repeats_id (directed-ids d.down d.key_columns) ∙ h.differ)) in
    let are = each-all (λ k. is_column (key_id k) d.columns) [] keys (all-directed d.key_columns h.key_columns) in
    let ways = directed-each d.down d.key_columns h.down in
    each-weaker _ (IsNextKey (descends d) d.columns (length keys)) (λ b k p.
    ((id-is (key_id k) (column-fits (key_id k) d.columns fits p.1.0), rw (p.1.0, p.0) refl), p.1.1)) [] keys
    (each-and (λ b k. is_again (λ y x. key_id y == key_id x) b k ≡ false) _ [] keys differ (each-and (λ b k. is_column (key_id k) d.columns ≡ true) (λ b k. IsDirection (descends d) (has_to_descend (length keys) b) (is_down k)) [] keys are ways))
  where
    all-directed : (ids : List ℕ) → list_all (λ id. is_column id d.columns) ids ≡ true → list_all (λ k. is_column (key_id k) d.columns) (directed d.down ids) ≡ true
    all-directed [] e = refl
    all-directed (id ∷ ids) e = let parts = both_true (is_column id d.columns) (list_all (λ i. is_column i d.columns) ids) e in rw parts.0 (all-directed ids parts.1)

all-ids-are : (columns : List Column) (keys : List (ℕ × Bool)) → list_all (λ k. is_column (key_id k) columns) keys ≡ true → list_all (λ id. is_column id columns) (map key_id keys) ≡ true
all-ids-are columns [] h = refl
all-ids-are columns (k ∷ keys) h = let parts = both_true (is_column (key_id k) columns) (list_all (λ j. is_column (key_id j) columns) keys) h in rw parts.0 (all-ids-are columns keys parts.1)

-- ---- references

abbrev IsNextReference : List ℕ → ℕ → Type 0
IsNextReference before id = IsId id × (not (has_id id before) ≡ true)

reference-format : (before : List ℕ) → IsFormat (IsNextReference before) uvarint (read_reference before)
unfolding read_reference
reference-format before = such-format (λ id. not (has_id id before)) id-format

references-each : (ids : List ℕ) → list_all is_id ids ≡ true → repeats_id ids ≡ false → EachAfter IsNextReference [] ids
references-each ids fits once =
    each-weaker _ IsNextReference (λ b id p. (id-is id p.0, rw p.1 refl)) [] ids
    (each-and (λ b id. is_id id ≡ true) (λ b id. is_again (λ y x. y == x) b id ≡ false) [] ids (each-all is_id [] ids fits) (each-new (λ x y. x == y) (λ y x. y == x) eq-flip ids once))

each-references : (ids : List ℕ) → EachAfter IsNextReference [] ids → (list_all is_id ids ≡ true) × (repeats_id ids ≡ false)
each-references ids h = (
  all-each is_id [] ids (each-weaker IsNextReference (λ b id. is_id id ≡ true) (λ b id p. p.0.1) [] ids h),
  (differs-each (λ x y. x == y) (λ y x. y == x) eq-flip [] ids (each-weaker IsNextReference (λ b id. is_again (λ y x. y == x) b id ≡ false) (λ b id p. not-true (has_id id b) p.1) [] ids h)).0,
)

-- ---- descriptors

abbrev IsCounted : (ℕ → Bool) → ℕ → Type 0
IsCounted ok n = IsWord n × (ok n ≡ true)

abbrev AreColumns : List Column → Type 0
AreColumns columns = IsCounted is_column_count (length columns) × EachAfter IsNextColumn [] columns

abbrev AreKeys : Bool → List Column → List (ℕ × Bool) → Type 0
AreKeys descends columns keys = IsCounted (λ n. nat_lt 0 n) (length keys) × EachAfter (IsNextKey descends columns (length keys)) [] keys

abbrev AreReferences : List ℕ → Type 0
AreReferences ids = IsCounted (λ n. true) (length ids) × EachAfter IsNextReference [] ids

abbrev IsNext : List Column → ℕ → Type 0
IsNext columns n = IsId n × (nat_lt (last_key column_id columns) n ≡ true)

abbrev AreFields : SchemaFields → Type 0
AreFields p =
    Unit {0} × (IsId p.1.0 × ((IsId p.1.1.0 × (is_count p.1.1.0 ≡ true)) × (IsName p.1.1.1.0 × (IsName p.1.1.1.1.0 × (Unit {0} × (AreColumns p.1.1.1.1.1.1.0
    × (AreKeys p.0 p.1.1.1.1.1.1.0 p.1.1.1.1.1.1.1.0 × (AreReferences p.1.1.1.1.1.1.1.1.0 × (IsNext p.1.1.1.1.1.1.0 p.1.1.1.1.1.1.1.1.1.0 × IsTime p.1.1.1.1.1.1.1.1.1.1)))))))))

abbrev fields_code : SchemaFields → List ℕ
fields_code p =
    (form_code p.0 ∷ []) ++ (uvarint p.1.0 ++ (uvarint p.1.1.0 ++ (sized p.1.1.1.0 ++ (sized p.1.1.1.1.0 ++ ((state_code p.1.1.1.1.1.0 ∷ []) ++ (list_code column_code p.1.1.1.1.1.1.0
    ++ (list_code (key_code p.0) p.1.1.1.1.1.1.1.0 ++ (list_code uvarint p.1.1.1.1.1.1.1.1.0 ++ (uvarint p.1.1.1.1.1.1.1.1.1.0 ++ time_bytes p.1.1.1.1.1.1.1.1.1.1)))))))))

fields-format : IsFormat AreFields fields_code read_fields
fields-format =
    then-format form-format (λ descends. then-format id-format (λ id. then-format count-format (λ version. then-format name-format (λ database. then-format name-format (λ name.
    then-format state-format (λ state. then-format (list-format is_column_count (λ n. column-format)) (λ columns. then-format (list-format (λ n. nat_lt 0 n) (key-format descends columns)) (λ keys.
    then-format (list-format (λ n. true) (λ n. reference-format)) (λ references. then-format (such-format (λ id. nat_lt (last_key column_id columns) id) id-format) (λ next. time-format))))))))))

abbrev parts_of : Schema → SchemaFields
parts_of d = (descends d, (d.id, (d.version, (d.database, (d.name, (d.state, (d.columns, (directed d.down d.key_columns, (d.references, (d.next_column, d.modified))))))))))

schema-parts : (d : Schema) → IsProperSchema d → schema_of (parts_of d) ≡ d
schema-parts d h = rw (directed-ids d.down d.key_columns, down-directed d.down d.key_columns, h.down) refl

ids-fit : (d : Schema) → IsProperSchema d → list_all (λ (c : Column). is_id c.id) d.columns ≡ true
ids-fit d h = list_all-weaker (λ (c : Column). nat_lt (column_id c) d.next_column) (λ (c : Column). is_id c.id) (λ c below. let n = h.next_column in grind (arith, nat_tests)) d.columns (ascends-below column_id 0 d.next_column d.columns h.columns.ascend h.next)

ids-distinct : (ids : List ℕ) → repeats_id ids ≡ false → IsDistinct ◌==◌ ids
unfolding IsDistinct
ids-distinct [] h = tt
ids-distinct (x ∷ ids) h = let parts = or-neither (has_id x ids) (repeats_id ids) h in (others ids parts.0, ids-distinct ids parts.1)
  where
    others : (ys : List ℕ) → has_id x ys ≡ false → AllByRecursion (λ y. (x == y) ≡ false) ys
    others [] e = tt
    others (y ∷ ys) e = let both = or-neither (y == x) (has_id x ys) e in (eq-flip y x ∙ both.0, others ys both.1)

ids-below : (q : ℕ) (ids : List ℕ) → list_all is_id ids ≡ true → list_any (λ x. q == x) ids ≡ true → q < 2 ^ 32
ids-below q [] h is = absurd (cc)
ids-below q (x ∷ ids) h is =
    let parts = both_true (is_id x) (list_all is_id ids) h in
    elim (cases_Bool (q == x)) [
      | inl t ↦ let a = parts.0 in grind (arith, nat_tests)
      | inr f ↦ ids-below q ids parts.1 (rw f at is)
    ]

-- different ids of 32 bits are at most 2 ^ 32
pub ids-few : (ids : List ℕ) → list_all is_id ids ≡ true → repeats_id ids ≡ false → length ids ≤ 2 ^ 32
ids-few ids fits once = length-le_from_distinct_below ids (2 ^ 32) (ids-distinct ids once) (λ q is. ids-below q ids fits is)

pub keys-fit : (d : Schema) → IsProperSchema d → list_all is_id d.key_columns ≡ true
keys-fit d h = list_all-weaker (λ id. is_column id d.columns) is_id (λ id is. column-fits id d.columns (ids-fit d h) is) d.key_columns h.key_columns

parts-fit : (d : Schema) → IsProperSchema d → AreFields (parts_of d)
parts-fit d h =
    let keys : length (directed d.down d.key_columns) ≡ length d.key_columns = length-map {B = ℕ × Bool} d.key_columns (λ id. (id, has_id id d.down)) in (
      tt,
      (
        id-of d.id h.id,
        (
          (id-of d.version h.version, let v = h.from_one in grind (arith, nat_tests)),
          (
            name-short d.database h.database,
            (
              name-short d.name h.name,
              (
                tt,
                (
                  ((let f = h.columns.few in omega arith, let s = h.columns.some in let f = h.columns.few in grind (arith, nat_tests)), columns-each d.columns h.columns (ids-fit d h)),
                  (
                    ((rw keys (let few = ids-few d.key_columns (keys-fit d h) h.differ in omega arith), rw keys (let k = h.key in grind (arith, nat_tests))), keys-each d.columns d h (ids-fit d h)),
                    (
                      (((let few = ids-few d.references h.references h.once in omega arith), refl), references-each d.references h.references h.once),
                      ((id-of d.next_column h.next_column, let n = h.next in grind (arith, nat_tests)), h.modified),
                    ),
                  ),
                ),
              ),
            ),
          ),
        ),
      ),
    )

fields-proper : (p : SchemaFields) → AreFields p → IsProperSchema (schema_of p) × (parts_of (schema_of p) ≡ p)
fields-proper p h =
    let columns = p.1.1.1.1.1.1.0 in
    let keys = p.1.1.1.1.1.1.1.0 in
    let key_part = h.1.1.1.1.1.1.1.0 in
    let count = both_true (nat_lt 0 (length columns)) (nat_le (length columns) 64) h.1.1.1.1.1.1.0.0.1 in
    let proper = each-columns columns h.1.1.1.1.1.1.0.1 (let a = count.0 in grind (arith, nat_tests)) (let a = count.1 in grind (arith, nat_tests)) in
    let some : 0 < length keys = let a = key_part.0.1 in grind (arith, nat_tests) in
    let ids = length-map keys key_id in
    let differ = sym (keys-repeat keys) ∙ (differs-each same_key (λ y x. key_id y == key_id x) flip-key [] keys
    (each-weaker (IsNextKey p.0 columns (length keys)) (λ b k. is_again (λ y x. key_id y == key_id x) b k ≡ false) (λ b k q. not-true (has_key k.0 b) (both_true (is_column k.0 columns) (not (has_key k.0 b)) q.0.1).1) [] keys key_part.1)).0 in
    let are = all-ids-are columns keys (all-each (λ k. is_column (key_id k) columns) [] keys
    (each-weaker (IsNextKey p.0 columns (length keys)) (λ b k. is_column (key_id k) columns ≡ true) (λ b k q. (both_true (is_column k.0 columns) (not (has_key k.0 b)) q.0.1).0) [] keys key_part.1)) in
    let ways = each-descends p.0 keys some (each-weaker (IsNextKey p.0 columns (length keys)) (λ b k. IsDirection p.0 (has_to_descend (length keys) b) (is_down k)) (λ b k q. q.1) [] keys key_part.1) in
    let references = each-references p.1.1.1.1.1.1.1.1.0 h.1.1.1.1.1.1.1.1.0.1 in (
      record {
        id = let a = h.1.0.1 in grind (arith, nat_tests);
        from_one = let a = h.1.1.0.1 in grind (arith, nat_tests);
        version = let a = h.1.1.0.0.1 in grind (arith, nat_tests);
        database = h.1.1.1.0.1;
        name = h.1.1.1.1.0.1;
        columns = proper.0;
        key = rw ids some;
        key_columns = are;
        differ = differ;
        references = references.0;
        once = references.1;
        next = let a = h.1.1.1.1.1.1.1.1.1.0.1 in grind (arith, nat_tests);
        next_column = let a = h.1.1.1.1.1.1.1.1.1.0.0.1 in grind (arith, nat_tests);
        modified = h.1.1.1.1.1.1.1.1.1.1;
        down = down-kept keys differ;
      },
      rw (ways, directed-down keys differ) refl,
    )

code-parts : (d : Schema) → schema_code d ≡ fields_code (parts_of d)
unfolding schema_code
code-parts d = simp append_assoc refl

pub schema-format : IsFormat IsProperSchema schema_code read_schema
unfolding read_schema
schema-format =
    let made = made-format IsProperSchema schema_of parts_of fields-format (λ d h. (parts-fit d h, schema-parts d h)) fields-proper in
    record {
      found = λ d r h. rw (code-parts d) (made.found d r h);
      only = λ b d r h e. let was = made.only b d r h e in (was.0, rw (code-parts d) was.1);
    }
