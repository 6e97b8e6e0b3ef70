-- Rows that fit their columns: their keys, and the cells beside them.
use Rattle.std.proofs.Common.{◌≡◌, append_assoc, ℕ, ◌+◌, ◌≤◌, ◌==◌, ◌&&◌, ◌||◌, not, nat_lt, Bool, true, false, sym, refl, ap, ap₂, ◌∙◌, arith, List, [], ◌∷◌, ◌++◌, map, length, Some, None, if◌then◌else◌}
use Rattle.std.proofs.lemmas.Bool.{eqb-true, eq-eqb}
use Rattle.std.proofs.lemmas.Bool.Decides.{nat_tests}
use Rattle.std.specs.List.{list_any, list_all}
use Rattle.std.proofs.lemmas.List.Folds.{list_any-append}
use Rattle.list_laws.proofs.Bools.{or-true}
use Rattle.row_codec.specs.declared.rows.Kind.{Kind}
use Rattle.row_codec.specs.declared.rows.Kind.TheVariants.{Int as KindInt, Text as KindText, Bytes as KindBytes, Bool as KindBool, IntDown, TextDown, BytesDown, BoolDown}
use Rattle.row_codec.specs.declared.rows.Datum.{Datum}
use Rattle.row_codec.specs.declared.rows.Datum.TheVariants.{Int, Text, Bytes, Bool as Truth, Null}
use Rattle.row_codec.specs.declared.rows.Cell.{Cell}
use Rattle.row_codec.specs.RowOrder.{rank}
use Rattle.row_codec.specs.RowKeys.{is_of_kind, are_of_kinds}
use Rattle.row_codec.specs.RowValues.{are_cells}
use Rattle.row_codec.proofs.KeyOrder.{both_true}
use Rattle.table_descriptors.specs.declared.columns.Column.{Column}
use Rattle.table_descriptors.specs.Descriptors.{Schema, has_id, is_column, ascends, column_id, kind_of, key_kind, key_kinds, turned}
use Rattle.history_model.specs.Rows.{is_null, is_of, fits, misfit_from, wrong_column, value_in, or_null, key_of, cells_in}
use Rattle.history_model.specs.RowTests.{first_wrong}
use Rattle.table_rows.proofs.Lists.{wrong-none}

-- ---- kinds

of-kind : (kind : Kind) (x : Datum) → is_of kind x ≡ true → is_of_kind kind x ≡ true
of-kind KindInt (Int n) e = refl
of-kind KindText (Text t) e = refl
of-kind KindBytes (Bytes b) e = refl
of-kind KindBool (Truth b) e = refl
of-kind kind x e = cc e

turned-kind : (kind : Kind) (x : Datum) → is_of_kind (turned kind) x ≡ is_of_kind kind x
turned-kind KindInt x = refl
turned-kind KindText x = refl
turned-kind KindBytes x = refl
turned-kind KindBool x = refl
turned-kind IntDown x = refl
turned-kind TextDown x = refl
turned-kind BytesDown x = refl
turned-kind BoolDown x = refl

key-of-kind : (d : Schema) (id : ℕ) (x : Datum) → is_of_kind (kind_of d.columns id) x ≡ true → is_of_kind (key_kind d id) x ≡ true
key-of-kind d id x e = by (has_id id d.down)
  where
    by : (b : Bool) → is_of_kind (if b then turned (kind_of d.columns id) else kind_of d.columns id) x ≡ true
    by true = turned-kind (kind_of d.columns id) x ∙ e
    by false = e

-- ---- keys

-- a value of a key column that fits has the column's kind
fits-key : (key : List ℕ) (c : Column) (x : Datum) → has_id c.id key ≡ true → fits key c x ≡ true → is_of_kind c.kind x ≡ true
fits-key key c x member e = by (is_null x) refl
  where
    by : (b : Bool) → is_null x ≡ b → is_of_kind c.kind x ≡ true
    by true null = let no : false ≡ true = sym (ap (λ (b : Bool). if b then not (has_id c.id key) else is_of c.kind x) null ∙ ap not member) ∙ e in cc no
    by false null = of-kind c.kind x (sym (ap (λ (b : Bool). if b then not (has_id c.id key) else is_of c.kind x) null) ∙ e)

-- the first value fits, and so do the others, where no misfit is found
first-fits : (key : List ℕ) (n : ℕ) (c : Column) (cs : List Column) (x : Datum) (xs : List Datum) → misfit_from key n (c ∷ cs) (x ∷ xs) ≡ None → (fits key c x ≡ true) × (misfit_from key (n + 1) cs xs ≡ None)
first-fits key n c cs x xs e = by (fits key c x) refl
  where
    by : (b : Bool) → fits key c x ≡ b → (fits key c x ≡ true) × (misfit_from key (n + 1) cs xs ≡ None)
    by true f = (f, sym (ap (λ (b : Bool). if b then misfit_from key (n + 1) cs xs else Some n) f) ∙ e)
    by false f = let no : Some n ≡ None = sym (ap (λ (b : Bool). if b then misfit_from key (n + 1) cs xs else Some n) f) ∙ e in cc no

key-value-fits : (key : List ℕ) (n id : ℕ) (cs : List Column) (xs : List Datum) → length xs ≡ length cs → misfit_from key n cs xs ≡ None → has_id id key ≡ true → is_column id cs ≡ true
    → is_of_kind (kind_of cs id) (or_null (value_in cs xs id)) ≡ true
key-value-fits key n id [] xs len fit member there = cc there
key-value-fits key n id (c ∷ cs) [] len fit member there = absurd (omega (arith, len))
key-value-fits key n id (c ∷ cs) (x ∷ xs) len fit member there = by (c.id == id) refl (λ here. key-value-fits key (n + 1) id cs xs (omega (arith, len)) (first-fits key n c cs x xs fit).1 member here)
  where
    by : (b : Bool) → c.id == id ≡ b → (is_column id cs ≡ true → is_of_kind (kind_of cs id) (or_null (value_in cs xs id)) ≡ true) → is_of_kind (kind_of (c ∷ cs) id) (or_null (value_in (c ∷ cs) (x ∷ xs) id)) ≡ true
    by true e more = rw (e) (fits-key key c x (ap (λ (i : ℕ). has_id i key) (eqb-true c.id id e) ∙ member) (first-fits key n c cs x xs fit).0)
    by false e more = rw (e) (more (sym (ap (λ (b : Bool). b || is_column id cs) e) ∙ there))

keys-fit : (d : Schema) (row : List Datum) (ids : List ℕ) → length row ≡ length d.columns → misfit_from d.key_columns 1 d.columns row ≡ None
    → list_all (λ id. has_id id d.key_columns) ids ≡ true → list_all (λ id. is_column id d.columns) ids ≡ true
    → are_of_kinds (map (key_kind d) ids) (map (λ id. or_null (value_in d.columns row id)) ids) ≡ true
keys-fit d row [] len fit members there = refl
keys-fit d row (id ∷ ids) len fit members there =
    let m = both_true (has_id id d.key_columns) (list_all (λ i. has_id i d.key_columns) ids) members in
    let t = both_true (is_column id d.columns) (list_all (λ i. is_column i d.columns) ids) there in
    ap₂ (λ (a b : Bool). a && b) (key-of-kind d id (or_null (value_in d.columns row id)) (key-value-fits d.key_columns 1 id d.columns row len fit m.0 t.0)) (keys-fit d row ids len fit m.1 t.1)

-- ids are among themselves
ids-have : (front ids : List ℕ) → list_all (λ id. has_id id (front ++ ids)) ids ≡ true
ids-have front [] = refl
ids-have front (id ∷ ids) =
    ap₂ (λ (a b : Bool). a && b) (list_any-append (λ x. x == id) front (id ∷ ids) ∙ (ap (λ (b : Bool). list_any (λ x. x == id) front || (b || list_any (λ x. x == id) ids)) (eq-eqb id id refl) ∙ or-true (list_any (λ x. x == id) front)))
    (ap (λ (all : List ℕ). list_all (λ i. has_id i all) ids) (sym (append_assoc front (id ∷ []) ids)) ∙ ids-have (front ++ id ∷ []) ids)

right-row : (d : Schema) (row : List Datum) → wrong_column d row ≡ None → (length row ≡ length d.columns) × (misfit_from d.key_columns 1 d.columns row ≡ None)
right-row d row e = by (length row == length d.columns) refl
  where
    by : (b : Bool) → length row == length d.columns ≡ b → (length row ≡ length d.columns) × (misfit_from d.key_columns 1 d.columns row ≡ None)
    by true l = (eqb-true (length row) (length d.columns) l, sym (ap (λ (b : Bool). if b then misfit_from d.key_columns 1 d.columns row else Some 0) l) ∙ e)
    by false l = let no : Some 0 ≡ None = sym (ap (λ (b : Bool). if b then misfit_from d.key_columns 1 d.columns row else Some 0) l) ∙ e in cc no

-- the key of a row that fits has the kinds of the key columns
pub key-kinds : (d : Schema) (row : List Datum) → list_all (λ id. is_column id d.columns) d.key_columns ≡ true → wrong_column d row ≡ None → are_of_kinds (key_kinds d) (key_of d row) ≡ true
key-kinds d row there e = let r = right-row d row e in keys-fit d row d.key_columns r.0 r.1 (ids-have [] d.key_columns) there

-- ---- cells

cells-weaker : (a b : ℕ) (cells : List Cell) → a ≤ b → are_cells b cells ≡ true → are_cells a cells ≡ true
cells-weaker a b [] l e = refl
cells-weaker a b (c ∷ cells) l e =
    let p = both_true (nat_lt b c.column && nat_lt 0 (rank c.datum)) (are_cells c.column cells) e in
    let q = both_true (nat_lt b c.column) (nat_lt 0 (rank c.datum)) p.0 in
    let first : nat_lt a c.column ≡ true = grind (arith, nat_tests, l, q.0) in
    ap₂ (λ (x y : Bool). x && y) (ap₂ (λ (x y : Bool). x && y) first q.1) p.1

ranked : (x : Datum) → is_null x ≡ false → nat_lt 0 (rank x) ≡ true
ranked (Int n) e = refl
ranked (Text t) e = refl
ranked (Bytes b) e = refl
ranked (Truth b) e = refl
ranked Null e = cc e

-- the cells of a row ascend, where its columns do
pub cells-ascend : (key : List ℕ) (last : ℕ) (cs : List Column) (xs : List Datum) → ascends column_id last cs ≡ true → are_cells last (cells_in key cs xs) ≡ true
cells-ascend key last [] xs up = refl
cells-ascend key last (c ∷ cs) [] up = refl
cells-ascend key last (c ∷ cs) (x ∷ xs) up = by (has_id c.id key) (is_null x) refl (cells-ascend key c.id cs xs step.1)
  where
    step : (nat_lt last c.id ≡ true) × (ascends column_id c.id cs ≡ true)
    step = both_true (nat_lt last c.id) (ascends column_id c.id cs) up

    by : (k b : Bool) → is_null x ≡ b → are_cells c.id (cells_in key cs xs) ≡ true
        → are_cells last ((if k || b then [] else record { column = c.id; datum = x } ∷ []) ++ cells_in key cs xs) ≡ true
    by true b null more = cells-weaker last c.id (cells_in key cs xs) (grind (arith, nat_tests, step.0)) more
    by false true null more = cells-weaker last c.id (cells_in key cs xs) (grind (arith, nat_tests, step.0)) more
    by false false null more = ap₂ (λ (p q : Bool). p && q) (ap₂ (λ (p q : Bool). p && q) step.0 (ranked x null)) more

-- the keys of rows that fit have the kinds of the key columns
pub rows-kinds : (d : Schema) → list_all (λ id. is_column id d.columns) d.key_columns ≡ true → (n : ℕ) (rows : List (List Datum)) → first_wrong (wrong_column d) n rows ≡ None → list_all (are_of_kinds (key_kinds d)) (map (key_of d) rows) ≡ true
rows-kinds d there n [] e = refl
rows-kinds d there n (row ∷ rows) e =
    let w = wrong-none n (wrong_column d row) (first_wrong (wrong_column d) (n + 1) rows) e in
    ap₂ (λ (p q : Bool). p && q) (key-kinds d row there w.0) (rows-kinds d there (n + 1) rows w.1)
