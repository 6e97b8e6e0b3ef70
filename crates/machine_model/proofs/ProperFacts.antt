-- The facts that a command adds are ones that a proper table may have.
use Rattle.std.proofs.Common.{◌≡◌, ◌⊎◌, inl, inr, ⊎_elim, ℕ, zero, suc, ◌+◌, ◌<◌, ◌≤◌, ◌^◌, Bool, true, false, ◌||◌, nat_lt, eqb, refl, sym, ap, subst, ◌∙◌, arith, List, [], ◌∷◌, map, drop, length, length-append, Some, None, slice_get, if◌then◌else◌}
use Rattle.std.specs.List.{AllByRecursion, list_all}
use Rattle.std.specs.Ordering.{is_eq, int_cmp, bool_cmp}
use Rattle.std.specs.declared.cmp.Ordering.{Ordering}
use Rattle.std.specs.declared.cmp.Ordering.TheVariants.{Less, Equal, Greater}
use Rattle.std.proofs.lemmas.Bool.{cases_Bool}
use Rattle.std.proofs.lemmas.Bool.Decides.{nat_tests}
use Rattle.std.proofs.lemmas.Cmp.{int_ranked, int_cmp_total, nat_list_cmp_total, tied_itself}
use Rattle.mvcc_keys.specs.Times.{IsTime, Time}
use Rattle.row_codec.specs.declared.rows.Kind.{Kind}
use Rattle.row_codec.specs.declared.rows.Cell.{Cell}
use Rattle.row_codec.specs.declared.rows.Datum.{Datum}
use Rattle.row_codec.specs.declared.rows.Datum.TheVariants.{Int, Text, Bytes, Bool as Truth, Null}
use Rattle.row_codec.specs.RowOrder.{datum_cmp, first_cmp, is_down, row_cmp}
use Rattle.row_codec.specs.RowKeys.{IsValue, are_of_kinds}
use Rattle.key_encoding.specs.Spelling.{uvarint}
use Rattle.row_codec.proofs.KeyOrder.{both_true}
use Rattle.row_codec.specs.RowValues.{IsCell, are_cells, cell_code, marked_value, row_value}
use Rattle.row_codec.specs.RowValues as values
use Rattle.table_descriptors.specs.declared.columns.Column.{Column}
use Rattle.table_descriptors.specs.Descriptors.{IsProperSchema, Schema, column_id, has_id, key_kinds}
use Rattle.table_descriptors.proofs.SchemaLaws.{ascends-below}
use Rattle.fact_model.specs.Facts.{Del, DelRange, date, touches}
use Rattle.fact_model.specs.Listed.{is_point}
use Rattle.list_laws.specs.Members.{Has}
use Rattle.list_laws.proofs.Members.{AllByRecursion-has, has-AllByRecursion, has-append_cases, map-has}
use Rattle.list_laws.proofs.Orderings.{bytes-Equal, then-Equal}
use Rattle.history_model.specs.Rows.{Key, RowFact, cell_in, cells_in, is_null, key_of, or_null, put_of, value_in, wrong_column}
use Rattle.history_model.specs.RowTests.{first_wrong, repeated_after}
use Rattle.history_model.proofs.Repeats.{first_repeats-named}
use Rattle.table_rows.specs.RowTables.{IsRowFact}
use Rattle.table_rows.specs.Checks.{keys_fault, range_fault, rows_fault}
use Rattle.table_rows.proofs.Lists.{wrong-none}
use Rattle.table_rows.proofs.Passed.{keys-passed, range-passed, rows-passed}
use Rattle.table_rows.proofs.RowLaws.{cells-ascend, key-kinds}
use Rattle.layer_objects.specs.Storable.{IsSized}
use Rattle.command_lang.specs.Typed.{AreValues}
use Rattle.machine_model.specs.Proper.{AreRangesOfOneDate, NoTwo, TouchOneKey}
use Rattle.machine_model.proofs.ProperLists.{two-one, two-map}
use Rattle.machine_model.proofs.ProperTables.{AreNew}
use Rattle.machine_model.proofs.KeyKinds.{all-has}
use Rattle.machine_model.proofs.Sizes.{keys-sized, range-sized, rows-sized}

-- ---- keys that tie are the same

tied-numbers : (m n : _) → int_cmp m n ≡ Equal → m ≡ n
tied-numbers m n e = int_ranked m n Equal (sym e)

tied-truths : (a b : Bool) → bool_cmp a b ≡ Equal → a ≡ b
tied-truths true true e = refl
tied-truths false false e = refl
tied-truths true false e = cc e
tied-truths false true e = cc e

datum-same : (x y : Datum) → datum_cmp x y ≡ Equal → x ≡ y
datum-same (Int m) (Int n) e = ap Int (tied-numbers m n e)
datum-same (Text s) (Text t) e = ap Text (bytes-Equal s t e)
datum-same (Bytes s) (Bytes t) e = ap Bytes (bytes-Equal s t e)
datum-same (Truth a) (Truth b) e = ap Truth (tied-truths a b e)
datum-same Null Null e = refl
datum-same x y e = cc e

datum-itself : (x : Datum) → datum_cmp x x ≡ Equal
datum-itself (Int n) = tied_itself int_cmp_total n
datum-itself (Text s) = tied_itself nat_list_cmp_total s
datum-itself (Bytes s) = tied_itself nat_list_cmp_total s
datum-itself (Truth true) = refl
datum-itself (Truth false) = refl
datum-itself Null = refl

first-same : (kinds : List Kind) (x y : Datum) → first_cmp kinds x y ≡ Equal → x ≡ y
first-same [] x y e = datum-same x y e
first-same (kind ∷ kinds) x y e = by (is_down kind) e
  where
    by : (b : Bool) → (if b then datum_cmp y x else datum_cmp x y) ≡ Equal → x ≡ y
    by true f = sym (datum-same y x f)
    by false f = datum-same x y f

first-itself : (kinds : List Kind) (x : Datum) → first_cmp kinds x x ≡ Equal
first-itself [] x = datum-itself x
first-itself (kind ∷ kinds) x = by (is_down kind)
  where
    by : (b : Bool) → (if b then datum_cmp x x else datum_cmp x x) ≡ Equal
    by true = datum-itself x
    by false = datum-itself x

row-same : (kinds : List Kind) (xs ys : Key) → row_cmp kinds xs ys ≡ Equal → xs ≡ ys
row-same kinds [] [] e = refl
row-same kinds [] (y ∷ ys) e = cc e
row-same kinds (x ∷ xs) [] e = cc e
row-same kinds (x ∷ xs) (y ∷ ys) e =
    let p = then-Equal (first_cmp kinds x y) (row_cmp _ xs ys) e in
    rw (first-same kinds x y p.0, row-same _ xs ys p.1) refl

row-itself : (kinds : List Kind) (xs : Key) → row_cmp kinds xs xs ≡ Equal
row-itself kinds [] = refl
row-itself kinds (x ∷ xs) = rw (first-itself kinds x) (row-itself (drop 1 kinds) xs)

is-Equal : (o : Ordering) → is_eq o ≡ true → o ≡ Equal
is-Equal Equal e = refl
is-Equal Less e = cc e
is-Equal Greater e = cc e

pub tied-keys : (kinds : List Kind) (a b : Key) → is_eq (row_cmp kinds a b) ≡ true → a ≡ b
tied-keys kinds a b e = row-same kinds a b (is-Equal (row_cmp kinds a b) e)

-- ---- keys that don't come twice

pub keys-differ : (kinds : List Kind) (keys : List Key) → repeated_after (row_cmp kinds) [] keys ≡ None → NoTwo (λ (a b : Key). a ≡ b) keys
keys-differ kinds keys none i j x y gx gy same = by (cases_Bool (nat_lt i j)) (cases_Bool (nat_lt j i))
  where
    tie : is_eq (row_cmp kinds x y) ≡ true
    tie = ap is_eq (subst (λ (z : Key). row_cmp kinds x z ≡ Equal) same (row-itself kinds x))

    back : is_eq (row_cmp kinds y x) ≡ true
    back = ap is_eq (subst (λ (z : Key). row_cmp kinds y z ≡ Equal) (sym same) (row-itself kinds y))

    by : (nat_lt i j ≡ true) ⊎ (nat_lt i j ≡ false) → (nat_lt j i ≡ true) ⊎ (nat_lt j i ≡ false) → i ≡ j
    by (inl l) other = absurd ((first_repeats-named (row_cmp kinds) keys).unnamed.0 none j (record { earlier = i; before = grind (arith, nat_tests, l); first = x; second = y; there = gx; here = gy; tie = tie }))
    by (inr n) (inl l) = absurd ((first_repeats-named (row_cmp kinds) keys).unnamed.0 none i (record { earlier = j; before = grind (arith, nat_tests, l); first = y; second = x; there = gy; here = gx; tie = back }))
    by (inr n) (inr m) = grind (arith, nat_tests, n, m)

pub unmapped : {X Y : Type 0} (f : X → Y) (xs : List X) (i : ℕ) (x : X) → slice_get xs i ≡ Some x → slice_get (map f xs) i ≡ Some (f x)
unmapped f [] i x e = cc e
unmapped f (z ∷ zs) zero x e = let same : z ≡ x = cc e in ap (λ y. Some (f y)) same
unmapped f (z ∷ zs) (suc i) x e = unmapped f zs i x e

-- points that are made of what has keys that differ
module _ {X : Type 0} (kinds : List Kind) (key : X → Key) (make : X → RowFact) (t : Time) (at : (x : X) → date (make x) ≡ t) (point : (x : X) → is_point (make x) ≡ true) (touch : (x : X) (k : Key) → touches (row_cmp kinds) k (make x) ≡ true → key x ≡ k) where
  pub points-apart : (xs : List X) → NoTwo (λ (a b : Key). a ≡ b) (map key xs) → NoTwo (TouchOneKey (row_cmp kinds)) (map make xs)
  points-apart xs all = two-map make (TouchOneKey (row_cmp kinds)) xs (λ i j x y gx gy both. all i j (key x) (key y) (unmapped key xs i x gx) (unmapped key xs j y gy) (touch x both.1 both.2 ∙ sym (touch y both.1 both.3)))

  pub no-ranges : (xs : List X) → NoTwo AreRangesOfOneDate (map make xs)
  no-ranges xs = two-map make AreRangesOfOneDate xs (λ i j x y gx gy both. absurd (let no : true ≡ false = sym (point x) ∙ both.1 in cc no))

  pub all-dated : (xs : List X) (f : RowFact) → Has f (map make xs) → date f ≡ t
  all-dated xs f has = let p = map-has make f xs has in ap date p.2 ∙ at p.0

-- ---- rows

value-values : (cs : List Column) (row : List Datum) (id : ℕ) → AllByRecursion IsValue row → IsValue (or_null (value_in cs row id))
value-values [] row id all = tt
value-values (c ∷ cs) [] id all = tt
value-values (c ∷ cs) (x ∷ xs) id all = by (eqb c.id id) (value-values cs xs id all.1)
  where
    by : (b : Bool) → IsValue (or_null (value_in cs xs id)) → IsValue (or_null (if b then Some x else value_in cs xs id))
    by true more = all.0
    by false more = more

key-values : (cs : List Column) (row : List Datum) (ids : List ℕ) → AllByRecursion IsValue row → AllByRecursion IsValue (map (λ id. or_null (value_in cs row id)) ids)
key-values cs row [] all = tt
key-values cs row (id ∷ ids) all = (value-values cs row id all, key-values cs row ids all)

-- the bytes of a value are no more than those of all cells
datum-short : (x : Datum) (n : ℕ) → length (marked_value x) ≤ n → n < 2 ^ 64 → values.IsSized x
unfolding marked_value
datum-short (Int n) m le lt = tt
datum-short (Text t) m le lt = let e = length-append (uvarint (length t)) t in omega (arith, e, le, lt)
datum-short (Bytes b) m le lt = let e = length-append (uvarint (length b)) b in omega (arith, e, le, lt)
datum-short (Truth b) m le lt = tt
datum-short Null m le lt = tt

cells-short : (cells : List Cell) (n : ℕ) → length (row_value cells) ≤ n → n < 2 ^ 64 → (c : Cell) → Has c cells → values.IsSized c.datum
cells-short [] n le lt c has = absurd has
cells-short (d ∷ ds) n le lt c has =
    let all = length-append (cell_code d) (row_value ds) in
    let own = length-append (uvarint d.column) (marked_value d.datum) in
    ⊎_elim (λ (is : c ≡ d). subst (λ (x : Cell). values.IsSized x.datum) (sym is) (datum-short d.datum n (omega (arith, all, own, le)) lt)) (cells-short ds n (omega (arith, all, le)) lt c) has

below-all : (cs : List Column) (m : ℕ) → list_all (λ (c : Column). nat_lt (column_id c) m) cs ≡ true → (c : Column) → Has c cs → c.id < m
below-all [] m all c has = absurd has
below-all (d ∷ ds) m all c has =
    let p = both_true (nat_lt (column_id d) m) (list_all (λ (c : Column). nat_lt (column_id c) m) ds) all in
    ⊎_elim (λ (is : c ≡ d). let l = p.0 in let lt : d.id < m = grind (arith, nat_tests, l) in subst (λ (x : Column). x.id < m) (sym is) lt) (below-all ds m p.1 c) has

-- a small column id and a value
abbrev IsSmall : Cell → Type 0
IsSmall cell = (cell.column < 2 ^ 32) × IsValue cell.datum

-- cells of columns with small ids, each with a value
cells-are : (key : List ℕ) (cs : List Column) (row : List Datum) → ((c : Column) → Has c cs → c.id < 2 ^ 32) → AllByRecursion IsValue row → (cell : Cell) → Has cell (cells_in key cs row) → IsSmall cell
cells-are key [] row small all cell has = absurd has
cells-are key (c ∷ cs) [] small all cell has = absurd has
cells-are key (c ∷ cs) (x ∷ xs) small all cell has = ⊎_elim (one (has_id c.id key || is_null x)) (cells-are key cs xs (λ d h. small d (inr h)) all.1 cell) (has-append_cases cell (cell_in key c x) (cells_in key cs xs) has)
  where
    one : (b : Bool) → Has cell (if b then [] else record { column = c.id; datum = x } ∷ []) → IsSmall cell
    one true none = absurd none
    one false h = ⊎_elim (λ (is : cell ≡ record { column = c.id; datum = x }). subst IsSmall (sym is) (small c (inl refl), all.0)) (λ no. absurd no) h

-- ---- the facts of a row

right-rows : (d : Schema) (n : ℕ) (rows : List (List Datum)) → first_wrong (wrong_column d) n rows ≡ None → (row : List Datum) → Has row rows → wrong_column d row ≡ None
right-rows d n [] e row has = absurd has
right-rows d n (r ∷ rs) e row has =
    let w = wrong-none n (wrong_column d r) (first_wrong (wrong_column d) (n + 1) rs) e in
    ⊎_elim (λ (is : row ≡ r). subst (λ (x : List Datum). wrong_column d x ≡ None) (sym is) w.0) (right-rows d (n + 1) rs w.1 row) has

small-columns : (d : Schema) → IsProperSchema d → (c : Column) → Has c d.columns → c.id < 2 ^ 32
small-columns d proper c has =
    let lt = below-all d.columns d.next_column (ascends-below column_id 0 d.next_column d.columns proper.columns.ascend proper.next) c has in
    let top = proper.next_column in omega (arith, lt, top)

row-fact : (d : Schema) (t : Time) (row : List Datum) → IsProperSchema d → wrong_column d row ≡ None → AllByRecursion IsValue row → IsSized (key_kinds d) (put_of d t row) → IsRowFact (key_kinds d) (put_of d t row)
row-fact d t row proper right all sized = (
  (key-kinds d row proper.key_columns right, key-values d.columns row d.key_columns all),
  (
    cells-ascend d.key_columns 0 d.columns row proper.columns.ascend,
    AllByRecursion-has IsCell (cells_in d.key_columns d.columns row) (λ cell has. let p = cells-are d.key_columns d.columns row (small-columns d proper) all cell has in
        (p.0, p.1, cells-short (cells_in d.key_columns d.columns row) 32768 sized.1 (omega arith) cell has)),
  ),
)

module _ (d : Schema) (t : Time) (proper : IsProperSchema d) (time : IsTime t) where
  pub rows-new : (rows : List (List Datum)) → rows_fault d rows ≡ None → AllByRecursion AreValues rows → AreNew (key_kinds d) t (map (put_of d t) rows)
  rows-new rows fine all =
      let passed = rows-passed d rows fine in
      let sized = rows-sized d t rows time fine in
      record {
        dated = all-dated (key_kinds d) (key_of d) (put_of d t) t (λ x. refl) (λ x. refl) (λ x k touch. tied-keys (key_kinds d) (key_of d x) k touch) rows;
        facts = λ f has. (let p = map-has (put_of d t) f rows has in subst (IsRowFact (key_kinds d)) (sym p.2)
            (row-fact d t p.0 proper (right-rows d 1 rows passed.0 p.0 p.1) (has-AllByRecursion AreValues p.0 rows all p.1) (subst (IsSized (key_kinds d)) p.2 (sized f has))));
        sized = sized;
        apart = points-apart (key_kinds d) (key_of d) (put_of d t) t (λ x. refl) (λ x. refl) (λ x k touch. tied-keys (key_kinds d) (key_of d x) k touch) rows (keys-differ (key_kinds d) (map (key_of d) rows) passed.1);
        differ = no-ranges (key_kinds d) (key_of d) (put_of d t) t (λ x. refl) (λ x. refl) (λ x k touch. tied-keys (key_kinds d) (key_of d x) k touch) rows;
      }

  pub keys-new : (keys : List Key) → keys_fault d keys ≡ None → AllByRecursion AreValues keys → AreNew (key_kinds d) t (map (λ k. Del k t) keys)
  keys-new keys fine all =
      let passed = keys-passed d keys fine in
      let make : Key → RowFact = λ k. Del k t in
      record {
        dated = all-dated (key_kinds d) (λ k. k) make t (λ x. refl) (λ x. refl) (λ x k touch. tied-keys (key_kinds d) x k touch) keys;
        facts = λ f has. (let p = map-has make f keys has in subst (IsRowFact (key_kinds d)) (sym p.2) (all-has (are_of_kinds (key_kinds d)) keys p.0 passed.0 p.1, has-AllByRecursion AreValues p.0 keys all p.1));
        sized = keys-sized d t keys time fine;
        apart = points-apart (key_kinds d) (λ k. k) make t (λ x. refl) (λ x. refl) (λ x k touch. tied-keys (key_kinds d) x k touch) keys (subst (NoTwo (λ (a b : Key). a ≡ b)) (sym (map-itself keys)) (keys-differ (key_kinds d) keys passed.1));
        differ = no-ranges (key_kinds d) (λ k. k) make t (λ x. refl) (λ x. refl) (λ x k touch. tied-keys (key_kinds d) x k touch) keys;
      }
    where
      map-itself : {X : Type 0} (xs : List X) → map (λ (x : X). x) xs ≡ xs
      map-itself [] = refl
      map-itself (x ∷ xs) = ap (λ ys. x ∷ ys) (map-itself xs)

  pub range-new : (lo hi : Key) → range_fault d lo hi ≡ None → AreValues lo → AreValues hi → AreNew (key_kinds d) t (DelRange lo hi t ∷ [])
  range-new lo hi fine low high =
      let passed = range-passed d lo hi fine in
      let only : (P : RowFact → Type 0) → P (DelRange lo hi t) → (f : RowFact) → Has f (DelRange lo hi t ∷ []) → P f = λ P is f has. ⊎_elim (λ (same : f ≡ DelRange lo hi t). subst P (sym same) is) (λ no. absurd no) has in
      record {
        dated = only (λ (f : RowFact). date f ≡ t) refl;
        facts = only (IsRowFact (key_kinds d)) ((passed.0, low), (passed.1, high));
        sized = range-sized d t lo hi time fine;
        apart = two-one (TouchOneKey (row_cmp (key_kinds d))) (DelRange lo hi t);
        differ = two-one AreRangesOfOneDate (DelRange lo hi t);
      }
