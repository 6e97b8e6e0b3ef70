-- Row values are read as they are written.
use Rattle.std.proofs.Common.{◌≡◌, ℕ, zero, suc, ◌-◌, ◌<◌, ◌≤◌, ◌^◌, Bool, true, false, List, [], ◌∷◌, ◌++◌, length, get_or, take, drop, nat_eq, nat_lt, nat_le, Option, Some, None, Result, Ok, Err, inl, inr, arith, refl, sym, ap, ◌∙◌, append_assoc, append-nil, length-append}
use Rattle.std.specs.Prelude.{◌&&◌}
use Rattle.std.specs.List.{AllByRecursion}
use Rattle.std.proofs.lemmas.Bool.{cases_Bool}
use Rattle.std.proofs.lemmas.Bool.Decides.{nat_tests}
use Rattle.std.proofs.lemmas.List.{take_at, drop_at, take-append-drop, length-take-le}
use Rattle.list_laws.specs.Bytes.{AreBytes}
use Rattle.key_encoding.specs.Spelling.{uvarint}
use Rattle.key_encoding.specs.Reading.{read_uvarint, read_varint}
use Rattle.key_encoding.specs.declared.fault.KeyFault.{KeyFault}
use Rattle.key_encoding.proofs.Grammars.{uvarint-found, uvarint-only, varint-found, varint-only}
use Rattle.key_encoding.proofs.SignedOrder.{first_high}
use Rattle.row_codec.specs.RowOrder.{rank}
use Rattle.row_codec.specs.RowKeys.{IsValue}
use Rattle.row_codec.specs.KeyReading.{valued, an_id, a_number, a_text, some_bytes}
use Rattle.row_codec.specs.RowValues.{are_cells, IsSized, IsCell, sized, marked_value, cell_code, row_value, cut, read_sized, beside_rest, made, read_flag, read_marked_value, of_column, after_column, read_cell, with_cell, with_cells, reads, next_cell, read_cells, read_row_value, RowValuesAreExact}
use Rattle.row_codec.specs.declared.rows.Cell.{Cell}
use Rattle.row_codec.specs.declared.rows.Datum.{Datum}
use Rattle.row_codec.specs.declared.rows.Datum.TheVariants.{Int, Text, Bytes, Bool as Truth, Null}
use Rattle.row_codec.proofs.KeyOrder.{both_true}
use Rattle.row_codec.proofs.KeyLaws.{pair_parts, some_is, valued-some, id-found, id-only, text-is}
use Rattle.list_laws.proofs.Bytes.{bytes-after, bytes-before}

-- ---- bytes with their length in front

pub sized-found : (b r : List ℕ) → length b < 2 ^ 64 → read_sized (sized b ++ r) ≡ Some (b, r)
unfolding read_sized
sized-found b r h =
    let room : nat_le (length b) (length (b ++ r)) ≡ true = let l = length-append b r in grind (arith, nat_tests) in
    rw (append_assoc (uvarint (length b)) b r, uvarint-found (length b) (b ++ r) h, room, take_at b r (length b) refl, drop_at b r (length b) refl) refl

cut-some : (o : Result (ℕ × List ℕ) KeyFault) (v r : List ℕ) → cut o ≡ Some (v, r) → (n : ℕ) × (t : List ℕ) × (o ≡ Ok (n, t)) × (length v ≡ n) × (t ≡ v ++ r)
cut-some (Ok p) v r e =
    elim (cases_Bool (nat_le p.0 (length p.1))) [
      | inl y ↦
          let parts = pair_parts (take p.0 p.1, drop p.0 p.1) (v, r) (some_is (take p.0 p.1, drop p.0 p.1) (v, r) (rw y at e)) in
          (p.0, p.1, refl, rw (← parts.0) (length-take-le p.0 p.1 (grind (arith, nat_tests))), rw (← parts.0, ← parts.1) (sym (take-append-drop p.0 p.1)))
      | inr f ↦ let e' = rw f at e in absurd (cc)
    ]
cut-some (Err err) v r e = absurd (cc)

pub sized-only : (b v r : List ℕ) → AreBytes b → read_sized b ≡ Some (v, r) → (length v < 2 ^ 64) × AreBytes v × (b ≡ sized v ++ r)
unfolding read_sized
sized-only b v r h e =
    let read = cut-some (read_uvarint b) v r e in
    let only = uvarint-only b read.0 read.1 h read.2 in
    let front : b ≡ uvarint (length v) ++ read.1 = rw read.3 only.1 in
    let whole : b ≡ uvarint (length v) ++ (v ++ r) = front ∙ ap (λ t. uvarint (length v) ++ t) read.4 in
    (rw read.3 only.0, bytes-before v r (bytes-after (uvarint (length v)) (v ++ r) (rw whole at h)), whole ∙ sym (append_assoc (uvarint (length v)) v r))

-- ---- values

marked-found : (x : Datum) (r : List ℕ) → 0 < rank x → IsValue x → IsSized x → read_marked_value (marked_value x ++ r) ≡ Some (x, r)
unfolding marked_value read_marked_value
marked-found (Int n) r p h s = rw (varint-found n r h) refl
marked-found (Text t) r p h s = rw (sized-found t r s, h.1) refl
marked-found (Bytes b) r p h s = rw (sized-found b r s) refl
marked-found (Truth true) r p h s = refl
marked-found (Truth false) r p h s = refl
marked-found Null r p h s = absurd (omega arith)

-- what was read is a value, and it is spelled there
abbrev IsMarked : List ℕ → Datum → List ℕ → Type 0
IsMarked b x r = (0 < rank x) × IsValue x × IsSized x × (b ≡ marked_value x ++ r)

made-some : (f : List ℕ → Option Datum) (o : Option (List ℕ × List ℕ)) (x : Datum) (r : List ℕ) → made f o ≡ Some (x, r) → (v : List ℕ) × (o ≡ Some (v, r)) × (f v ≡ Some x)
made-some f (Some p) x r e = by (f p.0) refl e
  where
    by : (o : Option Datum) → f p.0 ≡ o → beside_rest p.1 o ≡ Some (x, r) → (v : List ℕ) × ((let w : Option (List ℕ × List ℕ) = Some p in w) ≡ Some (v, r)) × (f v ≡ Some x)
    by (Some y) is h =
        let parts = pair_parts (y, p.1) (x, r) (some_is (y, p.1) (x, r) h) in
        (p.0, ap (λ (u : List ℕ). let w : Option (List ℕ × List ℕ) = Some (p.0, u) in w) parts.1, is ∙ ap (λ u. Some u) parts.0)
    by None is h = absurd (cc)
made-some f None x r e = absurd (cc)

int_marked : (b : List ℕ) (x : Datum) (r : List ℕ) → AreBytes b → valued a_number (read_varint b) ≡ Some (x, r) → IsMarked (1 ∷ b) x r
unfolding marked_value
int_marked b x r h e =
    let read = valued-some a_number (read_varint b) x r e in
    let only = varint-only b read.0 r h read.1 in
    rw (← some_is (Int read.0) x read.2) (omega arith, only.0, tt, ap (λ t. 1 ∷ t) only.1)

text_marked : (b : List ℕ) (x : Datum) (r : List ℕ) → AreBytes b → made a_text (read_sized b) ≡ Some (x, r) → IsMarked (2 ∷ b) x r
unfolding marked_value
text_marked b x r h e =
    let read = made-some a_text (read_sized b) x r e in
    let only = sized-only b read.0 r h read.1 in
    let is = text-is read.0 x read.2 in
    rw (← is.1) (omega arith, (only.1, is.0), only.0, ap (λ t. 2 ∷ t) only.2)

blob_marked : (b : List ℕ) (x : Datum) (r : List ℕ) → AreBytes b → made some_bytes (read_sized b) ≡ Some (x, r) → IsMarked (3 ∷ b) x r
unfolding marked_value
blob_marked b x r h e =
    let read = made-some some_bytes (read_sized b) x r e in
    let only = sized-only b read.0 r h read.1 in
    rw (← some_is (Bytes read.0) x read.2) (omega arith, only.1, only.0, ap (λ t. 3 ∷ t) only.2)

flag_marked : (b : List ℕ) (x : Datum) (r : List ℕ) → read_flag b ≡ Some (x, r) → IsMarked (4 ∷ b) x r
unfolding marked_value
flag_marked [] x r e = absurd (cc)
flag_marked (f ∷ b) x r e =
    elim (cases_Bool (nat_eq f 0)) [
      | inl z ↦
          let parts = pair_parts (Truth false, b) (x, r) (some_is (Truth false, b) (x, r) (rw z at e)) in
          let is : f ≡ 0 = grind (arith, nat_tests) in
          rw (← parts.0) (omega arith, tt, tt, rw (is, parts.1) refl)
      | inr g ↦ elim (cases_Bool (nat_eq f 1)) [
        | inl o ↦
            let parts = pair_parts (Truth true, b) (x, r) (some_is (Truth true, b) (x, r) (rw (g, o) at e)) in
            let is : f ≡ 1 = grind (arith, nat_tests) in
            rw (← parts.0) (omega arith, tt, tt, rw (is, parts.1) refl)
        | inr k ↦ let e' = rw (g, k) at e in absurd (cc)
      ]
    ]

marked-only : (b : List ℕ) (x : Datum) (r : List ℕ) → AreBytes b → read_marked_value b ≡ Some (x, r) → IsMarked b x r
unfolding read_marked_value
marked-only [] x r h e = absurd (cc)
marked-only (mark ∷ b) x r h e =
    elim (cases_Bool (nat_eq mark 1)) [
      | inl t ↦ let is : mark ≡ 1 = grind (arith, nat_tests) in rw is (int_marked b x r h.1 (rw t at e))
      | inr n1 ↦ elim (cases_Bool (nat_eq mark 2)) [
        | inl t ↦ let is : mark ≡ 2 = grind (arith, nat_tests) in rw is (text_marked b x r h.1 (rw (n1, t) at e))
        | inr n2 ↦ elim (cases_Bool (nat_eq mark 3)) [
          | inl t ↦ let is : mark ≡ 3 = grind (arith, nat_tests) in rw is (blob_marked b x r h.1 (rw (n1, n2, t) at e))
          | inr n3 ↦ elim (cases_Bool (nat_eq mark 4)) [
            | inl t ↦ let is : mark ≡ 4 = grind (arith, nat_tests) in rw is (flag_marked b x r (rw (n1, n2, n3, t) at e))
            | inr n4 ↦ let e' = rw (n1, n2, n3, n4) at e in absurd (cc)
          ]
        ]
      ]
    ]

pub cell-found : (last : ℕ) (c : Cell) (r : List ℕ) → nat_lt last c.column ≡ true → 0 < rank c.datum → IsCell c → read_cell last (cell_code c ++ r) ≡ Some (c, r)
unfolding read_cell
cell-found last c r above some h =
    rw (append_assoc (uvarint c.column) (marked_value c.datum) r, id-found c.column (marked_value c.datum ++ r) h.0, above, marked-found c.datum r some h.1 h.2) refl

of_column-some : (n : ℕ) (o : Option (Datum × List ℕ)) (c : Cell) (r : List ℕ) → of_column n o ≡ Some (c, r) → (n ≡ c.column) × (o ≡ Some (c.datum, r))
of_column-some n (Some p) c r e =
    let made_of : Cell = record { column = n; datum = p.0 } in
    let parts = pair_parts (made_of, p.1) (c, r) (some_is (made_of, p.1) (c, r) e) in
    let datum : p.0 ≡ c.datum = ap (λ (k : Cell). k.datum) parts.0 in (
      ap (λ (k : Cell). k.column) parts.0,
      ap (λ (x : Datum). let w : Option (Datum × List ℕ) = Some (x, p.1) in w) datum ∙ ap (λ (u : List ℕ). let w : Option (Datum × List ℕ) = Some (c.datum, u) in w) parts.1,
    )
of_column-some n None c r e = absurd (cc)

after_column-some : (last : ℕ) (o : Option (ℕ × List ℕ)) (c : Cell) (r : List ℕ) → after_column last o ≡ Some (c, r) → (t : List ℕ) × (o ≡ Some (c.column, t)) × (last < c.column) × (read_marked_value t ≡ Some (c.datum, r))
after_column-some last (Some p) c r e =
    elim (cases_Bool (nat_lt last p.0)) [
      | inl y ↦
          let of = of_column-some p.0 (read_marked_value p.1) c r (rw y at e) in
          let above : last < p.0 = grind (arith, nat_tests) in
          (p.1, ap (λ (n : ℕ). let w : Option (ℕ × List ℕ) = Some (n, p.1) in w) of.0, rw of.0 at above, of.1)
      | inr f ↦ let e' = rw f at e in absurd (cc)
    ]
after_column-some last None c r e = absurd (cc)

pub cell-only : (last : ℕ) (b : List ℕ) (c : Cell) (r : List ℕ) → AreBytes b → read_cell last b ≡ Some (c, r) → (last < c.column) × (0 < rank c.datum) × IsCell c × (b ≡ cell_code c ++ r)
unfolding read_cell
cell-only last b c r h e =
    let column = after_column-some last (valued an_id (read_uvarint b)) c r e in
    let id = id-only b c.column column.0 h column.1 in
    let value = marked-only column.0 c.datum r (bytes-after (uvarint c.column) column.0 (rw id.1 at h)) column.3 in
    (column.2, value.0, (id.0, value.1, value.2), id.1 ∙ (ap (λ t. uvarint c.column ++ t) value.3 ∙ sym (append_assoc (uvarint c.column) (marked_value c.datum) r)))

pub cell-rest : (last : ℕ) (b : List ℕ) (c : Cell) (r : List ℕ) → AreBytes b → read_cell last b ≡ Some (c, r) → AreBytes r
cell-rest last b c r h e = bytes-after (cell_code c) r (rw (cell-only last b c r h e).3 at h)

code-taken : (c : Cell) (r : List ℕ) → c.column < 2 ^ 32 → length r < length (cell_code c ++ r)
code-taken c r h =
    let first = first_high c.column [] (omega arith) in
    let one : length (uvarint c.column) ≡ suc (length first.1) = ap (λ (t : List ℕ). length t) (rw (append-nil (uvarint c.column)) at first.2) in
    omega (arith, length-append (uvarint c.column ++ marked_value c.datum) r, length-append (uvarint c.column) (marked_value c.datum))

pub cell-shorter : (last : ℕ) (b : List ℕ) (c : Cell) (r : List ℕ) → AreBytes b → read_cell last b ≡ Some (c, r) → length r < length b
cell-shorter last b c r h e =
    let only = cell-only last b c r h e in
    rw only.3 (code-taken c r only.2.0)

pub bytes_by_index : (b : List ℕ) → ((i : ℕ) → get_or b i 0 < 256) → AreBytes b
bytes_by_index [] h = tt
bytes_by_index (x ∷ b) h = (h 0, bytes_by_index b (λ i. h (suc i)))

-- ---- lists of cells

cells-step : (n last len : ℕ) (b : List ℕ) → 0 < length b → read_cells (suc n) last len b ≡ next_cell (λ column rest. read_cells n column len rest) (len - length b) (read_cell last b)
cells-step n last len [] h = absurd (omega arith)
cells-step n last len (x ∷ b) h = refl

cells_are : (cs ds : List Cell) → (let w : Result (List Cell) ℕ = Ok cs in w ≡ Ok ds) → cs ≡ ds
cells_are cs ds e = cc

same_turns : (f g : ℕ → ℕ → List ℕ → Result (List Cell) ℕ) (len at : ℕ) (o : Option (Cell × List ℕ)) → ((c : Cell) (r : List ℕ) → o ≡ Some (c, r) → f c.column len r ≡ g c.column len r)
    → next_cell (λ column rest. f column len rest) at o ≡ next_cell (λ column rest. g column len rest) at o
same_turns f g len at (Some p) same = ap (with_cell p.0) (same p.0 p.1 refl)
same_turns f g len at None same = refl

next_cell-ok : (f : ℕ → ℕ → List ℕ → Result (List Cell) ℕ) (len at : ℕ) (o : Option (Cell × List ℕ)) (cells : List Cell) → next_cell (λ column rest. f column len rest) at o ≡ Ok cells
    → (c : Cell) × (r : List ℕ) × (o ≡ Some (c, r)) × (others : List Cell) × (f c.column len r ≡ Ok others) × (c ∷ others ≡ cells)
next_cell-ok f len at (Some p) cells e = by (f p.0.column len p.1) refl e
  where
    by : (o : Result (List Cell) ℕ) → f p.0.column len p.1 ≡ o → with_cell p.0 o ≡ Ok cells
        → (c : Cell) × (r : List ℕ) × ((let w : Option (Cell × List ℕ) = Some p in w) ≡ Some (c, r)) × (others : List Cell) × (f c.column len r ≡ Ok others) × (c ∷ others ≡ cells)
    by (Ok others) is h = (p.0, p.1, refl, others, is, cells_are (p.0 ∷ others) cells h)
    by (Err k) is h = absurd (cc)
next_cell-ok f len at None cells e = absurd (cc)

one_cell : (last : ℕ) (c : Cell) (others cells : List Cell) (b r : List ℕ) → (last < c.column) × (0 < rank c.datum) × IsCell c × (b ≡ cell_code c ++ r)
    → (are_cells c.column others ≡ true) × AllByRecursion IsCell others × (r ≡ row_value others) → c ∷ others ≡ cells → (are_cells last cells ≡ true) × AllByRecursion IsCell cells × (b ≡ row_value cells)
one_cell last c others cells b r first rest e =
    let above : nat_lt last c.column ≡ true = let f = first.0 in grind (arith, nat_tests) in
    let some : nat_lt 0 (rank c.datum) ≡ true = let f = first.1 in grind (arith, nat_tests) in
    rw (← e) (rw (above, some) rest.0, (first.2, rest.1), first.3 ∙ ap (λ t. cell_code c ++ t) rest.2)

-- more turns than bytes change nothing
pub fuel : (n m last len : ℕ) (b : List ℕ) → AreBytes b → length b ≤ n → length b ≤ m → read_cells n last len b ≡ read_cells m last len b
fuel n m last len [] h hn hm = refl
fuel zero m last len (x ∷ b) h hn hm = absurd (omega arith)
fuel (suc n) zero last len (x ∷ b) h hn hm = absurd (omega arith)
fuel (suc n) (suc m) last len (x ∷ b) h hn hm = same_turns (read_cells n) (read_cells m) len (len - suc (length b)) (read_cell last (x ∷ b)) (λ c r e.
    let shorter : length r < suc (length b) = cell-shorter last (x ∷ b) c r h e in
    fuel n m c.column len r (cell-rest last (x ∷ b) c r h e) (omega arith) (omega arith))

cells-found : (cells : List Cell) (n last len : ℕ) → are_cells last cells ≡ true → AllByRecursion IsCell cells → length cells ≤ n → read_cells n last len (row_value cells) ≡ Ok cells
cells-found [] n last len a h le = refl
cells-found (c ∷ cells) zero last len a h le = absurd (omega arith)
cells-found (c ∷ cells) (suc n) last len a h le =
    let above = both_true (nat_lt last c.column) (nat_lt 0 (rank c.datum)) (both_true (nat_lt last c.column && nat_lt 0 (rank c.datum)) (are_cells c.column cells) a).0 in
    let others = (both_true (nat_lt last c.column && nat_lt 0 (rank c.datum)) (are_cells c.column cells) a).1 in
    let taken = code-taken c (row_value cells) h.0.0 in
    let first = cell-found last c (row_value cells) above.0 (let t = above.1 in grind (arith, nat_tests)) h.0 in
    cells-step n last len (cell_code c ++ row_value cells) (omega arith) ∙ rw (first, cells-found cells n c.column len others h.1 (omega arith)) refl

cells-only : (n last len : ℕ) (b : List ℕ) (cells : List Cell) → AreBytes b → read_cells n last len b ≡ Ok cells → (are_cells last cells ≡ true) × AllByRecursion IsCell cells × (b ≡ row_value cells)
cells-only n last len [] cells h e = let is = cells_are [] cells e in rw (← is) (refl, tt, refl)
cells-only zero last len (x ∷ b) cells h e = absurd (cc)
cells-only (suc n) last len (x ∷ b) cells h e =
    let step = next_cell-ok (read_cells n) len (len - suc (length b)) (read_cell last (x ∷ b)) cells e in
    let first = cell-only last (x ∷ b) step.0 step.1 h step.2 in
    let others = cells-only n step.0.column len step.1 step.3 (cell-rest last (x ∷ b) step.0 step.1 h step.2) step.4 in
    one_cell last step.0 step.3 cells (x ∷ b) step.1 first others step.5

cells-fit : (cells : List Cell) → AllByRecursion IsCell cells → length cells ≤ length (row_value cells)
cells-fit [] h = omega arith
cells-fit (c ∷ cells) h = let rest = cells-fit cells h.1 in let taken = code-taken c (row_value cells) h.0.0 in omega arith

whole-found : (cells : List Cell) → are_cells 0 cells ≡ true → AllByRecursion IsCell cells → read_row_value (row_value cells) ≡ Ok cells
whole-found cells a h = cells-found cells (length (row_value cells)) 0 (length (row_value cells)) a h (cells-fit cells h)

pub row_values-exact : RowValuesAreExact
row_values-exact = record {
  found = whole-found;
  only = λ b cells h e. cells-only (length b) 0 (length b) b cells h e;
  apart = λ cs ds ac ad hc hd e. cells_are cs ds (sym (whole-found cs ac hc) ∙ (ap read_row_value e ∙ whole-found ds ad hd));
}

-- ---- the loops over cells

taken : (last column : ℕ) (x : Datum) (b t r : List ℕ) → last < column → valued an_id (read_uvarint b) ≡ Some (column, t) → read_marked_value t ≡ Some (x, r) → read_cell last b ≡ Some (record { column = column; datum = x }, r)
unfolding read_cell
taken last column x b t r above et ex =
    let up : nat_lt last column ≡ true = grind (arith, nat_tests) in
    rw (et, up, ex) refl

read_one : (last len : ℕ) (left : List ℕ) (c : Cell) (r : List ℕ) → AreBytes left → read_cell last left ≡ Some (c, r)
    → read_cells (length left) last len left ≡ with_cell c (read_cells (length r) c.column len r)
read_one last len [] c r h e = let shorter = cell-shorter last [] c r h e in absurd (omega arith)
read_one last len (x ∷ b) c r h e =
    let shorter : length r < suc (length b) = cell-shorter last (x ∷ b) c r h e in
    rw e (ap (with_cell c) (fuel (length b) (length r) c.column len r (cell-rest last (x ∷ b) c r h e) (omega arith) (omega arith)))

-- a cell was taken: fewer bytes are left, and the cells in front are that one and those that are left
pub goes_on : (last column : ℕ) (x : Datum) (b t r : List ℕ) → AreBytes b → last < column → valued an_id (read_uvarint b) ≡ Some (column, t) → read_marked_value t ≡ Some (x, r)
    → (length r < length b) × ((len : ℕ) → read_cells (length b) last len b ≡ with_cell (record { column = column; datum = x }) (read_cells (length r) column len r))
goes_on last column x b t r h above et ex =
    let c : Cell = record { column = column; datum = x } in
    let whole = taken last column x b t r above et ex in
    (cell-shorter last b c r h whole, λ len. read_one last len b c r h whole)

reads-with : (c : Cell) (o : Result (List Cell) ℕ) → reads (with_cell c o) ≡ reads o
reads-with c (Ok cs) = refl
reads-with c (Err k) = refl

pub checked_one : (c : Cell) (before after : Result (List Cell) ℕ) (whole : Bool) → before ≡ with_cell c after → reads before ≡ whole → reads after ≡ whole
checked_one c before after whole e is = sym (reads-with c after) ∙ (ap reads (sym e) ∙ is)

with_cells-push : (cs : List Cell) (c : Cell) (o : Result (List Cell) ℕ) → with_cells (cs ++ c ∷ []) o ≡ with_cells cs (with_cell c o)
with_cells-push cs c (Ok ds) = ap (λ (t : List Cell). let w : Result (List Cell) ℕ = Ok t in w) (append_assoc cs (c ∷ []) ds)
with_cells-push cs c (Err k) = refl

pub pushed_one : (cs ds : List Cell) (c : Cell) (before after whole : Result (List Cell) ℕ) → ds ≡ cs ++ c ∷ [] → before ≡ with_cell c after → with_cells cs before ≡ whole → with_cells ds after ≡ whole
pushed_one cs ds c before after whole p e is = rw p (with_cells-push cs c after ∙ (ap (with_cells cs) (sym e) ∙ is))
