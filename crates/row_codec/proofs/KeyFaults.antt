-- Row keys and row values that are refused, are refused at their first fault.
use Rattle.std.proofs.Common.{◌≡◌, ℕ, zero, suc, ◌-◌, ◌<◌, ◌≤◌, ◌^◌, true, List, [], ◌∷◌, ◌++◌, length, nat_eq, nat_lt, Option, Some, None, Result, Ok, Err, ◌⊎◌, inl, inr, arith, refl, sym, ap, ◌∙◌, append_assoc, length-append}
use Rattle.std.specs.Prelude.{fold}
use Rattle.std.proofs.lemmas.Bool.Decides.{nat_tests}
use Rattle.list_laws.specs.Bytes.{AreBytes}
use Rattle.key_encoding.specs.Spelling.{uvarint}
use Rattle.key_encoding.specs.Reading.{read_uvarint}
use Rattle.row_codec.specs.KeyReading.{◌>>=◌, or_at, valued, an_id, read_byte, read_datum, with_first, read_values, read_key_front, read_row_key}
use Rattle.row_codec.specs.RowKeys.{IsValue, datum_code, is_of_kind}
use Rattle.row_codec.specs.RowOrder.{is_down, rank}
use Rattle.row_codec.specs.RowValues.{IsCell, cell_code, read_cell, next_cell, with_cell, read_cells, read_row_value}
use Rattle.row_codec.specs.FirstFaults.{Grammar, Over, Item, UpToEnd, HasNone, spellings, EachFrom, mark, values, key_grammar, value_grammar, KeyFaultsAreFirst, ValueFaultsAreFirst}
use Rattle.row_codec.specs.declared.rows.Cell.{Cell}
use Rattle.row_codec.specs.declared.rows.Datum.{Datum}
use Rattle.row_codec.specs.declared.rows.Kind.{Kind}
use Rattle.row_codec.proofs.KeyLaws.{pair_parts, ok_is, some_is, or_at-ok, id-found, id-only, byte-only, datum-found, datum-only, after_index, after_table, after_values}
use Rattle.row_codec.proofs.ValueLaws.{cell-found, cell-only, cell-rest, cell-shorter}
use Rattle.row_codec.proofs.FaultWalks.{LeftAt, Walks, item-walks, none-walks, bind-walks, all-tells, told}

-- ---- one field

or_at-err : {A : Type 0} (at k : ℕ) (o : Option A) → or_at at o ≡ Err k → k ≡ at
or_at-err at k (Some x) e = absurd (cc)
or_at-err at k None e = cc

-- a field that reads just the spellings of an item
field-walks : {X : Type 0} (P : X → Type 0) (code : X → List ℕ) (next : X → Grammar) (len : ℕ) (b : List ℕ) (o : Option (X × List ℕ)) → AreBytes b → ((x : X) (r : List ℕ) → P x → b ≡ code x ++ r → o ≡ Some (x, r))
    → ((x : X) (r : List ℕ) → o ≡ Some (x, r) → P x × (b ≡ code x ++ r)) → Walks (λ n. len - n) (Item P code next) next b (or_at (len - length b) o)
field-walks {X} P code next len b o h found only =
    item-walks P code next (λ n. len - n) b (or_at (len - length b) o) h (λ x r p spelled. ap (or_at (len - length b)) (found x r p spelled)) (λ x r e. only x r (or_at-ok (len - length b) o (x, r) e)) (λ at e. or_at-err (len - length b) at o e)

-- a byte, of which nothing is kept
abbrev beside_none : Option (List ℕ) → Option (Unit {0} × List ℕ)
beside_none (Some r) = Some (tt, r)
beside_none None = None

beside_none-some : (o : Option (List ℕ)) (u : Unit {0}) (r : List ℕ) → beside_none o ≡ Some (u, r) → o ≡ Some r
beside_none-some (Some q) u r e = ap (λ (t : List ℕ). Some t) (pair_parts (tt, q) (u, r) (some_is (tt, q) (u, r) e)).1
beside_none-some None u r e = absurd (cc)

unit_is : (u : Unit {0}) → tt ≡ u
unit_is u = refl

byte-found : (x : ℕ) (u : Unit {0}) (b r : List ℕ) → b ≡ x ∷ r → beside_none (read_byte x b) ≡ Some (u, r)
byte-found x u b r e = let same : nat_eq x x ≡ true = grind (arith, nat_tests) in rw (e, same) (ap (λ (v : Unit {0}). let w : Option (Unit {0} × List ℕ) = Some (v, r) in w) (unit_is u))

same_turn : {Z : Type 0} (at : ℕ) (o : Option (List ℕ)) (f : List ℕ → Result (Z × List ℕ) ℕ) → (or_at at o >>= f) ≡ (or_at at (beside_none o) >>= (λ p. f p.1))
same_turn at (Some r) f = refl
same_turn at None f = refl

mark-walks : {Z : Type 0} (x len : ℕ) (next : Grammar) (last : Z → Grammar) (b : List ℕ) (f : List ℕ → Result (Z × List ℕ) ℕ) → AreBytes b
    → ((r : List ℕ) → AreBytes r → Walks (λ n. len - n) next last r (f r)) → Walks (λ n. len - n) (mark (x ∷ []) next) last b (or_at (len - length b) (read_byte x b) >>= f)
mark-walks {Z} x len next last b f h others =
    let one = field-walks (λ (u : Unit {0}). Unit {0}) (λ u. x ∷ []) (λ u. next) len b (beside_none (read_byte x b)) h (λ u r p e. byte-found x u b r e) (λ u r e. (tt, byte-only x b r (beside_none-some (read_byte x b) u r e))) in
    rw (same_turn (len - length b) (read_byte x b) f) (bind-walks (λ n. len - n) (mark (x ∷ []) next) (λ u. next) last b (or_at (len - length b) (beside_none (read_byte x b))) (λ p. f p.1) one (λ u r hr. others r hr))

-- ---- keys

datum-walks : (kind : Kind) (next : Grammar) (len : ℕ) (b : List ℕ) → AreBytes b → Walks (λ n. len - n) (Item (λ (x : Datum). (is_of_kind kind x ≡ true) × IsValue x) (datum_code (is_down kind)) (λ x. next)) (λ x. next) b (or_at (len - length b) (read_datum kind b))
datum-walks kind next len b h =
    field-walks (λ (x : Datum). (is_of_kind kind x ≡ true) × IsValue x) (datum_code (is_down kind)) (λ x. next) len b (read_datum kind b) h
    (λ x r p spelled. rw spelled (datum-found kind x r p.0 p.1))
    (λ x r e.
    let only = datum-only kind b x r h e in
    let of_kind : is_of_kind kind x ≡ true = let same = only.0 in grind (arith, nat_tests) in
    ((of_kind, only.1), only.2))

with_first-walks : (next last : Grammar) (len : ℕ) (b : List ℕ) (x : Datum) (o : Result (List Datum × List ℕ) ℕ) → Walks (λ n. len - n) next (λ xs. last) b o → Walks (λ n. len - n) next (λ xs. last) b (with_first x o)
with_first-walks next last len b x (Ok p) w = record {
  fails = λ at e. absurd (cc);
  goes = λ xs r e. let parts = pair_parts (x ∷ p.0, p.1) (xs, r) (ok_is (x ∷ p.0, p.1) (xs, r) e) in rw (← parts.1) (w.goes p.0 p.1 refl);
  back = λ left l. by left (w.back left l);
}
  where
    by : (left : ℕ) → ((let u : Result (List Datum × List ℕ) ℕ = Ok p in u) ≡ Err (len - left)) ⊎ ((xs : List Datum) × (r : List ℕ) × ((let u : Result (List Datum × List ℕ) ℕ = Ok p in u) ≡ Ok (xs, r)) × LeftAt last r left)
        → ((let u : Result (List Datum × List ℕ) ℕ = Ok (x ∷ p.0, p.1) in u) ≡ Err (len - left)) ⊎ ((xs : List Datum) × (r : List ℕ) × ((let u : Result (List Datum × List ℕ) ℕ = Ok (x ∷ p.0, p.1) in u) ≡ Ok (xs, r)) × LeftAt last r left)
    by left (inl e) = absurd (cc)
    by left (inr s) = let parts = pair_parts p (s.0, s.1) (ok_is p (s.0, s.1) s.2) in inr (x ∷ p.0, p.1, refl, rw (← parts.1) at s.3)
with_first-walks next last len b x (Err k) w = record {
  fails = λ at e. w.fails at e;
  goes = λ xs r e. absurd (cc);
  back = λ left l. by left (w.back left l);
}
  where
    by : (left : ℕ) → ((let u : Result (List Datum × List ℕ) ℕ = Err k in u) ≡ Err (len - left)) ⊎ ((xs : List Datum) × (r : List ℕ) × ((let u : Result (List Datum × List ℕ) ℕ = Err k in u) ≡ Ok (xs, r)) × LeftAt last r left)
        → ((let u : Result (List Datum × List ℕ) ℕ = Err k in u) ≡ Err (len - left)) ⊎ ((xs : List Datum) × (r : List ℕ) × ((let u : Result (List Datum × List ℕ) ℕ = Err k in u) ≡ Ok (xs, r)) × LeftAt last r left)
    by left (inl e) = inl e
    by left (inr s) = let e = s.2 in absurd (cc)

values-walks : (kinds : List Kind) (next : Grammar) (len : ℕ) (b : List ℕ) → AreBytes b → Walks (λ n. len - n) (values kinds next) (λ xs. next) b (read_values kinds len b)
values-walks [] next len b h = none-walks (λ n. len - n) (λ xs. next) [] b h
values-walks (kind ∷ kinds) next len b h =
    bind-walks (λ n. len - n) (values (kind ∷ kinds) next) (λ x. values kinds next) (λ xs. next) b (or_at (len - length b) (read_datum kind b)) (λ p. with_first p.0 (read_values kinds len p.1)) (datum-walks kind (values kinds next) len b h)
    (λ x r hr. with_first-walks (values kinds next) next len r x (read_values kinds len r) (values-walks kinds next len r hr))

id-walks : (next : Grammar) (len : ℕ) (b : List ℕ) → AreBytes b → Walks (λ n. len - n) (Item (λ (table : ℕ). table < 2 ^ 32) uvarint (λ table. next)) (λ table. next) b (or_at (len - length b) (valued an_id (read_uvarint b)))
id-walks next len b h = field-walks (λ (table : ℕ). table < 2 ^ 32) uvarint (λ table. next) len b (valued an_id (read_uvarint b)) h (λ n r fits spelled. rw spelled (id-found n r fits)) (λ n r e. id-only b n r h e)

key-walks : (kinds : List Kind) (len : ℕ) (b : List ℕ) → AreBytes b → Walks (λ n. len - n) (key_grammar kinds) (λ key. Over) b (read_key_front kinds len b)
unfolding read_key_front
key-walks kinds len b h =
    bind-walks (λ n. len - n) (key_grammar kinds) (λ table. mark (137 ∷ []) (values kinds (mark (136 ∷ []) Over))) (λ key. Over) b (or_at (len - length b) (valued an_id (read_uvarint b))) (λ table. after_table kinds len table)
    (id-walks (mark (137 ∷ []) (values kinds (mark (136 ∷ []) Over))) len b h)
    (λ table r hr. mark-walks 137 len (values kinds (mark (136 ∷ []) Over)) (λ key. Over) r (λ index. after_index kinds len table index) hr
    (λ index hi. bind-walks (λ n. len - n) (values kinds (mark (136 ∷ []) Over)) (λ xs. mark (136 ∷ []) Over) (λ key. Over) index (read_values kinds len index) (λ v. after_values len table v) (values-walks kinds (mark (136 ∷ []) Over) len index hi)
    (λ xs rest hx. mark-walks 136 len Over (λ key. Over) rest (λ family. Ok ((table, xs), family)) hx (λ family hf. none-walks (λ n. len - n) (λ key. Over) (table, xs) family hf))))

pub key_faults-first : KeyFaultsAreFirst
unfolding read_row_key
key_faults-first kinds = told (key_grammar kinds) (read_row_key kinds) (λ b h. all-tells (key_grammar kinds) b (read_key_front kinds (length b) b) (key-walks kinds (length b) b h))

-- ---- row values

abbrev MayFollow : ℕ → Cell → Type 0
MayFollow last c = (last < c.column) × (0 < rank c.datum) × IsCell c

abbrev column_after : ℕ → Cell → ℕ
column_after last c = c.column

abbrev cells : ℕ → Grammar
cells last = UpToEnd MayFollow cell_code column_after last

no-cell : (last : ℕ) (b : List ℕ) → 0 < length b → HasNone (MayFollow last) cell_code b → LeftAt (cells last) b (length b)
no-cell last b some none = record { front = []; rest = b; bytes = refl; cut = ([], tt, refl, some, none); count = refl }

one-cell : (last : ℕ) (b : List ℕ) (c : Cell) (r : List ℕ) (left : ℕ) → MayFollow last c → b ≡ cell_code c ++ r → LeftAt (cells c.column) r left → LeftAt (cells last) b left
one-cell last b c r left p spelled l =
    let cut = l.cut in
    record {
      front = cell_code c ++ l.front;
      rest = l.rest;
      bytes = spelled ∙ (ap (λ t. cell_code c ++ t) l.bytes ∙ sym (append_assoc (cell_code c) l.front l.rest));
      cut = (c ∷ cut.0, (p, cut.1), ap (λ t. cell_code c ++ t) cut.2, cut.3, cut.4);
      count = l.count;
    }

-- the first cell is missing, or it is there and the fault is in what follows it
abbrev Begins : ℕ → List ℕ → ℕ → Type 0
Begins last b left = ((0 < length b) × HasNone (MayFollow last) cell_code b × (left ≡ length b)) ⊎ ((c : Cell) × (r : List ℕ) × MayFollow last c × (b ≡ cell_code c ++ r) × LeftAt (cells c.column) r left)

begins : (last : ℕ) (b : List ℕ) (left : ℕ) → LeftAt (cells last) b left → Begins last b left
begins last b left l = by l.cut
  where
    by : (xs : List Cell) × EachFrom MayFollow column_after last xs × (l.front ≡ spellings cell_code xs) × (0 < length l.rest) × HasNone (MayFollow (fold column_after last xs)) cell_code l.rest → Begins last b left
    by ([], each, front, some, none) = let whole : b ≡ l.rest = rw front at l.bytes in inl (rw whole some, rw whole none, rw whole l.count)
    by (c ∷ xs, each, front, some, none) = inr (
      c,
      spellings cell_code xs ++ l.rest,
      each.0,
      l.bytes ∙ (ap (λ t. t ++ l.rest) front ∙ append_assoc (cell_code c) (spellings cell_code xs) l.rest),
      record { front = spellings cell_code xs; rest = l.rest; bytes = refl; cut = (xs, each.1, refl, some, none); count = l.count },
    )

-- what is answered of the last cells in an input of len bytes
record Answers (last len : ℕ) (b : List ℕ) (o : Result (List Cell) ℕ) : Type 0 where
  pub fails : (at : ℕ) → o ≡ Err at → (left : ℕ) × (at ≡ len - left) × LeftAt (cells last) b left
  pub back : (left : ℕ) → LeftAt (cells last) b left → o ≡ Err (len - left)

errs : (m n : ℕ) → (let u : Result (List Cell) ℕ = Err m in u) ≡ Err n → m ≡ n
errs m n e = cc

with_cell-err : (c : Cell) (o : Result (List Cell) ℕ) (at : ℕ) → with_cell c o ≡ Err at → o ≡ Err at
with_cell-err c (Ok cs) at h = absurd (cc)
with_cell-err c (Err k) at h = ap (λ (n : ℕ). let u : Result (List Cell) ℕ = Err n in u) (errs k at h)

cell-there : (last : ℕ) (b : List ℕ) (c : Cell) (r : List ℕ) → MayFollow last c → b ≡ cell_code c ++ r → read_cell last b ≡ Some (c, r)
cell-there last b c r p spelled = let up : nat_lt last c.column ≡ true = let a = p.0 in grind (arith, nat_tests) in rw spelled (cell-found last c r up p.1 p.2)

cell-step : (last len n : ℕ) (b : List ℕ) → AreBytes b → 0 < length b → ((c : Cell) (r : List ℕ) → read_cell last b ≡ Some (c, r) → Answers c.column len r (read_cells n c.column len r))
    → (o : Option (Cell × List ℕ)) → read_cell last b ≡ o → Answers last len b (next_cell (λ column rest. read_cells n column len rest) (len - length b) o)
cell-step last len n b h some others (Some p) is =
    let was = cell-only last b p.0 p.1 h is in
    let there = others p.0 p.1 is in
    record {
      fails = λ at e. let w = there.fails at (with_cell-err p.0 (read_cells n p.0.column len p.1) at e) in (w.0, w.1, one-cell last b p.0 p.1 w.0 (was.0, was.1, was.2) was.3 w.2);
      back = λ left l. by left (begins last b left l);
    }
  where
    by : (left : ℕ) → Begins last b left → with_cell p.0 (read_cells n p.0.column len p.1) ≡ Err (len - left)
    by left (inl s) = let was = cell-only last b p.0 p.1 h is in absurd (s.1 p.0 p.1 (was.0, was.1, was.2) was.3)
    by left (inr s) =
        let parts = pair_parts p (s.0, s.1) (some_is p (s.0, s.1) (sym is ∙ cell-there last b s.0 s.1 s.2 s.3)) in
        let l = rw (← parts.0, ← parts.1) at s.4 in
        ap (with_cell p.0) ((others p.0 p.1 is).back left l)
cell-step last len n b h some others None is = record {
  fails = λ at e. (length b, sym (errs (len - length b) at e), no-cell last b some (λ c r p spelled. absurd (let e' = rw is at (cell-there last b c r p spelled) in cc)));
  back = λ left l. by left (begins last b left l);
}
  where
    by : (left : ℕ) → Begins last b left → (let u : Result (List Cell) ℕ = Err (len - length b) in u) ≡ Err (len - left)
    by left (inl s) = rw s.2 refl
    by left (inr s) = let e = rw is at (cell-there last b s.0 s.1 s.2 s.3) in absurd (cc)

no-bytes : (last left : ℕ) → LeftAt (cells last) [] left → ⊥
no-bytes last left l = let sum = ap (λ (t : List ℕ). length t) l.bytes ∙ length-append l.front l.rest in let some = l.cut.3 in omega (arith, sum, some)

cells-answer : (n last len : ℕ) (b : List ℕ) → AreBytes b → length b ≤ n → Answers last len b (read_cells n last len b)
cells-answer n last len [] h le = record { fails = λ at e. absurd (cc); back = λ left l. absurd (no-bytes last left l) }
cells-answer zero last len (x ∷ b) h le = absurd (omega arith)
cells-answer (suc n) last len (x ∷ b) h le =
    cell-step last len n (x ∷ b) h (omega arith) (λ c r e.
    let shorter = cell-shorter last (x ∷ b) c r h e in
    cells-answer n c.column len r (cell-rest last (x ∷ b) c r h e) (omega (arith, shorter, le))) (read_cell last (x ∷ b)) refl

pub value_faults-first : ValueFaultsAreFirst
value_faults-first = told value_grammar read_row_value (λ b h. let a = cells-answer (length b) 0 (length b) b h (omega arith) in record { fails = a.fails; back = a.back })
