-- Row keys are read as they are written.
use Rattle.std.proofs.Common.{◌≡◌, ℕ, ℤ, pos, negsuc, ◌-◌, ◌<◌, ◌^◌, Bool, true, false, List, [], ◌∷◌, ◌++◌, length, nat_eq, nat_lt, Option, Some, None, Result, Ok, Err, inl, inr, arith, refl, sym, ap, ◌∙◌, append_assoc, append-nil}
use Rattle.std.specs.Option.{option_map}
use Rattle.std.specs.Str.{is_utf8}
use Rattle.std.proofs.lemmas.Bool.{cases_Bool}
use Rattle.std.proofs.lemmas.Bool.Decides.{nat_tests}
use Rattle.key_encoding.specs.Coding.{IsSignedWord}
use Rattle.list_laws.specs.Bytes.{AreBytes}
use Rattle.key_encoding.specs.Spelling.{uvarint}
use Rattle.key_encoding.specs.Reading.{read_uvarint}
use Rattle.key_encoding.specs.declared.fault.KeyFault.{KeyFault}
use Rattle.key_encoding.proofs.Grammars.{uvarint-found, uvarint-only, varint-found, varint-only, varint_down-found, varint_down-only}
use Rattle.key_encoding.proofs.Unescapes.{bytes-found, bytes-only, bytes_down-found, bytes_down-only}
use Rattle.row_codec.specs.RowOrder.{rank, is_down}
use Rattle.row_codec.specs.RowKeys.{number_code, string_code, kind_rank, is_of_kind, are_of_kinds, IsValue, IsKey, truth_number, datum_code, values_code, row_key, RowKeysAreExact}
use Rattle.row_codec.specs.KeyReading.{◌>>=◌, or_at, valued, an_id, read_byte, read_number, read_string, a_number, a_text, some_bytes, a_truth, read_datum, with_first, read_values, read_key_front, all_read, read_row_key}
use Rattle.row_codec.specs.declared.rows.Kind.{Kind}
use Rattle.row_codec.specs.declared.rows.Kind.TheVariants.{Int as KindInt, Text as KindText, Bytes as KindBytes, Bool as KindBool, IntDown, TextDown, BytesDown, BoolDown}
use Rattle.row_codec.specs.declared.rows.Datum.{Datum}
use Rattle.row_codec.specs.declared.rows.Datum.TheVariants.{Int, Text, Bytes, Bool as Truth}
use Rattle.row_codec.proofs.KeyOrder.{both_true, truth_fits}
use Rattle.list_laws.proofs.Bytes.{bytes-after}
use Rattle.list_laws.proofs.Places.{none-left_test}

-- ---- answers

pub pair_parts : {X Y : Type 0} (p q : X × Y) → p ≡ q → (p.0 ≡ q.0) × (p.1 ≡ q.1)
pair_parts {X} {Y} p q e = (ap (λ (t : X × Y). t.0) e, ap (λ (t : X × Y). t.1) e)

pub ok_is : {A : Type 0} (x y : A) → (let r : Result A ℕ = Ok x in r ≡ Ok y) → x ≡ y
ok_is x y e = cc

pub some_is : {A : Type 0} (x y : A) → (let r : Option A = Some x in r ≡ Some y) → x ≡ y
some_is x y e = cc

pub bind-ok : {A B : Type 0} (r : Result A ℕ) (f : A → Result B ℕ) (y : B) → (r >>= f) ≡ Ok y → (x : A) × (r ≡ Ok x) × (f x ≡ Ok y)
bind-ok (Ok x) f y e = (x, refl, e)
bind-ok (Err o) f y e = absurd (cc)

pub or_at-ok : {A : Type 0} (at : ℕ) (o : Option A) (x : A) → or_at at o ≡ Ok x → o ≡ Some x
or_at-ok at (Some y) x e = ap (λ t. Some t) (ok_is y x e)
or_at-ok at None x e = absurd (cc)

abbrev beside : {Y : Type 0} → List ℕ → Y → Y × List ℕ
beside rest y = (y, rest)

mapped-some : {Y : Type 0} (o : Option Y) (r rest : List ℕ) (y : Y) → option_map (beside r) o ≡ Some (y, rest) → (o ≡ Some y) × (r ≡ rest)
mapped-some (Some t) r rest y h =
    let parts = pair_parts (t, r) (y, rest) (some_is (t, r) (y, rest) h) in
    (ap (λ u. Some u) parts.0, parts.1)
mapped-some None r rest y h = absurd (cc)

pub valued-some : {X Y : Type 0} (f : X → Option Y) (r : Result (X × List ℕ) KeyFault) (y : Y) (rest : List ℕ) → valued f r ≡ Some (y, rest) → (v : X) × (r ≡ Ok (v, rest)) × (f v ≡ Some y)
valued-some {X} f (Ok p) y rest e =
    let is = mapped-some (f p.0) p.1 rest y e in
    (p.0, ap (λ (u : List ℕ). let w : Result (X × List ℕ) KeyFault = Ok (p.0, u) in w) is.1, is.0)
valued-some f (Err err) y rest e = absurd (cc)

-- ---- values

number-found : (down : Bool) (z : ℤ) (r : List ℕ) → IsSignedWord z → read_number down (number_code down z ++ r) ≡ Ok (z, r)
number-found true z r h = varint_down-found z r h
number-found false z r h = varint-found z r h

number-only : (down : Bool) (b : List ℕ) (z : ℤ) (r : List ℕ) → AreBytes b → read_number down b ≡ Ok (z, r) → IsSignedWord z × (b ≡ number_code down z ++ r)
number-only true b z r h e = varint_down-only b z r h e
number-only false b z r h e = varint-only b z r h e

string-found : (down : Bool) (v r : List ℕ) → AreBytes v → read_string down (string_code down v ++ r) ≡ Ok (v, r)
string-found true v r h = bytes_down-found v r h
string-found false v r h = bytes-found v r h

string-only : (down : Bool) (b v r : List ℕ) → AreBytes b → read_string down b ≡ Ok (v, r) → AreBytes v × (b ≡ string_code down v ++ r)
string-only true b v r h e = bytes_down-only b v r h e
string-only false b v r h e = bytes-only b v r h e

truth-found : (down : Bool) (b : Bool) (r : List ℕ) → valued a_truth (read_number down (number_code down (truth_number b) ++ r)) ≡ Some (Truth b, r)
truth-found down true r = rw (number-found down (pos 1) r (truth_fits true)) refl
truth-found down false r = rw (number-found down (pos 0) r (truth_fits false)) refl

text-found : (down : Bool) (t r : List ℕ) → AreBytes t × (is_utf8 t ≡ true) → valued a_text (read_string down (string_code down t ++ r)) ≡ Some (Text t, r)
text-found down t r h = rw (string-found down t r h.0, h.1) refl

pub datum-found : (k : Kind) (x : Datum) (r : List ℕ) → is_of_kind k x ≡ true → IsValue x → read_datum k (datum_code (is_down k) x ++ r) ≡ Some (x, r)
unfolding read_datum
datum-found KindInt (Int n) r e h = rw (number-found false n r h) refl
datum-found IntDown (Int n) r e h = rw (number-found true n r h) refl
datum-found KindText (Text t) r e h = text-found false t r h
datum-found TextDown (Text t) r e h = text-found true t r h
datum-found KindBytes (Bytes b) r e h = rw (string-found false b r h) refl
datum-found BytesDown (Bytes b) r e h = rw (string-found true b r h) refl
datum-found KindBool (Truth b) r e h = truth-found false b r
datum-found BoolDown (Truth b) r e h = truth-found true b r
datum-found k x r e h = absurd (cc)

-- what was read is a value of this rank, and it is spelled there
abbrev pub IsSpelled : ℕ → Bool → List ℕ → Datum → List ℕ → Type 0
IsSpelled n down b x r = (rank x ≡ n) × IsValue x × (b ≡ datum_code down x ++ r)

int-only : (down : Bool) (b : List ℕ) (x : Datum) (r : List ℕ) → AreBytes b → valued a_number (read_number down b) ≡ Some (x, r) → IsSpelled 1 down b x r
int-only down b x r h e =
    let read = valued-some a_number (read_number down b) x r e in
    let only = number-only down b read.0 r h read.1 in
    rw (← some_is (Int read.0) x read.2) (refl, only.0, only.1)

blob-only : (down : Bool) (b : List ℕ) (x : Datum) (r : List ℕ) → AreBytes b → valued some_bytes (read_string down b) ≡ Some (x, r) → IsSpelled 3 down b x r
blob-only down b x r h e =
    let read = valued-some some_bytes (read_string down b) x r e in
    let only = string-only down b read.0 r h read.1 in
    rw (← some_is (Bytes read.0) x read.2) (refl, only.0, only.1)

pub text-is : (t : List ℕ) (x : Datum) → a_text t ≡ Some x → (is_utf8 t ≡ true) × (Text t ≡ x)
text-is t x e = elim (cases_Bool (is_utf8 t)) [ inl y ↦ (y, some_is (Text t) x (rw y at e)) | inr n ↦ let e' = rw n at e in absurd (cc) ]

text-only : (down : Bool) (b : List ℕ) (x : Datum) (r : List ℕ) → AreBytes b → valued a_text (read_string down b) ≡ Some (x, r) → IsSpelled 2 down b x r
text-only down b x r h e =
    let read = valued-some a_text (read_string down b) x r e in
    let only = string-only down b read.0 r h read.1 in
    let is = text-is read.0 x read.2 in
    rw (← is.1) (refl, (only.0, is.0), only.1)

truth-is : (z : ℤ) (x : Datum) → a_truth z ≡ Some x → (v : Bool) × (z ≡ truth_number v) × (Truth v ≡ x)
truth-is (negsuc k) x e = absurd (cc)
truth-is (pos n) x e =
    elim (cases_Bool (nat_eq n 0)) [
      | inl z ↦ (false, ap pos (let w : n ≡ 0 = grind (arith, nat_tests) in w), some_is (Truth false) x (rw z at e))
      | inr f ↦ elim (cases_Bool (nat_eq n 1)) [
        | inl o ↦ (true, ap pos (let w : n ≡ 1 = grind (arith, nat_tests) in w), some_is (Truth true) x (rw (f, o) at e))
        | inr g ↦ let e' = rw (f, g) at e in absurd (cc)
      ]
    ]

truth-only : (down : Bool) (b : List ℕ) (x : Datum) (r : List ℕ) → AreBytes b → valued a_truth (read_number down b) ≡ Some (x, r) → IsSpelled 4 down b x r
truth-only down b x r h e =
    let read = valued-some a_truth (read_number down b) x r e in
    let only = number-only down b read.0 r h read.1 in
    let is = truth-is read.0 x read.2 in
    rw (← is.2) (refl, tt, rw is.1 at only.1)

pub datum-only : (k : Kind) (b : List ℕ) (x : Datum) (r : List ℕ) → AreBytes b → read_datum k b ≡ Some (x, r) → IsSpelled (kind_rank k) (is_down k) b x r
unfolding read_datum
datum-only KindInt b x r h e = int-only false b x r h e
datum-only IntDown b x r h e = int-only true b x r h e
datum-only KindText b x r h e = text-only false b x r h e
datum-only TextDown b x r h e = text-only true b x r h e
datum-only KindBytes b x r h e = blob-only false b x r h e
datum-only BytesDown b x r h e = blob-only true b x r h e
datum-only KindBool b x r h e = truth-only false b x r h e
datum-only BoolDown b x r h e = truth-only true b x r h e

-- ---- keys

values-found : (kinds : List Kind) (xs : List Datum) (len : ℕ) (r : List ℕ) → IsKey kinds xs → read_values kinds len (values_code kinds xs ++ r) ≡ Ok (xs, 136 ∷ r)
values-found [] [] len r h = refl
values-found [] (x ∷ xs) len r h = let f = h.0 in absurd (cc)
values-found (k ∷ kinds) [] len r h = let f = h.0 in absurd (cc)
values-found (k ∷ kinds) (x ∷ xs) len r h =
    let p = both_true (is_of_kind k x) (are_of_kinds kinds xs) h.0 in
    rw (append_assoc (datum_code (is_down k) x) (values_code kinds xs) r, datum-found k x (values_code kinds xs ++ r) p.0 h.1.0, values-found kinds xs len r (p.1, h.1.1)) refl

with_first-ok : (x : Datum) (r : Result (List Datum × List ℕ) ℕ) (xs : List Datum) (rest : List ℕ) → with_first x r ≡ Ok (xs, rest) → (ys : List Datum) × (r ≡ Ok (ys, rest)) × (x ∷ ys ≡ xs)
with_first-ok x (Ok p) xs rest e =
    let parts = pair_parts (x ∷ p.0, p.1) (xs, rest) (ok_is (x ∷ p.0, p.1) (xs, rest) e) in
    (p.0, ap (λ (u : List ℕ). let w : Result (List Datum × List ℕ) ℕ = Ok (p.0, u) in w) parts.1, parts.0)
with_first-ok x (Err o) xs rest e = absurd (cc)

one_more : (k : Kind) (kinds : List Kind) (x : Datum) (ys xs : List Datum) (b c r : List ℕ) → IsSpelled (kind_rank k) (is_down k) b x c → IsKey kinds ys × (c ≡ values_code kinds ys ++ r) → x ∷ ys ≡ xs
    → IsKey (k ∷ kinds) xs × (b ≡ values_code (k ∷ kinds) xs ++ r)
one_more k kinds x ys xs b c r first others e =
    let of_kind : is_of_kind k x ≡ true = let same = first.0 in grind (arith, nat_tests) in
    rw (← e) ((rw of_kind others.0.0, (first.1, others.0.1)), rw (first.2, others.1) (sym (append_assoc (datum_code (is_down k) x) (values_code kinds ys) r)))

values-only : (kinds : List Kind) (len : ℕ) (b : List ℕ) (xs : List Datum) (r : List ℕ) → AreBytes b → read_values kinds len b ≡ Ok (xs, 136 ∷ r) → IsKey kinds xs × (b ≡ values_code kinds xs ++ r)
values-only [] len b xs r h e =
    let parts = pair_parts ([], b) (xs, 136 ∷ r) (ok_is ([], b) (xs, 136 ∷ r) e) in
    rw (← parts.0) ((refl, tt), parts.1)
values-only (k ∷ kinds) len b xs r h e =
    let step = bind-ok (or_at (len - length b) (read_datum k b)) (λ (p : Datum × List ℕ). with_first p.0 (read_values kinds len p.1)) (xs, 136 ∷ r) e in
    let first = datum-only k b step.0.0 step.0.1 h (or_at-ok (len - length b) (read_datum k b) step.0 step.1) in
    let others = with_first-ok step.0.0 (read_values kinds len step.0.1) xs (136 ∷ r) step.2 in
    let rest = values-only kinds len step.0.1 others.0 r (bytes-after (datum_code (is_down k) step.0.0) step.0.1 (rw first.2 at h)) others.1 in
    one_more k kinds step.0.0 others.0 xs b step.0.1 r first rest others.2

pub id-found : (n : ℕ) (r : List ℕ) → n < 2 ^ 32 → valued an_id (read_uvarint (uvarint n ++ r)) ≡ Some (n, r)
id-found n r h = let low : nat_lt n (2 ^ 32) ≡ true = grind (arith, nat_tests) in rw (uvarint-found n r (omega arith), low) refl

id-is : (n m : ℕ) → an_id n ≡ Some m → (n < 2 ^ 32) × (n ≡ m)
id-is n m e = elim (cases_Bool (nat_lt n (2 ^ 32))) [ inl y ↦ ((grind (arith, nat_tests)), some_is n m (rw y at e)) | inr f ↦ let e' = rw f at e in absurd (cc) ]

pub id-only : (b : List ℕ) (n : ℕ) (r : List ℕ) → AreBytes b → valued an_id (read_uvarint b) ≡ Some (n, r) → (n < 2 ^ 32) × (b ≡ uvarint n ++ r)
id-only b n r h e =
    let read = valued-some an_id (read_uvarint b) n r e in
    let is = id-is read.0 n read.2 in
    rw (← is.1) (is.0, (uvarint-only b read.0 r h read.1).1)

pub byte-only : (x : ℕ) (b r : List ℕ) → read_byte x b ≡ Some r → b ≡ x ∷ r
byte-only x [] r e = absurd (cc)
byte-only x (y ∷ b) r e =
    elim (cases_Bool (nat_eq y x)) [
      | inl t ↦
          let same : y ≡ x = grind (arith, nat_tests) in
          rw (same, some_is b r (rw t at e)) refl
      | inr f ↦ let e' = rw f at e in absurd (cc)
    ]

key-found : (kinds : List Kind) (len table : ℕ) (xs : List Datum) (r : List ℕ) → table < 2 ^ 32 → IsKey kinds xs → read_key_front kinds len (row_key table kinds xs ++ r) ≡ Ok ((table, xs), r)
unfolding row_key read_key_front
key-found kinds len table xs r fits h =
    rw (append_assoc (uvarint table) (137 ∷ values_code kinds xs) r, id-found table (137 ∷ values_code kinds xs ++ r) fits, values-found kinds xs len r h) refl

-- what is left to read after the table, the index and the values
abbrev pub after_values : ℕ → ℕ → List Datum × List ℕ → Result ((ℕ × List Datum) × List ℕ) ℕ
after_values len table values = or_at (len - length values.1) (read_byte 136 values.1) >>= (λ family. Ok ((table, values.0), family))

abbrev pub after_index : List Kind → ℕ → ℕ → List ℕ → Result ((ℕ × List Datum) × List ℕ) ℕ
after_index kinds len table index = read_values kinds len index >>= (λ values. after_values len table values)

abbrev pub after_table : List Kind → ℕ → ℕ × List ℕ → Result ((ℕ × List Datum) × List ℕ) ℕ
after_table kinds len table = or_at (len - length table.1) (read_byte 137 table.1) >>= (λ index. after_index kinds len table.0 index)

tail-only : (kinds : List Kind) (len table : ℕ) (b : List ℕ) (t : ℕ) (xs : List Datum) (r : List ℕ) → AreBytes b → after_index kinds len table b ≡ Ok ((t, xs), r)
    → (table ≡ t) × IsKey kinds xs × (b ≡ values_code kinds xs ++ r)
tail-only kinds len table b t xs r h e =
    let values = bind-ok (read_values kinds len b) (λ v. after_values len table v) ((t, xs), r) e in
    let family = bind-ok (or_at (len - length values.0.1) (read_byte 136 values.0.1)) (λ rest. Ok ((table, values.0.0), rest)) ((t, xs), r) values.2 in
    let outer = pair_parts ((table, values.0.0), family.0) ((t, xs), r) (ok_is ((table, values.0.0), family.0) ((t, xs), r) family.2) in
    let inner = pair_parts (table, values.0.0) (t, xs) outer.0 in
    let mark : values.0.1 ≡ 136 ∷ r = byte-only 136 values.0.1 family.0 (or_at-ok (len - length values.0.1) (read_byte 136 values.0.1) family.0 family.1) ∙ ap (λ u. 136 ∷ u) outer.1 in
    let read : read_values kinds len b ≡ Ok (xs, 136 ∷ r) =
    values.1 ∙ (ap (λ (v : List Datum). let w : Result (List Datum × List ℕ) ℕ = Ok (v, values.0.1) in w) inner.1 ∙ ap (λ (u : List ℕ). let w : Result (List Datum × List ℕ) ℕ = Ok (xs, u) in w) mark) in
    let only = values-only kinds len b xs r h read in
    (inner.0, only.0, only.1)

key-only : (kinds : List Kind) (len : ℕ) (b : List ℕ) (t : ℕ) (xs : List Datum) (r : List ℕ) → AreBytes b → read_key_front kinds len b ≡ Ok ((t, xs), r)
    → (t < 2 ^ 32) × IsKey kinds xs × (b ≡ row_key t kinds xs ++ r)
unfolding row_key read_key_front
key-only kinds len b t xs r h e =
    let table = bind-ok (or_at (len - length b) (valued an_id (read_uvarint b))) (λ p. after_table kinds len p) ((t, xs), r) e in
    let id = id-only b table.0.0 table.0.1 h (or_at-ok (len - length b) (valued an_id (read_uvarint b)) table.0 table.1) in
    let index = bind-ok (or_at (len - length table.0.1) (read_byte 137 table.0.1)) (λ rest. after_index kinds len table.0.0 rest) ((t, xs), r) table.2 in
    let mark = byte-only 137 table.0.1 index.0 (or_at-ok (len - length table.0.1) (read_byte 137 table.0.1) index.0 index.1) in
    let bytes : AreBytes (137 ∷ index.0) = rw mark at (bytes-after (uvarint table.0.0) table.0.1 (rw id.1 at h)) in
    let rest = tail-only kinds len table.0.0 index.0 t xs r bytes.1 index.2 in
    let whole : b ≡ uvarint table.0.0 ++ 137 ∷ (values_code kinds xs ++ r) = id.1 ∙ ap (λ u. uvarint table.0.0 ++ u) (mark ∙ ap (λ u. 137 ∷ u) rest.2) in
    (rw rest.0 at id.0, rest.1, rw rest.0 at whole ∙ sym (append_assoc (uvarint t) (137 ∷ values_code kinds xs) r))

all_read-ok : {X : Type 0} (len : ℕ) (p : X × List ℕ) (x : X) → all_read len p ≡ Ok x → (p.0 ≡ x) × (p.1 ≡ [])
all_read-ok len p x e =
    elim (cases_Bool (nat_eq (length p.1) 0)) [
      | inl z ↦ (ok_is p.0 x (rw z at e), none-left_test p.1 z)
      | inr f ↦ let e' = rw f at e in absurd (cc)
    ]

whole-found : (kinds : List Kind) (table : ℕ) (xs : List Datum) → table < 2 ^ 32 → IsKey kinds xs → read_row_key kinds (row_key table kinds xs) ≡ Ok (table, xs)
unfolding read_row_key
whole-found kinds table xs fits h =
    let b = row_key table kinds xs in
    rw (rw (append-nil b) at (key-found kinds (length b) table xs [] fits h)) refl

whole-only : (kinds : List Kind) (b : List ℕ) (table : ℕ) (xs : List Datum) → AreBytes b → read_row_key kinds b ≡ Ok (table, xs) → (table < 2 ^ 32) × IsKey kinds xs × (b ≡ row_key table kinds xs)
unfolding read_row_key
whole-only kinds b table xs h e =
    let front = bind-ok (read_key_front kinds (length b) b) (λ p. all_read (length b) p) (table, xs) e in
    let all = all_read-ok (length b) front.0 (table, xs) front.2 in
    let read : read_key_front kinds (length b) b ≡ Ok ((table, xs), []) =
    front.1 ∙ (ap (λ (q : ℕ × List Datum). let w : Result ((ℕ × List Datum) × List ℕ) ℕ = Ok (q, front.0.1) in w) all.0 ∙ ap (λ (u : List ℕ). let w : Result ((ℕ × List Datum) × List ℕ) ℕ = Ok ((table, xs), u) in w) all.1) in
    rw (append-nil (row_key table kinds xs)) at (key-only kinds (length b) b table xs [] h read)

pub row_keys-exact : RowKeysAreExact
row_keys-exact = record {
  found = whole-found;
  only = whole-only;
  apart = λ kinds t u xs ys r s ft fu hx hy e.
      let same = ok_is ((t, xs), r) ((u, ys), s) (sym (key-found kinds 0 t xs r ft hx) ∙ (ap (read_key_front kinds 0) e ∙ key-found kinds 0 u ys s fu hy)) in
      let outer = pair_parts ((t, xs), r) ((u, ys), s) same in
      let inner = pair_parts (t, xs) (u, ys) outer.0 in
      (inner.0, inner.1, outer.1);
}
