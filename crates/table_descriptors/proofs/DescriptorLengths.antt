-- The bytes of every descriptor have a length of 64 bits.
use Rattle.std.proofs.Common.{◌≡◌, ℕ, ◌+◌, ◌*◌, ◌<◌, ◌≤◌, ◌^◌, Bool, true, false, List, [], ◌∷◌, ◌++◌, length, nat_lt, nat_le, inl, inr, arith, refl, length-append}
use Rattle.std.specs.List.{list_all}
use Rattle.std.proofs.lemmas.Bool.{cases_Bool}
use Rattle.std.proofs.lemmas.Bool.Decides.{nat_tests}
use Rattle.std.proofs.lemmas.List.{length-map}
use Rattle.key_encoding.specs.Spelling.{uvarint, byte_count}
use Rattle.key_encoding.proofs.Digits.{length_high}
use Rattle.mvcc_keys.specs.Codes.{time_bytes}
use Rattle.mvcc_keys.proofs.CodeLaws.{length-time_bytes}
use Rattle.row_codec.specs.RowValues.{sized}
use Rattle.row_codec.proofs.KeyOrder.{both_true}
use Rattle.table_descriptors.specs.Names.{is_name, is_name_text}
use Rattle.table_descriptors.specs.Fields.{codes_of, list_code}
use Rattle.table_descriptors.specs.Descriptors.{Schema, IsProperSchema, has_id}
use Rattle.table_descriptors.specs.DescriptorFiles.{kind_code, state_code, column_code, key_code, direction_code, descends, directed, names_code, front_code, back_code, schema_code}
use Rattle.table_descriptors.specs.declared.columns.Column.{Column}
use Rattle.table_descriptors.proofs.DescriptorLaws.{ids-few, keys-fit}

both-length : {m n : ℕ} (xs ys : List ℕ) → length xs ≤ m → length ys ≤ n → length (xs ++ ys) ≤ m + n
both-length xs ys h k = omega (arith, length-append xs ys)

codes-length : {X : Type 0} (code : X → List ℕ) (ok : X → Bool) (m : ℕ) → ((x : X) → ok x ≡ true → length (code x) ≤ m) → (xs : List X) → list_all ok xs ≡ true → length (codes_of code xs) ≤ length xs * m
codes-length code ok m each [] h = omega arith
codes-length code ok m each (x ∷ xs) h =
    let parts = both_true (ok x) (list_all ok xs) h in
    let one = each x parts.0 in
    let rest = codes-length code ok m each xs parts.1 in
    omega (arith, length-append (code x) (codes_of code xs))

all-any : {X : Type 0} (xs : List X) → list_all (λ x. true) xs ≡ true
all-any [] = refl
all-any (x ∷ xs) = all-any xs

count-most : (v : ℕ) → byte_count v ≤ 8
count-most v = grind (arith, nat_tests)

pub number-length : (v : ℕ) → length (uvarint v) ≤ 9
unfolding uvarint
number-length v =
    elim (cases_Bool (nat_lt v 110)) [
      | inl t ↦ rw t (omega arith)
      | inr f ↦ let most = count-most v in let high = length_high (byte_count v) v in rw f (omega arith)
    ]

name-length : (n : List ℕ) → is_name n ≡ true → length (sized n) ≤ 41
unfolding is_name
name-length n h =
    let short : length n ≤ 32 = let a = (both_true (nat_le (length n) 32) (is_name_text n) h).0 in grind (arith, nat_tests) in
    let front = number-length (length n) in
    omega (arith, length-append (uvarint (length n)) n)

column-length : (c : Column) → is_name c.name ≡ true → length (column_code c) ≤ 51
column-length c h = both-length (uvarint c.id) (sized c.name ++ kind_code c.kind ∷ []) (number-length c.id) (both-length {n = 1} (sized c.name) (kind_code c.kind ∷ []) (name-length c.name h) (omega arith))

direction-length : (descends down : Bool) → length (direction_code descends down) ≤ 1
direction-length true down = omega arith
direction-length false down = omega arith

key-length : (descends : Bool) (k : ℕ × Bool) → length (key_code descends k) ≤ 10
key-length descends k =
    let front = number-length k.0 in
    let back = direction-length descends k.1 in
    omega (arith, length-append (uvarint k.0) (direction_code descends k.1))

list-length : {X : Type 0} (code : X → List ℕ) (ok : X → Bool) (m : ℕ) → ((x : X) → ok x ≡ true → length (code x) ≤ m) → (xs : List X) → list_all ok xs ≡ true → length (list_code code xs) ≤ 9 + length xs * m
list-length code ok m each xs h =
    let front = number-length (length xs) in
    let back = codes-length code ok m each xs h in
    omega (arith, length-append (uvarint (length xs)) (codes_of code xs))

pub schema-length : (d : Schema) → IsProperSchema d → length (schema_code d) < 2 ^ 64
unfolding schema_code
schema-length d h =
    let columns = list-length column_code (λ (c : Column). is_name c.name) 51 column-length d.columns h.columns.named in
    let keys = list-length (key_code (descends d)) (λ k. true) 10 (λ k t. key-length (descends d) k) (directed d.down d.key_columns) (all-any (directed d.down d.key_columns)) in
    let references = list-length uvarint (λ v. true) 9 (λ v t. number-length v) d.references (all-any d.references) in
    let few = h.columns.few in
    let some_keys = ids-few d.key_columns (keys-fit d h) h.differ in
    let as_many : length (directed d.down d.key_columns) ≡ length d.key_columns = length-map {B = ℕ × Bool} d.key_columns (λ id. (id, has_id id d.down)) in
    let some_references = ids-few d.references h.references h.once in
    let names = both-length (sized d.database) (sized d.name ++ state_code d.state ∷ []) (name-length d.database h.database) (both-length {n = 1} (sized d.name) (state_code d.state ∷ []) (name-length d.name h.name) (omega arith)) in
    let front = both-length (uvarint d.id) (uvarint d.version ++ names_code d) (number-length d.id) (both-length (uvarint d.version) (names_code d) (number-length d.version) names) in
    let last = both-length {n = 12} (uvarint d.next_column) (time_bytes d.modified) (number-length d.next_column) (let is = length-time_bytes d.modified in omega arith) in
    let after = both-length (list_code uvarint d.references) (uvarint d.next_column ++ time_bytes d.modified) references last in
    let more = both-length (list_code (key_code (descends d)) (directed d.down d.key_columns)) (list_code uvarint d.references ++ (uvarint d.next_column ++ time_bytes d.modified)) keys after in
    let back = both-length (list_code column_code d.columns) (list_code (key_code (descends d)) (directed d.down d.key_columns) ++ (list_code uvarint d.references ++ (uvarint d.next_column ++ time_bytes d.modified))) columns more in
    omega (arith, length-append (front_code d) (back_code d))
