-- Descriptors that are refused, are refused at their first fault.
use Rattle.std.proofs.Common.{◌≡◌, ℕ, ◌<◌, ◌≤◌, ◌^◌, Bool, true, false, List, nat_lt, nat_le, arith, refl}
use Rattle.std.specs.Prelude.{◌&&◌, ◌||◌, not}
use Rattle.std.proofs.lemmas.Bool.Decides.{nat_tests}
use Rattle.list_laws.specs.Bytes.{AreBytes}
use Rattle.list_laws.proofs.Bools.{not-true}
use Rattle.row_codec.specs.FirstFaults.{Grammar, Over}
use Rattle.row_codec.proofs.KeyOrder.{both_true}
use Rattle.row_codec.proofs.FaultWalks.{none-walks, told}
use Rattle.table_descriptors.specs.declared.columns.Column.{Column}
use Rattle.table_descriptors.specs.Fields.{flag_of, read_byte, read_count, read_id, read_name, read_time, such, ◌then◌}
use Rattle.table_descriptors.specs.Descriptors.{column_id, has_column, has_id, is_column, last_key}
use Rattle.table_descriptors.specs.DescriptorFiles.{column_of, form_of, has_key, has_to_descend, is_column_count, kind_at, read_column, read_columns, read_descriptor, read_direction, read_fields, read_key, read_keys, read_next, read_reference, read_references, read_schema, schema_of, state_of}
use Rattle.table_descriptors.specs.DescriptorFaults.{column_items, counted, descriptor_grammar, direction_item, flag_item, form_item, key_items, name_item, next_item, number, number_from_one, reference_item, state_item, time_item, DescriptorFaultsAreFirst}
use Rattle.table_descriptors.proofs.FieldLaws.{count-format, flag-format, id-format, name-format, such-format, time-format}
use Rattle.table_descriptors.proofs.DescriptorLaws.{IsId, form-format, id-of, kind-format, name-short, state-format}
use Rattle.table_descriptors.proofs.FieldWalks.{Goes, byte-front, count-front, field-goes, id-front, list-goes, made-goes, name-front, such-front, then-goes, time-front, whole-tells}

-- ---- fields

pub fits : (n : ℕ) → IsId n → n < 2 ^ 32
fits n h = let a = h.1 in grind (arith, nat_tests)

pub id-goes : (next : ℕ → Grammar) (b : List ℕ) → AreBytes b → Goes (number next) next b (read_id b)
id-goes next = field-goes (λ n. n < 2 ^ 32) next id-format id-front id-of fits

pub count-goes : (next : ℕ → Grammar) (b : List ℕ) → AreBytes b → Goes (number_from_one next) next b (read_count b)
count-goes next = field-goes (λ n. (0 < n) × (n < 2 ^ 32)) next count-format count-front (λ n p. (id-of n p.1, let a = p.0 in grind (arith, nat_tests))) (λ n p. (let a = p.1 in grind (arith, nat_tests), fits n p.0))

pub name-goes : (next : List ℕ → Grammar) (b : List ℕ) → AreBytes b → Goes (name_item next) next b (read_name b)
name-goes next = field-goes _ next name-format name-front name-short (λ n p. p.1)

pub time-goes : (next : _ → Grammar) (b : List ℕ) → AreBytes b → Goes (time_item next) next b (read_time b)
time-goes next = field-goes _ next time-format time-front (λ t p. p) (λ t p. p)

pub flag-goes : (next : Bool → Grammar) (b : List ℕ) → AreBytes b → Goes (flag_item next) next b (read_byte flag_of b)
flag-goes next = field-goes (λ x. Unit {0}) next flag-format (byte-front flag_of) (λ x p. p) (λ x p. p)

form-goes : (next : Bool → Grammar) (b : List ℕ) → AreBytes b → Goes (form_item next) next b (read_byte form_of b)
form-goes next = field-goes (λ x. Unit {0}) next form-format (byte-front form_of) (λ x p. p) (λ x p. p)

state-goes : (next : _ → Grammar) (b : List ℕ) → AreBytes b → Goes (state_item next) next b (read_byte state_of b)
state-goes next = field-goes (λ x. Unit {0}) next state-format (byte-front state_of) (λ x p. p) (λ x p. p)

-- ---- columns

pub denied : (x : Bool) → x ≡ false → not x ≡ true
denied x h = rw h refl

column-goes : (before : List Column) (next : Column → Grammar) (b : List ℕ) → AreBytes b → Goes (column_items before next) next b (read_column before b)
unfolding read_column
column-goes before next b h =
    made-goes column_of (column_items before next) next b ((such (λ id. nat_lt (last_key column_id before) id) read_id then (λ id. such (λ name. not (has_column name before)) read_name then (λ name. read_byte kind_at))) b)
    (then-goes (column_items before next) _ (λ p. next (column_of p)) (such (λ id. nat_lt (last_key column_id before) id) read_id) _ b
    (field-goes (λ (id : ℕ). (id < 2 ^ 32) × (last_key column_id before < id)) _ (such-format (λ id. nat_lt (last_key column_id before) id) id-format) (such-front (λ id. nat_lt (last_key column_id before) id) read_id id-front) (λ id p. (id-of id p.0, let a = p.1 in grind (arith, nat_tests))) (λ id p. (fits id p.0, let a = p.1 in grind (arith, nat_tests))) b h)
    (λ id r hr. then-goes _ _ _ (such (λ name. not (has_column name before)) read_name) _ r
    (field-goes _ _ (such-format (λ name. not (has_column name before)) name-format) (such-front (λ name. not (has_column name before)) read_name name-front) (λ name p. (name-short name p.0, denied (has_column name before) p.1)) (λ name p. (p.0.1, not-true (has_column name before) p.1)) r hr)
    (λ name q hq. field-goes _ _ kind-format (byte-front kind_at) (λ kind p. p) (λ kind p. p) q hq)))

-- ---- key columns

down_if : (down has_to : Bool) → (has_to ≡ true → down ≡ true) → (down || not has_to) ≡ true
down_if true has_to p = refl
down_if false true p = p refl
down_if false false p = refl

has_down : (down has_to : Bool) → (down || not has_to) ≡ true → has_to ≡ true → down ≡ true
has_down true has_to p e = refl
has_down false true p e = p
has_down false false p e = absurd (cc)

direction-goes : (descends has_to : Bool) (next : Bool → Grammar) (b : List ℕ) → AreBytes b → Goes (direction_item descends has_to next) next b (read_direction descends has_to b)
direction-goes true has_to next b h =
    field-goes (λ (down : Bool). has_to ≡ true → down ≡ true) next (such-format (λ down. down || not has_to) flag-format) (such-front (λ down. down || not has_to) (read_byte flag_of) (byte-front flag_of)) (λ down p. (tt, down_if down has_to p)) (λ down p. has_down down has_to p.1) b h
direction-goes false has_to next b h = none-walks (λ n. n) next false b h

key-goes : (descends : Bool) (columns : List Column) (count : ℕ) (before : List (ℕ × Bool)) (next : ℕ × Bool → Grammar) (b : List ℕ) → AreBytes b → Goes (key_items descends columns count before next) next b (read_key descends columns count before b)
unfolding read_key
key-goes descends columns count before next b h =
    let ok : ℕ → Bool = λ id. is_column id columns && not (has_key id before) in
    then-goes (key_items descends columns count before next) _ next (such (λ id. is_column id columns && not (has_key id before)) read_id) (λ id. read_direction descends (has_to_descend count before)) b
    (field-goes _ _ (such-format (λ id. is_column id columns && not (has_key id before)) id-format) (such-front (λ id. is_column id columns && not (has_key id before)) read_id id-front) (λ id p. (id-of id p.0, rw (p.1, p.2) refl)) (λ id p.
    let both = both_true (is_column id columns) (not (has_key id before)) p.1 in
    (fits id p.0, both.0, not-true (has_key id before) both.1)) b h)
    (λ id r hr. direction-goes descends (has_to_descend count before) (λ down. next (id, down)) r hr)

-- ---- references

reference-goes : (before : List ℕ) (next : ℕ → Grammar) (b : List ℕ) → AreBytes b → Goes (reference_item before next) next b (read_reference before b)
unfolding read_reference
reference-goes before next b h =
    field-goes _ next (such-format (λ id. not (has_id id before)) id-format) (such-front (λ id. not (has_id id before)) read_id id-front) (λ id p. (id-of id p.0, denied (has_id id before) p.1)) (λ id p. (fits id p.0, not-true (has_id id before) p.1)) b h

-- ---- descriptors

columns-go : (next : List Column → Grammar) (b : List ℕ) → AreBytes b → Goes (counted (λ n. (0 < n) × (n ≤ 64)) (λ n. column_items) next) next b (read_columns b)
columns-go next =
    list-goes (λ n. (0 < n) × (n ≤ 64)) is_column_count (λ n. column_items) (λ n. read_column) next (λ n p. (let a = p.1 in omega (arith, a), let a = p.0 in let c = p.1 in grind (arith, nat_tests))) (λ n p.
    let both = both_true (nat_lt 0 n) (nat_le n 64) p.1 in
    (let a = both.0 in grind (arith, nat_tests), let a = both.1 in grind (arith, nat_tests))) (λ n. column-goes)

keys-go : (descends : Bool) (columns : List Column) (next : List (ℕ × Bool) → Grammar) (b : List ℕ) → AreBytes b → Goes (counted (λ n. (0 < n) × (n < 2 ^ 64)) (key_items descends columns) next) next b (read_keys descends columns b)
keys-go descends columns next = list-goes (λ n. (0 < n) × (n < 2 ^ 64)) (λ n. nat_lt 0 n) (key_items descends columns) (read_key descends columns) next (λ n p. (p.1, let a = p.0 in grind (arith, nat_tests))) (λ n p. (let a = p.1 in grind (arith, nat_tests), p.0)) (key-goes descends columns)

references-go : (next : List ℕ → Grammar) (b : List ℕ) → AreBytes b → Goes (counted (λ n. n < 2 ^ 64) (λ n. reference_item) next) next b (read_references b)
references-go next = list-goes (λ n. n < 2 ^ 64) (λ n. true) (λ n. reference_item) (λ n. read_reference) next (λ n p. (p, refl)) (λ n p. p.0) (λ n. reference-goes)

next-goes : (columns : List Column) (next : ℕ → Grammar) (b : List ℕ) → AreBytes b → Goes (next_item columns next) next b (read_next columns b)
next-goes columns next =
    field-goes (λ (n : ℕ). (n < 2 ^ 32) × (last_key column_id columns < n)) next (such-format (λ id. nat_lt (last_key column_id columns) id) id-format) (such-front (λ id. nat_lt (last_key column_id columns) id) read_id id-front) (λ n p. (id-of n p.0, let a = p.1 in grind (arith, nat_tests))) (λ n p. (fits n p.0, let a = p.1 in grind (arith, nat_tests)))

fields-go : (b : List ℕ) → AreBytes b → Goes descriptor_grammar (λ p. Over) b (read_fields b)
fields-go b h =
    then-goes _ _ _ (read_byte form_of) _ b (form-goes _ b h) (λ descends b1 h1.
    then-goes _ _ _ read_id _ b1 (id-goes _ b1 h1) (λ id b2 h2.
    then-goes _ _ _ read_count _ b2 (count-goes _ b2 h2) (λ version b3 h3.
    then-goes _ _ _ read_name _ b3 (name-goes _ b3 h3) (λ database b4 h4.
    then-goes _ _ _ read_name _ b4 (name-goes _ b4 h4) (λ name b5 h5.
    then-goes _ _ _ (read_byte state_of) _ b5 (state-goes _ b5 h5) (λ state b6 h6.
    then-goes _ _ _ read_columns _ b6 (columns-go _ b6 h6) (λ columns b7 h7.
    then-goes _ _ _ (read_keys descends columns) _ b7 (keys-go descends columns _ b7 h7) (λ keys b8 h8.
    then-goes _ _ _ read_references _ b8 (references-go _ b8 h8) (λ references b9 h9.
    then-goes _ _ _ (read_next columns) _ b9 (next-goes columns _ b9 h9) (λ next b10 h10. time-goes _ b10 h10))))))))))

schema-goes : (b : List ℕ) → AreBytes b → Goes descriptor_grammar (λ d. Over) b (read_schema b)
unfolding read_schema
schema-goes b h = made-goes schema_of descriptor_grammar (λ d. Over) b (read_fields b) (fields-go b h)

pub descriptor_faults-first : DescriptorFaultsAreFirst
unfolding read_descriptor
descriptor_faults-first = told descriptor_grammar read_descriptor (λ b h. whole-tells descriptor_grammar b (read_schema b) (schema-goes b h))
