-- The order of row keys.
use Rattle.std.proofs.Common.{◌≡◌, ℕ, Bool, true, false, List, [], ◌∷◌, ◌++◌, arith, refl, ap, ◌∙◌, append_assoc}
use Rattle.std.specs.Prelude.{◌&&◌, if◌then◌else◌}
use Rattle.std.specs.Ordering.{nat_cmp, int_cmp, bool_cmp, ordering_then}
use Rattle.std.specs.Cmp.Lexicographic.{slice_cmp}
use Rattle.std.proofs.lemmas.Bool.Decides.{nat_tests}
use Rattle.key_encoding.specs.Coding.{IsSignedWord}
use Rattle.key_encoding.specs.Spelling.{uvarint}
use Rattle.key_encoding.proofs.Ranks.{equal, then_assoc}
use Rattle.key_encoding.proofs.UnsignedOrder.{uvarint-ordered}
use Rattle.key_encoding.proofs.SignedOrder.{varint-ordered, varint_down-ordered}
use Rattle.key_encoding.proofs.Escapes.{bytes-ordered, bytes_down-ordered}
use Rattle.row_codec.specs.RowOrder.{rank, is_down, datum_cmp, row_cmp}
use Rattle.row_codec.specs.RowKeys.{is_of_kind, are_of_kinds, IsValue, IsKey, truth_number, datum_code, values_code, row_key, RowKeysAreOrdered}
use Rattle.row_codec.specs.declared.rows.Kind.{Kind}
use Rattle.row_codec.specs.declared.rows.Datum.{Datum}
use Rattle.row_codec.specs.declared.rows.Datum.TheVariants.{Int, Text, Bytes, Bool as Truth, Null}

pub both_true : (a b : Bool) → a && b ≡ true → (a ≡ true) × (b ≡ true)
both_true true b e = (refl, e)
both_true false b e = absurd (cc)

pub truth_fits : (b : Bool) → IsSignedWord (truth_number b)
truth_fits true = omega arith
truth_fits false = omega arith

truth_cmp : (a b : Bool) → int_cmp (truth_number a) (truth_number b) ≡ bool_cmp a b
truth_cmp true true = refl
truth_cmp true false = refl
truth_cmp false true = refl
truth_cmp false false = refl

datum-ordered : (down : Bool) (x y : Datum) (r s : List ℕ) → rank x ≡ rank y → IsValue x → IsValue y
    → slice_cmp nat_cmp (datum_code down x ++ r) (datum_code down y ++ s) ≡ ordering_then (if down then datum_cmp y x else datum_cmp x y) (slice_cmp nat_cmp r s)
datum-ordered true (Int a) (Int b) r s e hx hy = varint_down-ordered a b r s hx hy
datum-ordered false (Int a) (Int b) r s e hx hy = varint-ordered a b r s hx hy
datum-ordered true (Text a) (Text b) r s e hx hy = bytes_down-ordered a b r s hx.0 hy.0
datum-ordered false (Text a) (Text b) r s e hx hy = bytes-ordered a b r s hx.0 hy.0
datum-ordered true (Bytes a) (Bytes b) r s e hx hy = bytes_down-ordered a b r s hx hy
datum-ordered false (Bytes a) (Bytes b) r s e hx hy = bytes-ordered a b r s hx hy
datum-ordered true (Truth a) (Truth b) r s e hx hy = rw (← truth_cmp b a) (varint_down-ordered (truth_number a) (truth_number b) r s (truth_fits a) (truth_fits b))
datum-ordered false (Truth a) (Truth b) r s e hx hy = rw (← truth_cmp a b) (varint-ordered (truth_number a) (truth_number b) r s (truth_fits a) (truth_fits b))
datum-ordered true Null Null r s e hx hy = refl
datum-ordered false Null Null r s e hx hy = refl
datum-ordered down x y r s e hx hy = absurd (omega arith)

values-ordered : (kinds : List Kind) (xs ys : List Datum) (r s : List ℕ) → IsKey kinds xs → IsKey kinds ys
    → slice_cmp nat_cmp (values_code kinds xs ++ r) (values_code kinds ys ++ s) ≡ ordering_then (row_cmp kinds xs ys) (slice_cmp nat_cmp r s)
values-ordered [] [] [] r s hx hy = refl
values-ordered [] (x ∷ xs) ys r s hx hy = let f = hx.0 in absurd (cc)
values-ordered [] [] (y ∷ ys) r s hx hy = let f = hy.0 in absurd (cc)
values-ordered (k ∷ kinds) [] ys r s hx hy = let f = hx.0 in absurd (cc)
values-ordered (k ∷ kinds) (x ∷ xs) [] r s hx hy = let f = hy.0 in absurd (cc)
values-ordered (k ∷ kinds) (x ∷ xs) (y ∷ ys) r s hx hy =
    let px = both_true (is_of_kind k x) (are_of_kinds kinds xs) hx.0 in
    let py = both_true (is_of_kind k y) (are_of_kinds kinds ys) hy.0 in
    let ix = px.0 in
    let iy = py.0 in
    let first = if is_down k then datum_cmp y x else datum_cmp x y in
    rw (append_assoc (datum_code (is_down k) x) (values_code kinds xs) r, append_assoc (datum_code (is_down k) y) (values_code kinds ys) s)
    (datum-ordered (is_down k) x y (values_code kinds xs ++ r) (values_code kinds ys ++ s) (grind (arith, nat_tests)) hx.1.0 hy.1.0
    ∙ (ap (ordering_then first) (values-ordered kinds xs ys r s (px.1, hx.1.1) (py.1, hy.1.1)) ∙ then_assoc first (row_cmp kinds xs ys) (slice_cmp nat_cmp r s)))

pub row_keys-ordered : RowKeysAreOrdered
unfolding row_key
row_keys-ordered table kinds fits xs ys r s hx hy =
    let vx = values_code kinds xs in
    let vy = values_code kinds ys in
    rw (append_assoc (uvarint table) (137 ∷ vx) r, append_assoc (uvarint table) (137 ∷ vy) s)
    (uvarint-ordered table table (137 ∷ vx ++ r) (137 ∷ vy ++ s) (omega arith) (omega arith) ∙ rw (equal table table refl) (values-ordered kinds xs ys r s hx hy))
