-- Keys that fit, and what their sizes are in bytes.
use Rattle.std.proofs.Common.{◌≡◌, ℕ, ◌+◌, ◌==◌, ◌&&◌, nat_lt, Bool, true, false, sym, refl, ap, ap₂, ◌∙◌, arith, List, [], ◌∷◌, length, Some, None, if◌then◌else◌}
use Rattle.std.proofs.lemmas.Bool.{eqb-true}
use Rattle.std.proofs.lemmas.Bool.Decides.{nat_tests}
use Rattle.std.proofs.lemmas.List.{length-append}
use Rattle.std.specs.List.{list_all}
use Rattle.row_codec.specs.declared.rows.Kind.{Kind}
use Rattle.row_codec.specs.declared.rows.Datum.{Datum}
use Rattle.row_codec.specs.RowOrder.{is_down}
use Rattle.row_codec.specs.RowKeys.{is_of_kind, are_of_kinds, values_code, datum_code, row_key}
use Rattle.key_encoding.specs.Spelling.{uvarint}
use Rattle.row_codec.proofs.KeyOrder.{both_true}
use Rattle.history_model.specs.RowTests.{first_wrong, key_misfit_from, wrong_key_column, columns_len, is_large_key}
use Rattle.table_rows.proofs.Lists.{wrong-none}

misfit-none : (n : ℕ) (kinds : List Kind) (key : List Datum) → length key ≡ length kinds → key_misfit_from n kinds key ≡ None → are_of_kinds kinds key ≡ true
misfit-none n [] [] len e = refl
misfit-none n [] (x ∷ xs) len e = absurd (omega (arith, len))
misfit-none n (kind ∷ kinds) [] len e = absurd (omega (arith, len))
misfit-none n (kind ∷ kinds) (x ∷ xs) len e = by (is_of_kind kind x) refl (misfit-none (n + 1) kinds xs (omega (arith, len)))
  where
    by : (b : Bool) → is_of_kind kind x ≡ b → (key_misfit_from (n + 1) kinds xs ≡ None → are_of_kinds kinds xs ≡ true) → (is_of_kind kind x && are_of_kinds kinds xs) ≡ true
    by true f more = ap₂ (λ (p q : Bool). p && q) f (more (sym (ap (λ (b : Bool). if b then key_misfit_from (n + 1) kinds xs else Some n) f) ∙ e))
    by false f more = let no : Some n ≡ None = sym (ap (λ (b : Bool). if b then key_misfit_from (n + 1) kinds xs else Some n) f) ∙ e in cc no

right-key : (kinds : List Kind) (key : List Datum) → wrong_key_column kinds key ≡ None → are_of_kinds kinds key ≡ true
right-key kinds key e = by (length key == length kinds) refl
  where
    by : (b : Bool) → length key == length kinds ≡ b → are_of_kinds kinds key ≡ true
    by true l = misfit-none 1 kinds key (eqb-true (length key) (length kinds) l) (sym (ap (λ (b : Bool). if b then key_misfit_from 1 kinds key else Some 0) l) ∙ e)
    by false l = let no : Some 0 ≡ None = sym (ap (λ (b : Bool). if b then key_misfit_from 1 kinds key else Some 0) l) ∙ e in cc no

-- where no key is wrong, all have the kinds
pub right-keys : (kinds : List Kind) (n : ℕ) (keys : List (List Datum)) → first_wrong (wrong_key_column kinds) n keys ≡ None → list_all (are_of_kinds kinds) keys ≡ true
right-keys kinds n [] e = refl
right-keys kinds n (key ∷ keys) e =
    let w = wrong-none n (wrong_key_column kinds key) (first_wrong (wrong_key_column kinds) (n + 1) keys) e in
    ap₂ (λ (p q : Bool). p && q) (right-key kinds key w.0) (right-keys kinds (n + 1) keys w.1)

-- ---- sizes

values-len : (kinds : List Kind) (key : List Datum) → are_of_kinds kinds key ≡ true → length (values_code kinds key) ≡ columns_len kinds key + 1
values-len [] [] e = refl
values-len [] (x ∷ xs) e = cc e
values-len (kind ∷ kinds) [] e = cc e
values-len (kind ∷ kinds) (x ∷ xs) e =
    let code = datum_code (is_down kind) x in
    let more = values-len kinds xs (both_true (is_of_kind kind x) (are_of_kinds kinds xs) e).1 in
    length-append code (values_code kinds xs) ∙ (ap (λ (n : ℕ). length code + n) more ∙ omega arith)

pub key-len : (kinds : List Kind) (key : List Datum) → are_of_kinds kinds key ≡ true → length (row_key 0 kinds key) ≡ columns_len kinds key + 3
unfolding row_key uvarint
key-len kinds key e = let v = values-len kinds key e in omega (arith, v)

pub large-key : (kinds : List Kind) (key : List Datum) (n : ℕ) → are_of_kinds kinds key ≡ true → n ≡ length (row_key 0 kinds key) → nat_lt 4099 n ≡ is_large_key kinds key
large-key kinds key n e len = let l : n ≡ columns_len kinds key + 3 = len ∙ key-len kinds key e in ap (λ (m : ℕ). nat_lt 4099 m) l ∙ by (columns_len kinds key)
  where
    by : (m : ℕ) → nat_lt 4099 (m + 3) ≡ nat_lt 4096 m
    by m = grind (arith, nat_tests)
