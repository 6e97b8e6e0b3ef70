-- What rows and keys that passed their check are.
use Rattle.std.proofs.Common.{◌≡◌, Bool, true, false, not, ◌∷◌, [], List, sym, refl, ap, ◌∙◌, Option, Some, None, option_map, if◌then◌else◌, Result, Ok, Err, OnErr}
use Rattle.std.specs.List.{list_all}
use Rattle.std.specs.Ordering.{is_lt}
use Rattle.row_codec.specs.declared.rows.Datum.{Datum}
use Rattle.row_codec.specs.RowOrder.{row_cmp}
use Rattle.row_codec.specs.RowKeys.{are_of_kinds}
use Rattle.row_codec.proofs.KeyOrder.{both_true}
use Rattle.table_descriptors.specs.Descriptors.{Schema, key_kinds}
use Rattle.history_model.specs.Rows.{Key}
use Rattle.history_model.specs.RowTests.{wrong_row, wrong_key, large_row, large_key, repeated_row, repeated_key, is_empty_range}
use Rattle.table_rows.specs.declared.faults.RowsFault.{RowsFault}
use Rattle.table_rows.specs.declared.faults.RowsFault.TheVariants.{EmptyRange}
use Rattle.table_rows.specs.Checks.{first_fault, wrong_fault, large_fault, repeated_fault, rows_fault, keys_fault, range_fault}
use Rattle.table_rows.proofs.KeySizes.{right-keys}

parts : (a b c : Option RowsFault) → first_fault (a ∷ b ∷ c ∷ []) ≡ None → (a ≡ None) × (b ≡ None) × (c ≡ None)
parts None None None e = (refl, refl, refl)
parts None None (Some f) e = cc e
parts None (Some f) c e = cc e
parts (Some f) b c e = cc e

none-found : {X Y : Type 0} (f : X → Y) (o : Option X) → option_map f o ≡ None → o ≡ None
none-found f None e = refl
none-found f (Some x) e = cc e

pub rows-passed : (d : Schema) (rows : List (List Datum)) → rows_fault d rows ≡ None → (wrong_row d rows ≡ None) × (repeated_row d rows ≡ None)
unfolding rows_fault
rows-passed d rows e =
    let p = parts (wrong_fault (wrong_row d rows)) (large_fault (large_row d rows)) (repeated_fault (repeated_row d rows)) e in
    (none-found _ (wrong_row d rows) p.0, none-found _ (repeated_row d rows) p.2)

pub keys-passed : (d : Schema) (keys : List Key) → keys_fault d keys ≡ None → (list_all (are_of_kinds (key_kinds d)) keys ≡ true) × (repeated_key d keys ≡ None)
unfolding keys_fault
keys-passed d keys e =
    let p = parts (wrong_fault (wrong_key d keys)) (large_fault (large_key d keys)) (repeated_fault (repeated_key d keys)) e in
    (right-keys (key_kinds d) 1 keys (none-found _ (wrong_key d keys) p.0), none-found _ (repeated_key d keys) p.2)

pub range-passed : (d : Schema) (lo hi : Key) → range_fault d lo hi ≡ None → (are_of_kinds (key_kinds d) lo ≡ true) × (are_of_kinds (key_kinds d) hi ≡ true) × (is_lt (row_cmp (key_kinds d) lo hi) ≡ true)
unfolding range_fault
range-passed d lo hi e =
    let p = parts (wrong_fault (wrong_key d (lo ∷ hi ∷ []))) (large_fault (large_key d (lo ∷ hi ∷ []))) (if is_empty_range d lo hi then Some EmptyRange else None) e in
    let all = right-keys (key_kinds d) 1 (lo ∷ hi ∷ []) (none-found _ (wrong_key d (lo ∷ hi ∷ [])) p.0) in
    let first = both_true (are_of_kinds (key_kinds d) lo) (list_all (are_of_kinds (key_kinds d)) (hi ∷ [])) all in
    (first.0, (both_true (are_of_kinds (key_kinds d) hi) true first.1).0, by (is_lt (row_cmp (key_kinds d) lo hi)) refl p.2)
  where
    by : (b : Bool) → is_lt (row_cmp (key_kinds d) lo hi) ≡ b → (if is_empty_range d lo hi then Some EmptyRange else None) ≡ None → is_lt (row_cmp (key_kinds d) lo hi) ≡ true
    by true l none = l
    by false l none = let no : Some EmptyRange ≡ None = sym (ap (λ (b : Bool). if not b then Some EmptyRange else None) l) ∙ none in cc no

pub err-always : {X E P : Type 0} (r : Result X E) → P → OnErr r P
err-always (Ok x) p = tt
err-always (Err e) p = p
