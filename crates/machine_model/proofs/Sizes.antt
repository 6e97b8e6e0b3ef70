-- What was tested for its size takes no more bytes than a layer can hold.
use Rattle.std.proofs.Common.{inl, inr, ◌≡◌, ℕ, ◌+◌, ◌≤◌, Bool, true, false, refl, sym, ap, ◌∙◌, List, [], ◌∷◌, map, length, Option, Some, None, if◌then◌else◌}
use Rattle.std.proofs.lemmas.Bool.{cases_Bool}
use Rattle.mvcc_keys.specs.Times.{Time, IsTime}
use Rattle.row_codec.specs.declared.rows.Datum.{Datum}
use Rattle.row_codec.specs.RowOrder.{row_cmp}
use Rattle.row_codec.specs.RowValues.{row_value}
use Rattle.std.specs.Prelude.{not}
use Rattle.std.specs.Ordering.{is_lt}
use Rattle.table_descriptors.specs.Descriptors.{Schema, key_kinds}
use Rattle.fact_model.specs.Facts.{Del, DelRange}
use Rattle.list_laws.specs.Members.{Has}
use Rattle.history_model.specs.Rows.{Key, RowFact, cells_in, key_of, put_of}
use Rattle.history_model.specs.RowTests.{columns_len, first_number, is_large_key, is_large_row, is_empty_range, large_key, large_row, wrong_row, wrong_key, repeated_row, repeated_key}
use Rattle.table_rows.specs.declared.faults.RowsFault.{RowsFault}
use Rattle.table_rows.specs.declared.faults.RowsFault.TheVariants.{EmptyRange}
use Rattle.table_rows.specs.Checks.{first_fault, wrong_fault, large_fault, repeated_fault, rows_fault, keys_fault, range_fault}
use Rattle.layer_objects.specs.Storable.{IsSized}
use Rattle.list_laws.proofs.Orderings.{not-lt-above}

second : (a b c : Option RowsFault) → first_fault (a ∷ b ∷ c ∷ []) ≡ None → b ≡ None
second None None c e = refl
second None (Some f) c e = cc e
second (Some f) b c e = cc e

third : (a b c : Option RowsFault) → first_fault (a ∷ b ∷ c ∷ []) ≡ None → c ≡ None
third None None None e = refl
third None None (Some f) e = cc e
third None (Some f) c e = cc e
third (Some f) b c e = cc e

not-empty : (b : Bool) → (if not b then Some EmptyRange else None) ≡ None → b ≡ true
not-empty true e = refl
not-empty false e = cc e

none-large : (o : Option ℕ) → large_fault o ≡ None → o ≡ None
none-large None e = refl
none-large (Some n) e = cc e

-- the test of none of them holds
none-first : {X : Type 0} (test : X → Bool) (n : ℕ) (xs : List X) → first_number test n xs ≡ None → (x : X) → Has x xs → test x ≡ false
none-first test n [] e x has = absurd has
none-first test n (y ∷ ys) e x has = elim (cases_Bool (test y)) [
  | inl t ↦ absurd (let no : Some n ≡ None = rw t at e in cc no)
  | inr f ↦ here f (λ more. none-first test (n + 1) ys (rw f at e) x more) has
]
  where
    here : test y ≡ false → (Has x ys → test x ≡ false) → Has x (y ∷ ys) → test x ≡ false
    here f later (inl is) = ap test is ∙ f
    here f later (inr more) = later more

fits : (kinds : List _) (key : Key) → is_large_key kinds key ≡ false → columns_len kinds key ≤ 4096
fits kinds key e = not-lt-above 4096 (columns_len kinds key) e

both-fit : (d : Schema) (t : Time) (row : List Datum) → IsTime t → is_large_row d row ≡ false → IsSized (key_kinds d) (put_of d t row)
both-fit d t row time e = elim (cases_Bool (is_large_key (key_kinds d) (key_of d row))) [
  | inl large ↦ absurd (let no : true ≡ false = rw large at e in cc no)
  | inr fine ↦ (fits (key_kinds d) (key_of d row) fine, not-lt-above 32768 (length (row_value (cells_in d.key_columns d.columns row))) (rw fine at e), time)
]

-- each of some facts that are made of what was tested
module _ {X : Type 0} (P : RowFact → Type 0) (make : X → RowFact) (xs : List X) where
  each-made : (ys : List X) → ((y : X) → Has y ys → P (make y)) → (f : RowFact) → Has f (map make ys) → P f
  each-made [] all f has = absurd has
  each-made (y ∷ ys) all f (inl is) = subst-P (sym is) (all y (inl refl))
    where
      subst-P : make y ≡ f → P (make y) → P f
      subst-P same p = rw (← same) p
  each-made (y ∷ ys) all f (inr more) = each-made ys (λ z has. all z (inr has)) f more

pub rows-sized : (d : Schema) (t : Time) (rows : List (List Datum)) → IsTime t → rows_fault d rows ≡ None → (f : RowFact) → Has f (map (put_of d t) rows) → IsSized (key_kinds d) f
unfolding rows_fault
rows-sized d t rows time fine =
    let none = none-large (large_row d rows) (second (wrong_fault (wrong_row d rows)) (large_fault (large_row d rows)) (repeated_fault (repeated_row d rows)) fine) in
    each-made (IsSized (key_kinds d)) (put_of d t) rows rows (λ row has. both-fit d t row time (none-first (is_large_row d) 1 rows none row has))

pub keys-sized : (d : Schema) (t : Time) (keys : List Key) → IsTime t → keys_fault d keys ≡ None → (f : RowFact) → Has f (map (λ k. Del k t) keys) → IsSized (key_kinds d) f
unfolding keys_fault
keys-sized d t keys time fine =
    let none = none-large (large_key d keys) (second (wrong_fault (wrong_key d keys)) (large_fault (large_key d keys)) (repeated_fault (repeated_key d keys)) fine) in
    each-made (IsSized (key_kinds d)) (λ k. Del k t) keys keys (λ key has. (fits (key_kinds d) key (none-first (is_large_key (key_kinds d)) 1 keys none key has), time))

pub range-sized : (d : Schema) (t : Time) (lo hi : Key) → IsTime t → range_fault d lo hi ≡ None → (f : RowFact) → Has f (DelRange lo hi t ∷ []) → IsSized (key_kinds d) f
unfolding range_fault
range-sized d t lo hi time fine =
    let none = none-large (large_key d (lo ∷ hi ∷ [])) (second (wrong_fault (wrong_key d (lo ∷ hi ∷ []))) (large_fault (large_key d (lo ∷ hi ∷ []))) (if is_empty_range d lo hi then Some EmptyRange else None) fine) in
    let key = none-first (is_large_key (key_kinds d)) 1 (lo ∷ hi ∷ []) none in
    let up = not-empty (is_lt (row_cmp (key_kinds d) lo hi)) (third (wrong_fault (wrong_key d (lo ∷ hi ∷ []))) (large_fault (large_key d (lo ∷ hi ∷ []))) (if is_empty_range d lo hi then Some EmptyRange else None) fine) in
    each-made (IsSized (key_kinds d)) (λ (u : Unit {0}). DelRange lo hi t) (tt ∷ []) (tt ∷ []) (λ u has. (fits (key_kinds d) lo (key lo (inl refl)), fits (key_kinds d) hi (key hi (inr (inl refl))), time, up))
