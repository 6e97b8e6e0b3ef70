-- The facts of tables by their ids, where one table changes or one is added.
use Rattle.std.proofs.Common.{◌≡◌, ◌≢◌, ◌⊎◌, inl, inr, ℕ, zero, suc, ◌+◌, ◌-◌, ◌==◌, nat_lt, Bool, true, false, cond, refl, sym, ap, ◌∙◌, subst, arith, List, [], ◌∷◌, ◌++◌, map, Some, option_map, unwrap_or, slice_get, slice_set}
use Rattle.std.proofs.Math.Path.{fun_ext}
use Rattle.std.proofs.lemmas.Bool.{cases_Bool}
use Rattle.std.proofs.lemmas.Bool.Decides.{nat_tests}
use Rattle.mvcc_keys.specs.Times.{Time, time_lt, zero_time}
use Rattle.row_codec.specs.declared.rows.Kind.{Kind}
use Rattle.list_laws.specs.Members.{Has}
use Rattle.history_model.specs.Rows.{RowFact}
use Rattle.history_model.specs.Histories.{Table}
use Rattle.version_store.specs.Tables.{Tables}
use Rattle.table_rows.specs.RowTables.{RowTables, HasRows, IsRowFact, coded, with_facts, with_threshold}
use Rattle.layer_objects.specs.Objects.{by_id, table_kinds, table_facts, table_threshold, rows_of}
use Rattle.machine_model.proofs.Lists.{got-set, got-set_other}

module _ {X : Type 0} (none : X) (f : Table → X) where
  pub by_id-at : (tables : List Table) (i : ℕ) (t : Table) → slice_get tables i ≡ Some t → by_id none f tables (100 + i) ≡ f t
  by_id-at tables i t got =
      let above : nat_lt (100 + i) 100 ≡ false = grind (arith, nat_tests) in
      let place : 100 + i - 100 ≡ i = omega arith in
      rw (above, place, got) refl

  -- one table becomes another
  pub by_id-set : (g : X → X) (tables : List Table) (i : ℕ) (t u : Table) → slice_get tables i ≡ Some t → f u ≡ g (f t)
      → (id : ℕ) → by_id none f (slice_set tables i u) id ≡ cond (id == 100 + i) (g (by_id none f tables id)) (by_id none f tables id)
  by_id-set g tables i t u got is id = by (nat_lt id 100) refl
    where
      here : (b : Bool) → (id == 100 + i) ≡ b → nat_lt id 100 ≡ false
          → unwrap_or (option_map f (slice_get (slice_set tables i u) (id - 100))) none ≡ cond b (g (unwrap_or (option_map f (slice_get tables (id - 100))) none)) (unwrap_or (option_map f (slice_get tables (id - 100))) none)
      here true e l =
          let place : id - 100 ≡ i = grind (arith, nat_tests, e, l) in
          rw (place, got-set tables i t u got, got) is
      here false e l =
          let other : id - 100 ≢ i = grind (arith, nat_tests, e, l) in
          rw (got-set_other tables i (id - 100) u other) refl

      by : (b : Bool) → nat_lt id 100 ≡ b → by_id none f (slice_set tables i u) id ≡ cond (id == 100 + i) (g (by_id none f tables id)) (by_id none f tables id)
      by true l = let other : (id == 100 + i) ≡ false = grind (arith, nat_tests, l) in rw (l, other) refl
      by false l = elim (cases_Bool (id == 100 + i)) [ inl e ↦ rw (l, e) (here true e l) | inr e ↦ rw (l, e) (here false e l) ]

  -- one becomes another of the same value
  pub by_id-same : (tables : List Table) (i : ℕ) (t u : Table) → slice_get tables i ≡ Some t → f u ≡ f t → by_id none f (slice_set tables i u) ≡ by_id none f tables
  by_id-same tables i t u got is = fun_ext (λ id. by_id-set (λ x. x) tables i t u got is id ∙ both (id == 100 + i) (by_id none f tables id))
    where
      both : (b : Bool) (x : X) → cond b x x ≡ x
      both true x = refl
      both false x = refl

  -- one is added that has none
  push-none : (tables : List Table) (t : Table) → f t ≡ none → (j : ℕ) → unwrap_or (option_map f (slice_get (tables ++ t ∷ []) j)) none ≡ unwrap_or (option_map f (slice_get tables j)) none
  push-none [] t is zero = is
  push-none [] t is (suc j) = refl
  push-none (u ∷ us) t is zero = refl
  push-none (u ∷ us) t is (suc j) = push-none us t is j

  pub by_id-push : (tables : List Table) (t : Table) → f t ≡ none → by_id none f (tables ++ t ∷ []) ≡ by_id none f tables
  by_id-push tables t is = fun_ext (λ id. by id (nat_lt id 100) refl)
    where
      by : (id : ℕ) (b : Bool) → nat_lt id 100 ≡ b → by_id none f (tables ++ t ∷ []) id ≡ by_id none f tables id
      by id true l = rw l refl
      by id false l = rw l (push-none tables t is (id - 100))

-- ---- their rows

same-rows : (S T : RowTables) → S.kinds ≡ T.kinds → S.facts ≡ T.facts → S.threshold ≡ T.threshold → S ≡ T
same-rows S T p q r = λ i. record { kinds = p i; facts = q i; threshold = r i }

pub rows-same : (tables : List Table) (i : ℕ) (t u : Table) → slice_get tables i ≡ Some t → table_kinds u ≡ table_kinds t → u.facts ≡ t.facts → u.threshold ≡ t.threshold → rows_of (slice_set tables i u) ≡ rows_of tables
rows-same tables i t u got kinds facts threshold =
    same-rows (rows_of (slice_set tables i u)) (rows_of tables) (by_id-same [] table_kinds tables i t u got kinds) (by_id-same [] table_facts tables i t u got facts) (by_id-same zero_time table_threshold tables i t u got threshold)

pub rows-more : (tables : List Table) (i : ℕ) (t u : Table) (fs : List RowFact) → slice_get tables i ≡ Some t → table_kinds u ≡ table_kinds t → u.facts ≡ t.facts ++ fs → u.threshold ≡ t.threshold → rows_of (slice_set tables i u) ≡ with_facts (100 + i) fs (rows_of tables)
rows-more tables i t u fs got kinds facts threshold =
    same-rows (rows_of (slice_set tables i u)) (with_facts (100 + i) fs (rows_of tables)) (by_id-same [] table_kinds tables i t u got kinds) (fun_ext (by_id-set [] table_facts (λ gs. gs ++ fs) tables i t u got facts)) (by_id-same zero_time table_threshold tables i t u got threshold)

pub rows-raised : (tables : List Table) (i : ℕ) (t u : Table) (g : Time) → slice_get tables i ≡ Some t → table_kinds u ≡ table_kinds t → u.facts ≡ t.facts → u.threshold ≡ cond (time_lt t.threshold g) g t.threshold → rows_of (slice_set tables i u) ≡ with_threshold (100 + i) g (rows_of tables)
rows-raised tables i t u g got kinds facts threshold =
    same-rows (rows_of (slice_set tables i u)) (with_threshold (100 + i) g (rows_of tables)) (by_id-same [] table_kinds tables i t u got kinds) (by_id-same [] table_facts tables i t u got facts) (fun_ext (by_id-set zero_time table_threshold (λ s. cond (time_lt s g) g s) tables i t u got threshold))

-- ---- a new table

-- the kinds of a table that is there stay, and a table that isn't there has no facts
kept-kinds : (tables : List Table) (t : Table) (id : ℕ) → (by_id [] table_kinds (tables ++ t ∷ []) id ≡ by_id [] table_kinds tables id) ⊎ (by_id [] table_facts tables id ≡ [])
kept-kinds tables t id = by (nat_lt id 100) refl
  where
    got : (us : List Table) (j : ℕ) → (unwrap_or (option_map table_kinds (slice_get (us ++ t ∷ []) j)) [] ≡ unwrap_or (option_map table_kinds (slice_get us j)) []) ⊎ (unwrap_or (option_map table_facts (slice_get us j)) [] ≡ [])
    got [] j = inr refl
    got (u ∷ us) zero = inl refl
    got (u ∷ us) (suc j) = got us j

    by : (b : Bool) → nat_lt id 100 ≡ b → (by_id [] table_kinds (tables ++ t ∷ []) id ≡ by_id [] table_kinds tables id) ⊎ (by_id [] table_facts tables id ≡ [])
    by true l = rw l (inl refl)
    by false l = rw l (got tables (id - 100))

pub rows-new : (stands : Tables → Type 0) (tables : List Table) (t : Table) → t.facts ≡ [] → t.threshold ≡ zero_time → HasRows stands (rows_of tables) → HasRows stands (rows_of (tables ++ t ∷ []))
rows-new stands tables t none from has = record {
  bytes = subst stands (λ i. record { facts = fun_ext (λ id. sym (same id)) i; threshold = sym (by_id-push zero_time table_threshold tables t from) i }) has.bytes;
  rows = λ id f is. here id f is (kept-kinds tables t id);
}
  where
    facts : by_id [] table_facts (tables ++ t ∷ []) ≡ by_id [] table_facts tables
    facts = by_id-push [] table_facts tables t none

    same : (id : ℕ) → map (coded id (by_id [] table_kinds (tables ++ t ∷ []) id)) (by_id [] table_facts (tables ++ t ∷ []) id) ≡ map (coded id (by_id [] table_kinds tables id)) (by_id [] table_facts tables id)
    same id = elim (kept-kinds tables t id) [
      | inl kinds ↦ ap (λ (fs : ℕ → List RowFact). map (coded id (by_id [] table_kinds (tables ++ t ∷ []) id)) (fs id)) facts ∙ ap (λ (ks : List Kind). map (coded id ks) (by_id [] table_facts tables id)) kinds
      | inr empty ↦ ap (λ (fs : ℕ → List RowFact). map (coded id (by_id [] table_kinds (tables ++ t ∷ []) id)) (fs id)) facts ∙ (ap (map (coded id (by_id [] table_kinds (tables ++ t ∷ []) id))) empty ∙ sym (ap (map (coded id (by_id [] table_kinds tables id))) empty))
    ]

    here : (id : ℕ) (f : RowFact) → Has f (by_id [] table_facts (tables ++ t ∷ []) id) → (by_id [] table_kinds (tables ++ t ∷ []) id ≡ by_id [] table_kinds tables id) ⊎ (by_id [] table_facts tables id ≡ []) → IsRowFact (by_id [] table_kinds (tables ++ t ∷ []) id) f
    here id f is (inl kinds) = subst (λ (ks : List Kind). IsRowFact ks f) (sym kinds) (has.rows id f (subst (λ (fs : ℕ → List RowFact). Has f (fs id)) facts is))
    here id f is (inr empty) = absurd (subst (λ (fs : List RowFact). Has f fs) empty (subst (λ (fs : ℕ → List RowFact). Has f (fs id)) facts is))
