-- Tables by their names: a catalog and a machine find the same.
use Rattle.std.proofs.Common.{◌≡◌, ◌⊎◌, inl, inr, ℕ, ◌+◌, ◌-◌, nat_lt, false, refl, sym, ap, ◌∙◌, arith, List, [], Option, Some, None, option_map, option_and_then, unwrap_or, slice_get}
use Rattle.std.proofs.lemmas.Bool.Decides.{nat_tests}
use Rattle.std.proofs.lemmas.Option.{slice_get-map}
use Rattle.mvcc_keys.specs.Times.{Time}
use Rattle.table_descriptors.specs.Descriptors.{Schema}
use Rattle.history_model.specs.Histories.{Table, Found, in_force, schemas_of, place_named, named, found_at}
use Rattle.schema_catalog.specs.Catalogs.{Schemas, history_of, id_at}
use Rattle.cluster_core.specs.Finding.{found_in}

-- a table of a name, found in both
pub record Sees (tables : List Table) (name : List ℕ × List ℕ) (t : Time) (id : ℕ) (d : Schema) : Type 0 where
  pub place : ℕ
  pub table : Table
  pub id_is : id ≡ 100 + place
  pub got : slice_get tables place ≡ Some table
  pub force : in_force table.descriptors t ≡ Some d
  pub named_is : named tables name t ≡ Some (record { place = place; table = table; schema = d })

-- what the name finds
abbrev pub found_by : (name : List ℕ × List ℕ) (tables : List Table) (t : Time) (id : ℕ) (d : Schema) → Sees tables name t id d → Found
found_by name tables t id d w = record { place = w.place; table = w.table; schema = d }

module _ (s : Schemas) (tables : List Table) (name : List ℕ × List ℕ) (t : Time) (same : schemas_of tables ≡ s.tables) where
  abbrev in_catalog : Option ℕ → Option (ℕ × Schema)
  in_catalog place = option_and_then (λ id. option_map (λ d. (id, d)) (in_force (history_of s id) t)) (option_map id_at place)

  abbrev in_machine : Option ℕ → Option Found
  in_machine place = option_and_then (λ i. option_and_then (found_at i t) (slice_get tables i)) place

  history-at : (i : ℕ) → history_of s (100 + i) ≡ unwrap_or (option_map (λ (x : Table). x.descriptors) (slice_get tables i)) []
  history-at i =
      let above : nat_lt (100 + i) 100 ≡ false = grind (arith, nat_tests) in
      let place : 100 + i - 100 ≡ i = omega arith in
      rw (above, place) (ap (λ (xs : List (List Schema)). unwrap_or (slice_get xs i) []) (sym same) ∙ ap (λ (r : Option (List Schema)). unwrap_or r []) (slice_get-map (λ (x : Table). x.descriptors) tables i))

  by-force : (i : ℕ) (table : Table) (r : Option Schema) → slice_get tables i ≡ Some table → in_force table.descriptors t ≡ r → (place_named (schemas_of tables) name t ≡ Some i)
      → ((in_catalog (Some i) ≡ None) × (in_machine (Some i) ≡ None)) ⊎ ((id : ℕ) × (d : Schema) × (in_catalog (Some i) ≡ Some (id, d)) × Sees tables name t id d)
  by-force i table None got force is = inl (
    rw (history-at i, got, force) refl,
    rw (got, force) refl,
  )
  by-force i table (Some d) got force is = inr (
    100 + i,
    d,
    rw (history-at i, got, force) refl,
    record { place = i; table = table; id_is = refl; got = got; force = force; named_is = rw (is, got, force) refl },
  )

  by-table : (i : ℕ) (r : Option Table) → slice_get tables i ≡ r → (place_named (schemas_of tables) name t ≡ Some i)
      → ((in_catalog (Some i) ≡ None) × (in_machine (Some i) ≡ None)) ⊎ ((id : ℕ) × (d : Schema) × (in_catalog (Some i) ≡ Some (id, d)) × Sees tables name t id d)
  by-table i None got is = inl (rw (history-at i, got) refl, rw got refl)
  by-table i (Some table) got is = by-force i table (in_force table.descriptors t) got refl is

  by-place : (r : Option ℕ) → place_named (schemas_of tables) name t ≡ r → place_named s.tables name t ≡ r
      → ((found_in s name t ≡ None) × (named tables name t ≡ None)) ⊎ ((id : ℕ) × (d : Schema) × (found_in s name t ≡ Some (id, d)) × Sees tables name t id d)
  by-place None here there = inl (rw there refl, rw here refl)
  by-place (Some i) here there = elim (by-table i (slice_get tables i) refl here) [
    | inl none ↦ inl (ap in_catalog there ∙ none.0, ap in_machine here ∙ none.1)
    | inr some ↦ inr (some.0, some.1, ap in_catalog there ∙ some.2, some.3)
  ]

  looks : ((found_in s name t ≡ None) × (named tables name t ≡ None)) ⊎ ((id : ℕ) × (d : Schema) × (found_in s name t ≡ Some (id, d)) × Sees tables name t id d)
  looks = by-place (place_named (schemas_of tables) name t) refl (ap (λ xs. place_named xs name t) (sym same))

  pub sees : (id : ℕ) (d : Schema) → found_in s name t ≡ Some (id, d) → Sees tables name t id d
  sees id d e = elim looks [
    | inl none ↦ absurd (clash (found_in s name t) (id, d) none.0 e)
    | inr some ↦ moved some.0 some.1 (pair-is (some.0, some.1) (id, d) (sym some.2 ∙ e)) some.3
  ]
    where
      clash : (r : Option (ℕ × Schema)) (x : ℕ × Schema) → r ≡ None → r ≡ Some x → ⊥
      clash r x p q = let no : None ≡ Some x = sym p ∙ q in cc no

      pair-is : (x y : ℕ × Schema) → Some x ≡ Some y → x ≡ y
      pair-is x y p = cc p

      moved : (i : ℕ) (x : Schema) → ◌≡◌ {A = ℕ × Schema} (i, x) (id, d) → Sees tables name t i x → Sees tables name t id d
      moved i x p w = let first : i ≡ id = ap (λ (y : ℕ × Schema). y.0) p in let second : x ≡ d = ap (λ (y : ℕ × Schema). y.1) p in rw (sym first, sym second) w

  pub misses : found_in s name t ≡ None → named tables name t ≡ None
  misses e = elim looks [
    | inl none ↦ none.1
    | inr some ↦ absurd (no (some.0, some.1) (sym e ∙ some.2))
  ]
    where
      no : (x : ℕ × Schema) → None ≡ Some x → ⊥
      no x p = cc p
