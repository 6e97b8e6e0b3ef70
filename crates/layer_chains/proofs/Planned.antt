-- The plan of a table in a layer whose scope has it.
use Rattle.std.proofs.Common.{◌≡◌, ℕ, ◌==◌, Bool, true, false, cond, ◌&&◌, ◌||◌, sym, refl, ap, subst, ◌∙◌, true≢false, List, [], ◌∷◌, map, filter, Option, Some, None, option_map, unwrap_or}
use Rattle.std.specs.List.{find}
use Rattle.std.proofs.lemmas.Bool.{eqb-true, eq-eqb}
use Rattle.table_descriptors.specs.declared.scopes.Scope.{Scope}
use Rattle.table_descriptors.specs.Descriptors.{Schema, has_id}
use Rattle.list_laws.specs.Members.{Has}
use Rattle.list_laws.proofs.Filters.{none-any}
use Rattle.list_laws.proofs.Members.{filter-passes, has-filter}
use Rattle.history_model.specs.Histories.{Table, schemas_of}
use Rattle.history_model.specs.Layers.{LayerRecord}
use Rattle.version_store.specs.Tables.{Tables}
use Rattle.span_export.specs.Plans.{plan_entries}
use Rattle.table_rows.specs.RowTables.{bytes_of}
use Rattle.introduced_spans.specs.declared.plans.Span.{Span}
use Rattle.introduced_spans.specs.declared.plans.TablePlan.{TablePlan}
use Rattle.introduced_spans.specs.Publicity.{becomes_public_in}
use Rattle.introduced_spans.specs.Spans.{descriptors_of, is_member, is_member_over, members_of, plan_by, scope_ids, table_plan}
use Rattle.introduced_spans.proofs.Walks.{any-there}
use Rattle.layer_objects.specs.Contents.{entries_in}
use Rattle.layer_objects.specs.Objects.{covers, plan_of, rows_of}
use Rattle.layer_chains.specs.Chains.{introduces, layer_entries, plan_for}

-- ---- ids

-- an id stays among others that are filtered exactly where it passes
held : (p : ℕ → Bool) (id : ℕ) (ids : List ℕ) → Has id ids → has_id id (filter p ids) ≡ p id
held p id ids has = by (p id) refl
  where
    other : p id ≡ false → (x : ℕ) → Has x (filter p ids) → (b : Bool) → x == id ≡ b → x == id ≡ false
    other fails x there false e = e
    other fails x there true e = absurd (true≢false (sym (filter-passes p x ids there) ∙ (ap p (eqb-true x id e) ∙ fails)))

    by : (b : Bool) → p id ≡ b → has_id id (filter p ids) ≡ p id
    by true passes = any-there (λ x. x == id) (filter p ids) id (has-filter p id ids has passes) (eq-eqb id id refl) ∙ sym passes
    by false fails = none-any (λ x. x == id) (filter p ids) (λ x there. other fails x there (x == id) refl) ∙ sym fails

found : (D : List (List Schema)) (s : Span) (id : ℕ) (ids : List ℕ) → find (λ (p : TablePlan). p.id == id) (map (table_plan D s) ids) ≡ cond (has_id id ids) (Some (table_plan D s id)) None
unfolding table_plan
found D s id [] = refl
found D s id (i ∷ ids) = by (i == id) refl (found D s id ids)
  where
    rest : Option TablePlan
    rest = find (λ (p : TablePlan). p.id == id) (map (table_plan D s) ids)

    by : (b : Bool) → i == id ≡ b → rest ≡ cond (has_id id ids) (Some (table_plan D s id)) None → cond b (Some (table_plan D s i)) rest ≡ cond (b || has_id id ids) (Some (table_plan D s id)) None
    by true e more = ap (λ (j : ℕ). Some (table_plan D s j)) (eqb-true i id e)
    by false e more = more

-- ---- a table of the scope

module _ (tables : List Table) (scope : Scope) (id : ℕ) (member : Has id (scope_ids (schemas_of tables) scope)) (r : LayerRecord) (is : r.scope ≡ scope) where
  abbrev D : List (List Schema)
  D = schemas_of tables

  abbrev ds : List Schema
  ds = descriptors_of D id

  abbrev h : Tables
  h = bytes_of (rows_of tables)

  -- it is planned exactly where it is a member
  plan-is : plan_for tables id r ≡ cond (is_member D (covers r) id) (Some (table_plan D (covers r) id)) None
  unfolding plan_of members_of
  plan-is = found D (covers r) id (members_of D r.scope (covers r)) ∙ ap (λ (b : Bool). cond b (Some (table_plan D (covers r) id)) None) (held (is_member D (covers r)) id (scope_ids D r.scope) (subst (λ (sc : Scope). Has id (scope_ids D sc)) (sym is) member))

  pub entries-are : layer_entries tables id r ≡ cond (is_member_over r.history (covers r) ds) (plan_entries h id (plan_by r.history (becomes_public_in ds r.start r.end) (covers r) ds)) []
  unfolding table_plan
  entries-are = ap (λ (o : Option TablePlan). unwrap_or (option_map (entries_in h) o) []) plan-is ∙ by (is_member D (covers r) id)
    where
      by : (b : Bool) → unwrap_or (option_map (entries_in h) (cond b (Some (table_plan D (covers r) id)) None)) [] ≡ cond b (plan_entries h id (plan_by r.history (becomes_public_in ds r.start r.end) (covers r) ds)) []
      by true = refl
      by false = refl

  pub introduces-is : introduces tables id r ≡ (is_member_over r.history (covers r) ds && becomes_public_in ds r.start r.end)
  unfolding table_plan
  introduces-is = ap (λ (o : Option TablePlan). unwrap_or (option_map (λ (p : TablePlan). p.introduced) o) false) plan-is ∙ by (is_member D (covers r) id)
    where
      by : (b : Bool) → unwrap_or (option_map (λ (p : TablePlan). p.introduced) (cond b (Some (table_plan D (covers r) id)) None)) false ≡ (b && becomes_public_in ds r.start r.end)
      by true = refl
      by false = refl
