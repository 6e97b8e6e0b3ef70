-- Tables that are dropped one after another are dropped, and no others.
use Rattle.std.proofs.Common.{◌≡◌, ℕ, zero, suc, ◌+◌, ◌-◌, ◌<◌, ◌≤◌, ◌==◌, nat_lt, true, false, sym, refl, ap, ◌∙◌, arith, inl, inr, List, [], ◌∷◌, ◌++◌, length, Some, slice_get, slice_set, unwrap_or}
use Rattle.std.proofs.lemmas.Bool.{cases_Bool, eq-eqb}
use Rattle.std.proofs.lemmas.Bool.Decides.{nat_tests}
use Rattle.std.specs.List.{list_any}
use Rattle.mvcc_keys.specs.Times.{Time}
use Rattle.table_descriptors.specs.Descriptors.{Schema, changed_schema, has_id, repeats_id}
use Rattle.table_descriptors.specs.declared.columns.State.TheVariants.{Dropped}
use Rattle.history_model.specs.Histories.{in_force}
use Rattle.schema_catalog.specs.Catalogs.{Schemas, dropped, drop_each, history_of, with_descriptor}
use Rattle.schema_catalog.specs.DropLaws.{AreDropped, DropsAreOfThese, IsDropped}
use Rattle.schema_catalog.proofs.Drops.{dropped-one, drop_others, other-history}
use Rattle.schema_catalog.proofs.Places.{table_there}
use Rattle.list_laws.proofs.Bools.{or-neither}

-- ---- one table

set-there : (xs : List (List Schema)) (p : ℕ) (v : List Schema) → p < length xs → slice_get (slice_set xs p v) p ≡ Some v
set-there [] p v l = absurd (omega (arith, l))
set-there (x ∷ xs) zero v l = refl
set-there (x ∷ xs) (suc p) v l = set-there xs p v (omega (arith, l))

set-length : (xs : List (List Schema)) (p : ℕ) (v : List Schema) → length (slice_set xs p v) ≡ length xs
set-length [] p v = refl
set-length (x ∷ xs) zero v = refl
set-length (x ∷ xs) (suc p) v = ap (λ n. suc n) (set-length xs p v)

one-more : (s : Schemas) (id : ℕ) (d : Schema) → 100 ≤ id → (id - 100) < length s.tables → history_of (with_descriptor s (id - 100) d) id ≡ history_of s id ++ d ∷ []
one-more s id d low l =
    let high : nat_lt id 100 ≡ false = grind (arith, nat_tests, low) in
    let got = set-there s.tables (id - 100) (unwrap_or (slice_get s.tables (id - 100)) [] ++ d ∷ []) l in
    rw (high, got) refl

dropped-state : (d : Schema) (t : Time) → ((dropped d t).state ≡ Dropped) × ((dropped d t).modified ≡ t) × ((dropped d t).version ≡ d.version + 1)
unfolding changed_schema
dropped-state d t = (refl, refl, refl)

-- ---- all of them

none-dropped : (s : Schemas) (t : Time) → AreDropped s s t []
none-dropped s t = record { each = λ id h. absurd (cc); others = λ id h. refl; count = refl; databases = refl; limit = refl }

first-too : (s n : Schemas) (t : Time) (id : ℕ) (d : Schema) (ids : List ℕ) → in_force (history_of s id) t ≡ Some d → has_id id ids ≡ false → AreDropped (with_descriptor s (id - 100) (dropped d t)) n t ids → AreDropped s n t (id ∷ ids)
first-too s n t id d ids found once rest =
    let there = table_there s id t d found in
    record {
      each = each;
      others = others;
      count = rest.count ∙ set-length s.tables (id - 100) (unwrap_or (slice_get s.tables (id - 100)) [] ++ dropped d t ∷ []);
      databases = rest.databases;
      limit = rest.limit;
    }
  where
    same : (i : ℕ) → (id == i) ≡ false → history_of (with_descriptor s (id - 100) (dropped d t)) i ≡ history_of s i
    same i apart = other-history s id i (dropped d t) (table_there s id t d found).0 (λ q. (let no : true ≡ false = sym (eq-eqb id i q) ∙ apart in cc no))

    here : IsDropped s n t id
    here =
        let there = table_there s id t d found in
        let is = dropped-state d t in
        record { last = d; more = dropped d t; found = found; history = rest.others id once ∙ one-more s id (dropped d t) there.0 there.1; next = refl; state = is.0; date = is.1; version = is.2 }

    each : (i : ℕ) → has_id i (id ∷ ids) ≡ true → IsDropped s n t i
    each i h =
        elim (cases_Bool (id == i)) [
          | inl e ↦ let is : id ≡ i = grind (arith, nat_tests) in rw is at here
          | inr f ↦
              let r = rest.each i (rw f at h) in
              let kept = same i f in
              record { last = r.last; more = r.more; found = ap (λ (x : List Schema). in_force x t) (sym kept) ∙ r.found; history = r.history ∙ ap (λ (x : List Schema). x ++ r.more ∷ []) kept; next = r.next; state = r.state; date = r.date; version = r.version }
        ]

    others : (i : ℕ) → has_id i (id ∷ ids) ≡ false → history_of n i ≡ history_of s i
    others i h = let both = or-neither (id == i) (has_id i ids) h in rest.others i both.1 ∙ same i both.0

pub drops-are : DropsAreOfThese
drops-are s t [] all = none-dropped s t
drops-are s t (id ∷ ids) all =
    let first = all.each.0 in
    let once = (or-neither (list_any (λ y. y == id) ids) (repeats_id ids) all.differ).0 in
    let made = dropped-one s t id first.schema first.found in
    let rest = drops-are (with_descriptor s (id - 100) (dropped first.schema t)) t ids (drop_others s (with_descriptor s (id - 100) (dropped first.schema t)) t id first.schema (dropped first.schema t) first.found refl ids all) in
    rw made (first-too s (drop_each (with_descriptor s (id - 100) (dropped first.schema t)) t ids) t id first.schema ids first.found once rest)
