-- Tables that are dropped one after another, and taken back.
use Rattle.std.proofs.Common.{◌≡◌, ◌≢◌, ℕ, zero, suc, ◌+◌, ◌-◌, ◌<◌, ◌≤◌, ◌==◌, nat_lt, Bool, true, false, sym, refl, ap, ◌∙◌, subst, arith, List, [], ◌∷◌, ◌++◌, take, length, Option, Some, option_map, slice_get, slice_set, unwrap_or, if◌then◌else◌}
use Rattle.std.proofs.lemmas.Bool.{eq-eqb}
use Rattle.std.proofs.lemmas.Bool.Decides.{nat_tests}
use Rattle.std.proofs.lemmas.List.{length-append}
use Rattle.std.specs.List.{AllByRecursion, list_any}
use Rattle.mvcc_keys.specs.Times.{Time}
use Rattle.table_descriptors.specs.Descriptors.{Schema, repeats_id}
use Rattle.history_model.specs.Histories.{in_force}
use Rattle.schema_catalog.specs.Catalogs.{Schemas, history_of, with_descriptor, without_last, dropped, drop_one, IsTableId, IsChangeable, AreChangeable}
use Rattle.schema_catalog.proofs.Places.{table_there}
use Rattle.list_laws.proofs.Bools.{or-neither}

abbrev History : Type 0
History = List Schema

front : (x : History) (d : Schema) → take (length (x ++ d ∷ []) - 1) (x ++ d ∷ []) ≡ x
front x d =
    let l : length (x ++ d ∷ []) ≡ length x + 1 = length-append x (d ∷ []) in
    let n : length (x ++ d ∷ []) - 1 ≡ length x = omega (arith, l) in
    ap (λ (m : ℕ). take m (x ++ d ∷ [])) n ∙ cut x (length x) refl
  where
    cut : (x : History) (n : ℕ) → n ≡ length x → take n (x ++ d ∷ []) ≡ x
    cut [] n e = ap (λ (m : ℕ). take m (d ∷ [])) e
    cut (y ∷ ys) zero e = absurd (omega (arith, e))
    cut (y ∷ ys) (suc n) e = ap (λ (zs : History). y ∷ zs) (cut ys n (omega (arith, e)))

undone : (xs : List History) (p : ℕ) (d : Schema) (ys : List History) → p < length xs → ys ≡ slice_set xs p (unwrap_or (slice_get xs p) [] ++ d ∷ [])
    → slice_set ys p (take (length (unwrap_or (slice_get ys p) []) - 1) (unwrap_or (slice_get ys p) [])) ≡ xs
undone [] p d ys l e = absurd (omega (arith, l))
undone (x ∷ xs) zero d ys l e = rw (e) (ap (λ (z : History). z ∷ xs) (front x d))
undone (x ∷ xs) (suc p) d ys l e = rw (e) (ap (λ (zs : List History). x ∷ zs) (undone xs p d (slice_set xs p (unwrap_or (slice_get xs p) [] ++ d ∷ [])) (omega (arith, l)) refl))

other-place : (xs : List History) (p q : ℕ) (v : History) → p ≢ q → slice_get (slice_set xs p v) q ≡ slice_get xs q
other-place [] p q v n = refl
other-place (x ∷ xs) zero zero v n = absurd (n refl)
other-place (x ∷ xs) zero (suc q) v n = refl
other-place (x ∷ xs) (suc p) zero v n = refl
other-place (x ∷ xs) (suc p) (suc q) v n = other-place xs p q v (λ e. n (ap suc e))

pub other-history : (s : Schemas) (id other : ℕ) (d : Schema) → 100 ≤ id → id ≢ other → history_of (with_descriptor s (id - 100) d) other ≡ history_of s other
other-history s id other d low n = by (nat_lt other 100) refl
  where
    v : History
    v = unwrap_or (slice_get s.tables (id - 100)) [] ++ d ∷ []

    by : (b : Bool) → nat_lt other 100 ≡ b → (if nat_lt other 100 then [] else unwrap_or (slice_get (slice_set s.tables (id - 100) (unwrap_or (slice_get s.tables (id - 100)) [] ++ d ∷ [])) (other - 100)) []) ≡ (if nat_lt other 100 then [] else unwrap_or (slice_get s.tables (other - 100)) [])
    by true e = rw (e) refl
    by false e =
        let high : 100 ≤ other = grind (arith, nat_tests, e) in
        let apart : (id - 100) ≢ (other - 100) = λ q. n (omega (arith, q, low, high)) in
        rw (e) (ap (λ (r : Option History). unwrap_or r []) (other-place s.tables (id - 100) (other - 100) (unwrap_or (slice_get s.tables (id - 100)) [] ++ d ∷ []) apart))

pub dropped-one : (s : Schemas) (t : Time) (id : ℕ) (d : Schema) → in_force (history_of s id) t ≡ Some d → drop_one t s id ≡ with_descriptor s (id - 100) (dropped d t)
dropped-one s t id d e = ap (λ r. unwrap_or (option_map (λ (d : Schema). with_descriptor s (id - 100) (dropped d t)) r) s) e

pub drop_made : (s n : Schemas) (t : Time) (id : ℕ) (d e : Schema) → in_force (history_of s id) t ≡ Some d → e ≡ dropped d t → n ≡ with_descriptor s (id - 100) e → n ≡ drop_one t s id
drop_made s n t id d e found is made = made ∙ (ap (with_descriptor s (id - 100)) is ∙ sym (dropped-one s t id d found))

pub drop_others : (s n : Schemas) (t : Time) (id : ℕ) (d e : Schema) → in_force (history_of s id) t ≡ Some d → n ≡ with_descriptor s (id - 100) e → (ids : List ℕ) → AreChangeable s t (id ∷ ids) → AreChangeable n t ids
drop_others s n t id d e found made ids all = subst (λ (x : Schemas). AreChangeable x t ids) (sym made) (record {
  each = go ids (or-neither (list_any (λ y. y == id) ids) (repeats_id ids) all.differ).0 all.each.1;
  differ = (or-neither (list_any (λ y. y == id) ids) (repeats_id ids) all.differ).1;
})
  where
    there : IsTableId s id
    there = table_there s id t d found

    one : (i : ℕ) → (i == id) ≡ false → IsChangeable s t i → IsChangeable (with_descriptor s (id - 100) e) t i
    one i apart c = record { schema = c.schema; found = ap (λ (h : History). in_force h t) (other-history s id i e there.0 (λ q. (let no : true ≡ false = sym (eq-eqb i id (sym q)) ∙ apart in cc no))) ∙ c.found; version = c.version }

    go : (is : List ℕ) → list_any (λ y. y == id) is ≡ false → AllByRecursion (IsChangeable s t) is → AllByRecursion (IsChangeable (with_descriptor s (id - 100) e) t) is
    go [] apart all = tt
    go (i ∷ is) apart all = let p = or-neither (i == id) (list_any (λ y. y == id) is) apart in (one i p.0 all.0, go is p.1 all.1)

pub taken_back : (o n s : Schemas) (t : Time) (id : ℕ) → n ≡ without_last o (id - 100) → o ≡ drop_one t s id → IsChangeable s t id → n ≡ s
taken_back o n s t id popped made c =
    let there = table_there s id t c.schema c.found in
    let was : o ≡ with_descriptor s (id - 100) (dropped c.schema t) = made ∙ dropped-one s t id c.schema c.found in
    popped ∙ (ap (λ (x : Schemas). without_last x (id - 100)) was ∙ ap (λ (ts : List History). record { databases = s.databases; tables = ts; limit = s.limit }) (undone s.tables (id - 100) (dropped c.schema t) _ there.1 refl))
