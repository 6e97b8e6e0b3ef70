-- The tables that a manifest shows stand by ascending ids.
use Rattle.std.proofs.Common.{◌≡◌, ◌∙◌, inl, inr, ℕ, ◌+◌, ◌<◌, ◌≤◌, Bool, true, false, ◌&&◌, ◌==◌, nat_le, if◌then◌else◌, refl, ap, ap₂, arith, List, [], ◌∷◌, ◌++◌, Option, Some, None, filter_map}
use Rattle.std.specs.List.{cons_option}
use Rattle.std.specs.Str.{bytes_eq}
use Rattle.std.proofs.lemmas.Bool.{eqb-true}
use Rattle.std.proofs.lemmas.Bool.Decides.{nat_tests}
use Rattle.mvcc_keys.specs.Times.{Time}
use Rattle.table_descriptors.specs.Descriptors.{IsProperSchema, Schema}
use Rattle.table_descriptors.specs.Fields.{EachAfter}
use Rattle.table_descriptors.proofs.ListLaws.{last-push}
use Rattle.list_laws.specs.Members.{Has}
use Rattle.introduced_spans.specs.Publicity.{is_public}
use Rattle.layer_manifest.specs.declared.manifest.Manifest.{Manifest}
use Rattle.layer_manifest.specs.declared.manifest.TablePart.{TablePart}
use Rattle.layer_manifest.specs.Manifests.{IsNextTable, IsProperManifest, comes_after, is_next_descriptor, part_id}
use Rattle.key_rewriter.specs.Ids.{are_ascending, ascends_from}
use Rattle.id_remap.specs.Remapping.{ids_of}
use Rattle.machine_model.specs.Restores.{chosen_by, if_chosen}
use Rattle.machine_model.proofs.ProperRestores.{chosen-has}
use Rattle.cluster_core.specs.Restores.{shown_tables}

-- ---- the descriptors of a table

-- the first of three tests that hold together
first-of : (a b c : Bool) → (a && b && c) ≡ true → a ≡ true
first-of true b c e = refl
first-of false b c e = e

-- each has its id
same-id : (id : ℕ) (before ds : List Schema) → EachAfter (λ others d. IsProperSchema d × (is_next_descriptor id others d ≡ true)) before ds → (d : Schema) → Has d ds → d.id ≡ id
same-id id before [] each d has = absurd has
same-id id before (x ∷ xs) each d (inl is) = ap (λ (y : Schema). y.id) is ∙ eqb-true x.id id (first-of (x.id == id) _ _ each.0.1)
same-id id before (x ∷ xs) each d (inr has) = same-id id (before ++ x ∷ []) xs each.1 d has

-- one that is chosen is the one that was tested
chosen-same : (database : List ℕ) (x d : Schema) → if_chosen database x ≡ Some d → x ≡ d
chosen-same database x d e = by (is_public x && bytes_eq x.database database) e
  where
    by : (b : Bool) → (if b then Some x else None) ≡ Some d → x ≡ d
    by true f = cc f
    by false f = cc f

-- and is among them
-- ---- tables

-- an id after a table is greater than that of the table
after-last : (before : List TablePart) (x : TablePart) (id : ℕ) → comes_after part_id (before ++ x ∷ []) id ≡ true → x.id < id
after-last [] x id after = grind (arith, nat_tests)
after-last (y ∷ ys) x id after = let last = last-push part_id (y ∷ ys) x in grind (arith, nat_tests)

-- n is no greater than an id that may follow some tables
abbrev IsLeast : ℕ → List TablePart → Type 0
IsLeast n before = (id : ℕ) → comes_after part_id before id ≡ true → n ≤ id

-- the ids of those of some tables that are shown ascend from a number that is no greater than the first
ascend-from : (database : List ℕ) (t : Time) (version n : ℕ) (before parts : List TablePart) → IsLeast n before → EachAfter (IsNextTable version) before parts → ascends_from n (ids_of (filter_map (λ (part : TablePart). chosen_by database t part.descriptors) parts)) ≡ true
ascend-from database t version n before [] least each = refl
ascend-from database t version n before (x ∷ xs) least each = by (chosen_by database t x.descriptors) refl (λ m above. ascend-from database t version m (before ++ x ∷ []) xs above each.1)
  where
    rest : List Schema
    rest = filter_map (λ (part : TablePart). chosen_by database t part.descriptors) xs

    by : (o : Option Schema) → chosen_by database t x.descriptors ≡ o → ((m : ℕ) → IsLeast m (before ++ x ∷ []) → ascends_from m (ids_of rest) ≡ true) → ascends_from n (ids_of (cons_option o rest)) ≡ true
    by None is more = more n (λ id after. let low = least x.id each.0.after in let up = after-last before x id after in omega (arith, low, up))
    by (Some d) is more =
        let same = same-id x.id [] x.descriptors each.0.descriptors d (chosen-has database t x.descriptors d is) in
        let low = least x.id each.0.after in
        let first : nat_le n d.id ≡ true = grind (arith, nat_tests) in
        ap₂ (λ (a b : Bool). a && b) first (more (d.id + 1) (λ id after. let up = after-last before x id after in omega (arith, same, up)))

-- the ids of the tables that a proper manifest shows ascend
pub shown-ascend : (database : List ℕ) (t : Time) (m : Manifest) → IsProperManifest m → are_ascending (ids_of (shown_tables database t m)) ≡ true
shown-ascend database t m proper = ascend-from database t m.version 0 [] m.tables (λ id after. omega arith) proper.tables
