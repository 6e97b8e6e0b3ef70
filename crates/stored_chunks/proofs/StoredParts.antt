-- What a layer stores of a table, by the place of the table in its manifest.
use Rattle.std.proofs.Common.{◌≡◌, ◌∙◌, inl, inr, ℕ, zero, suc, ◌+◌, ◌<◌, ◌≤◌, Bool, true, false, ◌==◌, cond, nat_lt, refl, sym, ap, ap₂, subst, arith, get_or, List, [], ◌∷◌, ◌++◌, length, take, drop, Option, Some, None, position, slice_get}
use Rattle.std.specs.List.{AllByRecursion, position_or_len}
use Rattle.std.proofs.lemmas.Bool.Decides.{nat_tests}
use Rattle.std.proofs.lemmas.List.{drop_more, take-append-drop}
use Rattle.std.proofs.lemmas.List.Sums.{sum_by-append, sum_by-cons}
use Rattle.std.proofs.lemmas.Option.{get_or_from_slice_get, slice_get_cases}
use Rattle.layer_manifest.specs.declared.manifest.TablePart.{TablePart}
use Rattle.layer_manifest.specs.declared.manifest.Manifest.{Manifest}
use Rattle.layer_manifest.specs.Manifests.{IsProperManifest, chunk_count}
use Rattle.layer_manifest.proofs.FewChunks.{count_few}
use Rattle.layer_model.specs.declared.names.LayerName.{LayerName}
use Rattle.stored_chunks.specs.Places.{is_of, part_of, stored, with_part, with_place}

-- an element of a list by its index
pub all-at : {X : Type 0} (P : X → Type 0) (xs : List X) (i : ℕ) (x : X) → AllByRecursion P xs → i < length xs → x ≡ get_or xs i x → P x
all-at P [] i x all lt at = absurd (omega (arith, lt))
all-at P (y ∷ ys) zero x all lt at = subst P (sym at) all.0
all-at P (y ∷ ys) (suc i) x all lt at = all-at P ys i x all.1 (omega (arith, lt)) at

got-some : (test : TablePart → Bool) (ts : List TablePart) (place : ℕ) → position test ts ≡ Some place → (place < length ts) × (t : TablePart) × (slice_get ts place ≡ Some t)
got-some test ts place e = by (nat_lt n (length ts)) refl e
  where
    n : ℕ
    n = position_or_len test ts

    by : (b : Bool) → nat_lt n (length ts) ≡ b → cond b (Some n) None ≡ Some place → (place < length ts) × (t : TablePart) × (slice_get ts place ≡ Some t)
    by false lt f = absurd (cc f)
    by true lt f = let same : n ≡ place = cc f in elim (slice_get_cases ts n).1 [
      | inl w ↦ ((let less : n < length ts = grind (arith, nat_tests, lt) in subst (λ (k : ℕ). k < length ts) same less), w.0, ap (slice_get ts) (sym same) ∙ w.2)
      | inr w ↦ absurd (let le = w.0 in grind (arith, nat_tests, lt, le))
    ]

module _ (table : ℕ) (layer : LayerName) (m : Manifest) (ts : List TablePart) (same : ts ≡ m.tables) (r : Option ℕ) (found : r ≡ position (is_of table) ts) where
  found-in : position (is_of table) m.tables ≡ r
  found-in = ap (position (is_of table)) (sym same) ∙ sym found

  pub part-none : r ≡ None → part_of table (layer, m) ≡ None
  part-none none = ap (with_place layer m.tables) (found-in ∙ none)

  module _ (place : ℕ) (part : TablePart) (some : r ≡ Some place) (is : part ≡ get_or ts place part) where
    in-list : (place < length ts) × (t : TablePart) × (slice_get ts place ≡ Some t)
    in-list = got-some (is_of table) ts place (sym found ∙ some)

    got : slice_get m.tables place ≡ Some part
    got = ap (λ (xs : List TablePart). slice_get xs place) (sym same) ∙ (in-list.2 ∙ ap Some (sym (is ∙ get_or_from_slice_get ts place in-list.1 part in-list.2)))

    part-there : part_of table (layer, m) ≡ with_part layer (chunk_count (take place m.tables)) (Some part)
    part-there = ap (with_place layer m.tables) (found-in ∙ some) ∙ ap (with_part layer (chunk_count (take place m.tables))) got

    pub part-empty : (length part.chunks == 0) ≡ true → part_of table (layer, m) ≡ None
    part-empty empty = part-there ∙ rw empty refl

    pub part-some : (length part.chunks == 0) ≡ false → part_of table (layer, m) ≡ Some (stored layer part.introduced (chunk_count (take place m.tables)) part.chunks)
    part-some some_chunk = part-there ∙ rw some_chunk refl

    -- the numbers of its chunks are below 1,000,000
    pub few-chunks : IsProperManifest m → (before : List TablePart) → before ≡ take place ts → chunk_count before + length part.chunks ≤ 1000000
    few-chunks proper before front =
        let all = count_few m.version [] m.tables proper.tables (let z : chunk_count [] ≡ 0 = refl in omega (arith, z)) in
        let parts : m.tables ≡ before ++ part ∷ drop (place + 1) ts = sym same ∙ (sym (take-append-drop place ts) ∙ ap₂ (λ (xs ys : List TablePart). xs ++ ys) (sym front) (drop_more ts place part in-list.0 ∙ ap (λ (x : TablePart). x ∷ drop (place + 1) ts) (sym is))) in
        let whole = ap chunk_count parts ∙ sum_by-append (λ (x : TablePart). length x.chunks) before (part ∷ drop (place + 1) ts) in
        let own = sum_by-cons (λ (x : TablePart). length x.chunks) part (drop (place + 1) ts) in
        omega (arith, all, whole, own)
