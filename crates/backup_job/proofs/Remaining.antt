-- What is left of the tables of a job, before and after a piece.
use Rattle.std.proofs.Common.{◌≡◌, ◌≢◌, ◌∙◌, ℕ, zero, suc, ◌<◌, ◌≤◌, refl, sym, ap, ap₂, subst, List, [], ◌∷◌, ◌++◌, length, map, take, drop, slice_get, Option, Some, None, arith}
use Rattle.std.specs.List.{AllByRecursion}
use Rattle.std.proofs.lemmas.List.{take-append-drop, append_assoc, nil_from_length}
use Rattle.mvcc_keys.specs.declared.entries.Entry.{Entry}
use Rattle.version_store.specs.Tables.{Tables}
use Rattle.span_export.specs.declared.cursor.Place.{Place}
use Rattle.span_export.specs.Pieces.{after_place, cursor_after}
use Rattle.span_export.proofs.Cuts.{nothing-given, pieces-whole}
use Rattle.introduced_spans.specs.declared.plans.TablePlan.{TablePlan}
use Rattle.layer_objects.specs.Contents.{chunk_size, cut, in_a_row, pieces_of}
use Rattle.layer_objects.specs.Contents.{entries_in}
use Rattle.backup_job.specs.Jobs.{IsReached, pieces_after, remaining_from}
use Rattle.backup_job.specs.declared.pieces.Piece.{Piece}
use Rattle.backup_job.specs.Searches.{IsNextAt}
use Rattle.backup_job.specs.Units.{IsFirst, put_front}
use Rattle.layer_objects.proofs.Cutting.{cut-more, cut-nil, size_pos}
use Rattle.list_laws.proofs.Places.{take-none}

abbrev Pieces : Type 0
Pieces = List (List Entry)

-- ---- from table to table

-- nothing is given before the first entry
pub reached_none : (h : Tables) (place : ℕ) (plans : List TablePlan) → IsReached h place None plans
reached_none h place plans plan at = ([], sym (nothing-given (entries_in h plan)))

-- all of some tables is left where the place is the first of them
pub all_left : (h : Tables) (plans : List TablePlan) → map (pieces_of h) plans ≡ remaining_from h zero None plans
all_left h [] = refl
all_left h (plan ∷ plans) = ap (λ (es : List Entry). cut chunk_size es ∷ map (pieces_of h) plans) (sym (nothing-given (entries_in h plan)))

-- where nothing follows the cursor, what is left begins at the next table
pub next_table : (h : Tables) (plans : List TablePlan) (place : ℕ) (cursor : Option Place) (plan : TablePlan) → slice_get plans place ≡ Some plan → after_place cursor (entries_in h plan) ≡ [] → remaining_from h place cursor plans ≡ remaining_from h (suc place) None plans
next_table h [] place cursor plan at none = absurd cc
next_table h (p ∷ plans) zero cursor plan at none =
    let same : p ≡ plan = cc in
    ap₂ (λ (x : Pieces) (xs : List Pieces). x ∷ xs) (cut-nil chunk_size (after_place cursor (entries_in h p)) (ap (λ (q : TablePlan). after_place cursor (entries_in h q)) same ∙ none)) (all_left h plans)
next_table h (p ∷ plans) (suc place) cursor plan at none = ap (λ (xs : List Pieces). [] ∷ xs) (next_table h plans place cursor plan at none)

-- past the last table nothing is left
pub none_past : (h : Tables) (plans : List TablePlan) (place : ℕ) (cursor : Option Place) → length plans ≤ place → in_a_row (remaining_from h place cursor plans) ≡ []
none_past h [] place cursor le = refl
none_past h (p ∷ plans) zero cursor le = absurd (let m : suc (length plans) ≤ 0 = le in omega arith)
none_past h (p ∷ plans) (suc place) cursor le = none_past h plans place cursor (let m : suc (length plans) ≤ suc place = le in omega arith)

-- ---- a piece

-- a table's pieces are the first, and those after the cursor that it leaves
first_of : (h : Tables) (plan : TablePlan) (cursor next : Option Place) → after_place cursor (entries_in h plan) ≢ [] → after_place next (entries_in h plan) ≡ drop chunk_size (after_place cursor (entries_in h plan)) → pieces_after h cursor plan ≡ take chunk_size (after_place cursor (entries_in h plan)) ∷ pieces_after h next plan
first_of h plan cursor next some follows = cut-more chunk_size (after_place cursor (entries_in h plan)) size_pos some ∙ ap (λ (es : List Entry). take chunk_size (after_place cursor (entries_in h plan)) ∷ cut chunk_size es) (sym follows)

first_at : (h : Tables) (plans : List TablePlan) (place : ℕ) (cursor next : Option Place) (plan : TablePlan) → slice_get plans place ≡ Some plan → after_place cursor (entries_in h plan) ≢ [] → after_place next (entries_in h plan) ≡ drop chunk_size (after_place cursor (entries_in h plan))
    → remaining_from h place cursor plans ≡ put_front place (take chunk_size (after_place cursor (entries_in h plan))) (remaining_from h place next plans)
first_at h [] place cursor next plan at some follows = absurd cc
first_at h (p ∷ plans) zero cursor next plan at some follows =
    let same : p ≡ plan = cc in
    subst (λ (q : TablePlan). pieces_after h cursor q ∷ map (pieces_of h) plans ≡ (take chunk_size (after_place cursor (entries_in h plan)) ∷ pieces_after h next q) ∷ map (pieces_of h) plans) (sym same)
    (ap (λ (x : Pieces). x ∷ map (pieces_of h) plans) (first_of h plan cursor next some follows))
first_at h (p ∷ plans) (suc place) cursor next plan at some follows = ap (λ (xs : List Pieces). [] ∷ xs) (first_at h plans place cursor next plan at some follows)

-- the entries done before a piece, and the piece, are done after it
then_reached : (n : ℕ) (es done left next : List Entry) → es ≡ done ++ left → next ≡ drop n left → es ≡ (done ++ take n left) ++ next
then_reached n es done left next e is = e ∙ (ap (λ (xs : List Entry). done ++ xs) (sym (take-append-drop n left)) ∙ (sym (append_assoc done (take n left) (drop n left)) ∙ ap (λ (xs : List Entry). (done ++ take n left) ++ xs) (sym is)))

-- the first entries after a cursor are the first piece that is left
pub first_piece : (h : Tables) (plans : List TablePlan) (place : ℕ) (cursor after : Option Place) (plan : TablePlan) (piece : List Entry) → place < length plans → slice_get plans place ≡ Some plan → IsReached h place cursor plans
    → 0 < length piece → piece ≡ take chunk_size (after_place cursor (entries_in h plan)) → after ≡ cursor_after cursor piece → IsFirst h plans (remaining_from h place cursor plans) place after piece
first_piece h plans place cursor after plan piece lt at reached some is moved = record {
  within = lt;
  parts = first_at h plans place cursor after plan at none follows ∙ ap (λ (p : List Entry). put_front place p (remaining_from h place after plans)) (sym is);
  reached = λ q here.
      let same : plan ≡ q = (let s : Some plan ≡ Some q = sym at ∙ here in cc) in
      subst (λ (r : TablePlan). (done : List Entry) × (entries_in h r ≡ done ++ after_place after (entries_in h r))) same
      ((reached plan at).0 ++ take chunk_size rest, then_reached chunk_size (entries_in h plan) (reached plan at).0 rest (after_place after (entries_in h plan)) (reached plan at).1 follows);
}
  where
    rest : List Entry
    rest = after_place cursor (entries_in h plan)

    none : rest ≢ []
    none e = let l : length piece ≡ 0 = ap length (is ∙ take-none chunk_size rest e) in omega (arith, l, some)

    follows : after_place after (entries_in h plan) ≡ drop chunk_size rest
    follows = ap (λ (c : Option Place). after_place c (entries_in h plan)) (moved ∙ ap (cursor_after cursor) is) ∙ pieces-whole.follows h plan.id plan.plan chunk_size (reached plan at).0 rest cursor (reached plan at).1 refl

-- with a piece in front, what is left in a row begins with it
pub row_first : (h : Tables) (plans : List TablePlan) (place : ℕ) (cursor : Option Place) (piece : List Entry) → place < length plans → in_a_row (put_front place piece (remaining_from h place cursor plans)) ≡ piece ∷ in_a_row (remaining_from h place cursor plans)
row_first h [] place cursor piece lt = absurd (omega arith)
row_first h (p ∷ plans) zero cursor piece lt = refl
row_first h (p ∷ plans) (suc place) cursor piece lt = row_first h plans place cursor piece (let m : suc place < suc (length plans) = lt in omega arith)

pub length-remaining : (h : Tables) (plans : List TablePlan) (place : ℕ) (cursor : Option Place) → length (remaining_from h place cursor plans) ≡ length plans
length-remaining h [] place cursor = refl
length-remaining h (p ∷ plans) zero cursor = ap suc (mapped plans)
  where
    mapped : (ps : List TablePlan) → length (map (pieces_of h) ps) ≡ length ps
    mapped [] = refl
    mapped (q ∷ ps) = ap suc (mapped ps)
length-remaining h (p ∷ plans) (suc place) cursor = ap suc (length-remaining h plans place cursor)

-- ---- what the search finds

pub all_at : {X : Type 0} (P : X → Type 0) (xs : List X) (i : ℕ) (x : X) → AllByRecursion P xs → slice_get xs i ≡ Some x → P x
all_at P [] i x all at = absurd cc
all_at P (y ∷ xs) zero x all at = subst P (let s : y ≡ x = cc in s) all.0
all_at P (y ∷ xs) (suc i) x all at = all_at P xs i x all.1 at

take_none : {X : Type 0} (n : ℕ) (xs : List X) → 0 < n → take n xs ≡ [] → xs ≡ []
take_none n [] pos e = refl
take_none zero (x ∷ xs) pos e = absurd (omega arith)
take_none (suc n) (x ∷ xs) pos e = absurd cc

-- an empty piece ends its table
pub no_piece : (h : Tables) (plans : List TablePlan) (place : ℕ) (cursor : Option Place) (plan : TablePlan) (piece : List Entry) → slice_get plans place ≡ Some plan → piece ≡ take chunk_size (after_place cursor (entries_in h plan)) → length piece ≡ 0 → remaining_from h place cursor plans ≡ remaining_from h (suc place) None plans
no_piece h plans place cursor plan piece at is empty = next_table h plans place cursor plan at (take_none chunk_size (after_place cursor (entries_in h plan)) size_pos (sym is ∙ nil_from_length piece empty))

module _ (h : Tables) (plans : List TablePlan) (from at : ℕ) (start : Option Place) (next : Option Piece) where
  -- the search so far, and what is found at a table from its first entry on
  pub found_first_at : (piece : Piece) → start ≡ None → next ≡ Some piece → (IsReached h at start plans → IsNextAt h plans at start next) → remaining_from h from None plans ≡ remaining_from h at None plans → IsFirst h plans (remaining_from h from None plans) piece.place piece.cursor piece.entries.items
  found_first_at piece none is found so_far =
      let here : IsReached h at None plans → IsNextAt h plans at None next = subst (λ (c : Option Place). IsReached h at c plans → IsNextAt h plans at c next) none found in
      subst (λ (tables : List Pieces). IsFirst h plans tables piece.place piece.cursor piece.entries.items) (sym so_far) (subst (IsNextAt h plans at None) is (here (reached_none h at plans)))

  pub found_none_at : (to : ℕ) → to ≡ suc at → start ≡ None → next ≡ None → (IsReached h at start plans → IsNextAt h plans at start next) → remaining_from h from None plans ≡ remaining_from h at None plans → remaining_from h from None plans ≡ remaining_from h to None plans
  found_none_at to one none is found so_far =
      let here : IsReached h at None plans → IsNextAt h plans at None next = subst (λ (c : Option Place). IsReached h at c plans → IsNextAt h plans at c next) none found in
      so_far ∙ (subst (IsNextAt h plans at None) is (here (reached_none h at plans)) ∙ ap (λ (n : ℕ). remaining_from h n None plans) (sym one))
