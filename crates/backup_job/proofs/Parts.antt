-- The tables of a manifest with more chunks.
use Rattle.std.proofs.Common.{◌≡◌, ◌∙◌, ℕ, zero, suc, ◌<◌, refl, sym, ap, ap₂, List, [], ◌∷◌, ◌++◌, length, map, set, slice_get, Some, Result, Ok, Err, OnOk, arith}
use Rattle.std.proofs.lemmas.List.{append_assoc, append-nil, length-append}
use Rattle.mvcc_keys.specs.declared.entries.Entry.{Entry}
use Rattle.layer_manifest.specs.declared.manifest.ChunkInfo.{ChunkInfo}
use Rattle.layer_manifest.specs.declared.manifest.TablePart.{TablePart}
use Rattle.layer_manifest.specs.Manifests.{chunk_count}
use Rattle.layer_objects.specs.Contents.{in_a_row, info_of, with_each, with_pieces}
use Rattle.layer_objects.proofs.Counts.{count_cons}
use Rattle.backup_job.specs.Units.{put_front, with_info}

abbrev Pieces : Type 0
Pieces = List (List Entry)

abbrev chunks_in : TablePart → List ChunkInfo → TablePart
chunks_in t chunks = record { id = t.id; introduced = t.introduced; descriptors = t.descriptors; chunks = chunks }

-- a piece may be left, or its chunk be there
pub with_each-first : (ts : List TablePart) (tables : List Pieces) (place : ℕ) (piece : List Entry) → place < length tables → with_each ts (put_front place piece tables) ≡ with_each (with_info place (info_of piece) ts) tables
with_each-first ts [] place piece lt = absurd (omega arith)
with_each-first [] (ps ∷ tables) place piece lt = refl
with_each-first (t ∷ ts) (ps ∷ tables) zero piece lt = ap (λ (cs : List ChunkInfo). chunks_in t cs ∷ with_each ts tables) (sym (append_assoc t.chunks (info_of piece ∷ []) (map info_of ps)))
with_each-first (t ∷ ts) (ps ∷ tables) (suc place) piece lt = ap (λ (xs : List TablePart). with_pieces t ps ∷ xs) (with_each-first ts tables place piece (let m : suc place < suc (length tables) = lt in omega arith))

none_in_front : (ps qs : Pieces) → ps ++ qs ≡ [] → ps ≡ []
none_in_front [] qs e = refl
none_in_front (p ∷ ps) qs e = absurd cc

none_behind : (ps qs : Pieces) → ps ++ qs ≡ [] → qs ≡ []
none_behind [] qs e = e
none_behind (p ∷ ps) qs e = absurd cc

-- where nothing is left the tables are complete
pub with_each-none : (ts : List TablePart) (tables : List Pieces) → in_a_row tables ≡ [] → with_each ts tables ≡ ts
with_each-none [] tables e = refl
with_each-none (t ∷ ts) [] e = refl
with_each-none (t ∷ ts) (ps ∷ tables) e = ap₂ (λ (x : TablePart) (xs : List TablePart). x ∷ xs) (ap (λ (qs : Pieces). with_pieces t qs) (none_in_front ps (in_a_row tables) e) ∙ ap (chunks_in t) (append-nil t.chunks)) (with_each-none ts tables (none_behind ps (in_a_row tables) e))

-- ---- numbers

pub count_more : (ts : List TablePart) (place : ℕ) (info : ChunkInfo) → place < length ts → chunk_count (with_info place info ts) ≡ suc (chunk_count ts)
count_more [] place info lt = absurd (omega arith)
count_more (t ∷ ts) zero info lt = let a = count_cons t ts in let b = count_cons (chunks_in t (t.chunks ++ info ∷ [])) ts in let l = length-append t.chunks (info ∷ []) in let one : length (info ∷ []) ≡ 1 = refl in omega (arith, a, b, l, one)
count_more (t ∷ ts) (suc place) info lt = let a = count_cons t ts in let b = count_cons t (with_info place info ts) in let r = count_more ts place info (let m : suc place < suc (length ts) = lt in omega arith) in omega (arith, a, b, r)

-- ---- a chunk more, as a write to a list

pub length-with_info : (place : ℕ) (info : ChunkInfo) (ts : List TablePart) → length (with_info place info ts) ≡ length ts
length-with_info place info [] = refl
length-with_info zero info (t ∷ ts) = refl
length-with_info (suc place) info (t ∷ ts) = ap suc (length-with_info place info ts)

pub with_info-set : (place : ℕ) (info : ChunkInfo) (ts us : List TablePart) (t : TablePart) → slice_get ts place ≡ Some t → us ≡ set ts place (chunks_in t (t.chunks ++ info ∷ [])) → us ≡ with_info place info ts
with_info-set place info [] us t at is = absurd cc
with_info-set zero info (x ∷ ts) us t at is = is ∙ ap (λ (y : TablePart). chunks_in y (y.chunks ++ info ∷ []) ∷ ts) (let s : t ≡ x = cc in s)
with_info-set (suc place) info (x ∷ ts) us t at is = is ∙ ap (λ (xs : List TablePart). x ∷ xs) (with_info-set place info ts (set ts place (chunks_in t (t.chunks ++ info ∷ []))) t at refl)

pub with_info-on_ok : {T E : Type 0} (r : Result T E) (place : ℕ) (info : ChunkInfo) (ts us : List TablePart) (t : TablePart) (chunks : List ChunkInfo) → slice_get ts place ≡ Some t → us ≡ set ts place (chunks_in t chunks) → OnOk r (chunks ≡ t.chunks ++ info ∷ []) → OnOk r (us ≡ with_info place info ts)
with_info-on_ok (Ok x) place info ts us t chunks at is more = with_info-set place info ts us t at (is ∙ ap (λ (cs : List ChunkInfo). set ts place (chunks_in t cs)) more)
with_info-on_ok (Err e) place info ts us t chunks at is more = tt
