-- How many chunks tables have.
use Rattle.std.proofs.Common.{◌≡◌, suc, ◌+◌, ◌≤◌, refl, List, [], ◌∷◌, length, map, arith}
use Rattle.std.proofs.lemmas.List.{length-append, length-map}
use Rattle.std.proofs.lemmas.List.Sums.{sum_by-cons}
use Rattle.mvcc_keys.specs.Times.{Time}
use Rattle.mvcc_keys.specs.declared.entries.Entry.{Entry}
use Rattle.std.specs.Prelude.{Bool}
use Rattle.schema_catalog.specs.Catalogs.{Schemas}
use Rattle.introduced_spans.specs.declared.plans.TablePlan.{TablePlan}
use Rattle.layer_manifest.specs.declared.manifest.TablePart.{TablePart}
use Rattle.layer_manifest.specs.Manifests.{chunk_count}
use Rattle.layer_objects.specs.Contents.{in_a_row, info_of, part_of, with_each, with_pieces}

abbrev Pieces : Type 0
Pieces = List (List Entry)

pub count_cons : (t : TablePart) (ts : List TablePart) → chunk_count (t ∷ ts) ≡ length t.chunks + chunk_count ts
count_cons t ts = sum_by-cons (λ (x : TablePart). length x.chunks) t ts

-- the tables with the pieces that are left have as many chunks more
pub count_each : (ts : List TablePart) (tables : List Pieces) → length tables ≤ length ts → chunk_count (with_each ts tables) ≡ chunk_count ts + length (in_a_row tables)
count_each [] [] le = refl
count_each [] (ps ∷ tables) le = absurd (let m : suc (length tables) ≤ 0 = le in omega arith)
count_each (t ∷ ts) [] le = let z : length (in_a_row []) ≡ 0 = refl in omega (arith, z)
count_each (t ∷ ts) (ps ∷ tables) le =
    let a = count_cons t ts in let b = count_cons (with_pieces t ps) (with_each ts tables) in let r = count_each ts tables (let m : suc (length tables) ≤ suc (length ts) = le in omega arith) in
    let l = length-append t.chunks (map info_of ps) in let k = length-map ps info_of in let j = length-append ps (in_a_row tables) in omega (arith, a, b, r, l, k, j)

-- tables without chunks have none
pub bare_count : (catalog : Schemas) (history : Bool) (floor end : Time) (plans : List TablePlan) → chunk_count (map (part_of catalog history floor end) plans) ≡ 0
bare_count catalog history floor end [] = refl
bare_count catalog history floor end (p ∷ plans) =
    let a = sum_by-cons (λ (x : TablePart). length x.chunks) (part_of catalog history floor end p) (map (part_of catalog history floor end) plans) in
    let b = bare_count catalog history floor end plans in let z : length (part_of catalog history floor end p).chunks ≡ 0 = refl in omega (arith, a, b, z)
