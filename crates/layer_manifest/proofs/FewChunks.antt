-- A layer has at most 1,000,000 chunks.
use Rattle.std.proofs.Common.{◌≡◌, ℕ, ◌≤◌, List, [], ◌∷◌, ◌++◌, append_assoc, append-nil, ap, arith}
use Rattle.table_descriptors.specs.Fields.{EachAfter}
use Rattle.layer_manifest.specs.declared.manifest.TablePart.{TablePart}
use Rattle.layer_manifest.specs.declared.manifest.Manifest.{Manifest}
use Rattle.layer_manifest.specs.Manifests.{IsNextTable, IsProperManifest, chunk_count}
use Rattle.layer_manifest.proofs.Steps.{chunks_more}

pub count_few : (version : ℕ) (before ts : List TablePart) → EachAfter (IsNextTable version) before ts → chunk_count before ≤ 1000000 → chunk_count (before ++ ts) ≤ 1000000
count_few version before [] each le = let e : chunk_count (before ++ []) ≡ chunk_count before = ap chunk_count (append-nil before) in omega (arith, e, le)
count_few version before (t ∷ ts) each le =
    let few = each.0.few in let more = chunks_more before t in
    let all = count_few version (before ++ t ∷ []) ts each.1 (omega (arith, few, more)) in
    let e : chunk_count ((before ++ t ∷ []) ++ ts) ≡ chunk_count (before ++ t ∷ ts) = ap chunk_count (append_assoc before (t ∷ []) ts) in omega (arith, all, e)

pub few_chunks : (m : Manifest) → IsProperManifest m → chunk_count m.tables ≤ 1000000
few_chunks m proper = count_few m.version [] m.tables proper.tables (omega arith)
