-- Single steps of the readers' loops.
use Rattle.std.proofs.Common.{◌≡◌, ℕ, zero, suc, ◌+◌, ◌<◌, true, false, List, [], ◌∷◌, ◌++◌, length, drop, arith, refl, ◌-◌, Result, Ok}
use Rattle.std.specs.Str.{bytes_eq}
use Rattle.table_descriptors.specs.Fields.{read_items, read_exactly}
use Rattle.layer_manifest.specs.ManifestFiles.{version_code, read_version}
use Rattle.std.proofs.lemmas.List.Sums.{sum_by-append}
use Rattle.row_codec.specs.declared.rows.Kind.{Kind}
use Rattle.layer_manifest.specs.Manifests.{same_kinds, chunk_count}
use Rattle.layer_manifest.specs.declared.manifest.TablePart.{TablePart}

-- fewer kinds are left of the other list
pub kinds_over : (ks js : List Kind) (i : ℕ) → i < length ks → length js ≡ 0 → same_kinds (drop i ks) js ≡ false
kinds_over [] js i h e = absurd (omega arith)
kinds_over (k ∷ ks) [] zero h e = refl
kinds_over (k ∷ ks) (j ∷ js) zero h e = absurd (omega arith)
kinds_over (k ∷ ks) js (suc i) h e = kinds_over ks js i (omega arith) e

pub chunks_more : (tables : List TablePart) (t : TablePart) → chunk_count (tables ++ t ∷ []) ≡ chunk_count tables + length t.chunks
chunks_more tables t = let all = sum_by-append (λ (x : TablePart). length x.chunks) tables (t ∷ []) in omega (arith, all)

-- one more value was read
pub read_step : {X : Type 0} (one : List X → List ℕ → Result (X × List ℕ) ℕ) (n : ℕ) (before after : List X) (b t : List ℕ) (x : X) (whole : Result (List X × List ℕ) ℕ) → 0 < n → one before b ≡ Ok (x, t) → after ≡ before ++ x ∷ []
    → read_items one n before b ≡ whole → read_items one (n - 1) after t ≡ whole
read_step one zero before after b t x whole p e a h = absurd (omega arith)
read_step one (suc n) before after b t x whole p e a h =
    let less : suc n - 1 ≡ n = omega arith in
    let was = rw e at h in
    rw (less, a) was

-- the second mark was read
pub second_version : (b mark rest : List ℕ) → read_exactly 4 b ≡ Ok (mark, rest) → false ≡ bytes_eq mark (version_code 1) → true ≡ bytes_eq mark (version_code 2) → read_version b ≡ Ok (2, rest)
second_version b mark rest e first second = rw (e, ← first, ← second, ← first) refl
