-- Manifests of version 1: a proper one is made of each proper manifest.
use Rattle.std.proofs.Common.{◌≡◌, ℕ, zero, suc, ◌+◌, ◌-◌, nat_lt, List, [], ◌∷◌, ◌++◌, length, map, Result, Ok, Err, MatchResult, refl, sym, ap, subst, ◌∙◌}
use Rattle.std.specs.List.{AllByRecursion, fold, slice_get}
use Rattle.std.specs.Prelude.{option_map}
use Rattle.std.proofs.lemmas.List.{length-map, map-append}
use Rattle.row_codec.specs.declared.rows.Kind.{Kind}
use Rattle.table_descriptors.specs.Descriptors.{last_key}
use Rattle.table_descriptors.specs.Fields.{EachAfter}
use Rattle.layer_manifest.specs.declared.faults.ManifestFault.{ManifestFault}
use Rattle.layer_manifest.specs.declared.faults.ManifestFault.TheVariants.{Malformed, Memory}
use Rattle.layer_manifest.specs.declared.manifest.ChunkInfo.{ChunkInfo}
use Rattle.layer_manifest.specs.declared.manifest.Manifest.{Manifest}
use Rattle.layer_manifest.specs.declared.manifest.TablePart.{TablePart}
use Rattle.layer_manifest.specs.ManifestFiles.{Answers, manifest_code, read_manifest}
use Rattle.layer_manifest.specs.Manifests.{IsNextTable, IsProperChunk, IsProperManifest, chunk_count, comes_after, part_id}
use Rattle.collection_dir.specs.Versions.{first_chunk, first_table, first_version}

-- what was read back of a manifest's bytes
pub read_back : (m : Manifest) (b : List ℕ) (r : Result Manifest ManifestFault) → b ≡ manifest_code m → read_manifest (manifest_code m) ≡ Ok m → Answers r (read_manifest b) → MatchResult r (λ n. n ≡ m) (λ e. e ≡ Memory)
read_back m b (Ok n) is found read = let e : Ok n ≡ Ok m = sym read ∙ ap read_manifest is ∙ found in cc
read_back m b (Err Memory) is found read = refl
read_back m b (Err (Malformed offset)) is found read = let e : Err offset ≡ Ok m = sym read ∙ ap read_manifest is ∙ found in absurd cc

chunks-first : (version table : ℕ) (kinds : List Kind) (cs : List ChunkInfo) → AllByRecursion (IsProperChunk version table kinds) cs → AllByRecursion (IsProperChunk 1 table kinds) (map first_chunk cs)
chunks-first version table kinds [] all = tt
chunks-first version table kinds (c ∷ cs) all = (record { some = all.0.some; few = all.0.few; long = all.0.long; digest = all.0.digest; bounded = refl }, chunks-first version table kinds cs all.1)

id-first : (ts : List TablePart) (i : ℕ) → option_map part_id (slice_get (map first_table ts) i) ≡ option_map part_id (slice_get ts i)
id-first [] i = refl
id-first (t ∷ ts) zero = refl
id-first (t ∷ ts) (suc i) = id-first ts i

last-first : (ts : List TablePart) → last_key part_id (map first_table ts) ≡ last_key part_id ts
last-first ts = rw (length-map ts first_table, id-first ts (length ts - 1)) refl

after-first : (before : List TablePart) (n : ℕ) → comes_after part_id (map first_table before) n ≡ comes_after part_id before n
after-first [] n = refl
after-first (t ∷ ts) n = ap (λ (k : ℕ). nat_lt k n) (last-first (t ∷ ts))

count_from : (ts : List TablePart) (n : ℕ) → (let add : ℕ → TablePart → ℕ = λ a t. a + length t.chunks in fold add n (map first_table ts) ≡ fold add n ts)
count_from [] n = refl
count_from (t ∷ ts) n = ap (λ (k : ℕ). fold (λ (a : ℕ) (u : TablePart). a + length u.chunks) (n + k) (map first_table ts)) (length-map t.chunks first_chunk) ∙ count_from ts (n + length t.chunks)

pub count-first : (ts : List TablePart) → chunk_count (map first_table ts) ≡ chunk_count ts
count-first ts = count_from ts 0

next-first : (version : ℕ) (before : List TablePart) (t : TablePart) → IsNextTable version before t → IsNextTable 1 (map first_table before) (first_table t)
next-first version before t next = record {
  id = next.id;
  after = after-first before t.id ∙ next.after;
  some = next.some;
  counted = next.counted;
  descriptors = next.descriptors;
  few = rw (count-first before, length-map t.chunks first_chunk) next.few;
  chunks = chunks-first version t.id _ t.chunks next.chunks;
}

tables-first : (version : ℕ) (before ts : List TablePart) → EachAfter (IsNextTable version) before ts → EachAfter (IsNextTable 1) (map first_table before) (map first_table ts)
tables-first version before [] each = tt
tables-first version before (t ∷ ts) each = (next-first version before t each.0, subst (λ (b : List TablePart). EachAfter (IsNextTable 1) b (map first_table ts)) (map-append first_table before (t ∷ [])) (tables-first version (before ++ t ∷ []) ts each.1))

pub proper-first : (m : Manifest) → IsProperManifest m → IsProperManifest (first_version m)
unfolding first_version
proper-first m is = record {
  version = refl;
  cluster = is.cluster;
  from_one = is.from_one;
  job = is.job;
  full = is.full;
  start = is.start;
  end = is.end;
  floor = is.floor;
  ends = is.ends;
  floors = is.floors;
  history = is.history;
  scope = is.scope;
  counted = rw (length-map m.tables first_table) is.counted;
  tables = tables-first m.version [] m.tables is.tables;
}
