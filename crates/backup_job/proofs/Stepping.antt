-- A job before and after a unit.
use Rattle.std.proofs.Common.{◌≡◌, ◌∙◌, ℕ, zero, suc, ◌+◌, ◌<◌, ◌≤◌, refl, sym, ap, subst, List, [], ◌∷◌, length, map, drop, slice_get, Option, Some, None, Result, Ok, Err, OnOk, IfOk, arith}
use Rattle.std.specs.List.{AllByRecursion}
use Rattle.mvcc_keys.specs.declared.entries.Entry.{Entry}
use Rattle.version_store.specs.Tables.{Tables}
use Rattle.span_export.specs.declared.cursor.Place.{Place}
use Rattle.chunk_file.specs.Chunks.{chunk_bytes}
use Rattle.layer_manifest.specs.declared.manifest.Manifest.{Manifest}
use Rattle.layer_manifest.specs.Manifests.{IsProperManifest, chunk_count}
use Rattle.layer_manifest.specs.ManifestFiles.{manifest_code}
use Rattle.layer_model.specs.Layers.{LayerObjects}
use Rattle.layer_objects.specs.Contents.{in_a_row, info_of, with_each, with_tables}
use Rattle.backup_job.specs.Jobs.{Job, IsAbout, IsReached, IsStillKept, MayRun, completed, left, remaining, remaining_from, written}
use Rattle.introduced_spans.specs.declared.plans.TablePlan.{TablePlan}
use Rattle.outside_world.specs.Disk.{View, IsKnown, IsImage}
use Rattle.outside_world.specs.Objects.{Objects}
use Rattle.collection_dir.specs.declared.fault.DirFault.{DirFault}
use Rattle.collection_dir.specs.declared.fault.DirFault.TheVariants.{Memory}
use Rattle.backup_job.specs.declared.job.Progress.{Progress}
use Rattle.backup_job.specs.declared.job.Progress.TheVariants.{Done, Running}
use Rattle.backup_job.specs.declared.pieces.Piece.{Piece}
use Rattle.backup_job.specs.Searches.{IsNext}
use Rattle.backup_job.specs.Units.{Finishes, IsFirst, IsLast, Steps, TakesFirst, UnitWrites, WritesChunk, with_chunk, with_info}
use Rattle.backup_job.proofs.Disks.{nothing_finished, nothing_written}
use Rattle.layer_objects.proofs.Counts.{count_each}
use Rattle.backup_job.proofs.Parts.{count_more, with_each-first, with_each-none}
use Rattle.layer_manifest.proofs.FewChunks.{count_few}
use Rattle.backup_job.proofs.Remaining.{length-remaining, row_first}

-- ---- the number of the next chunk

module _ (h : Tables) (job : Job) (fits : length job.manifest.tables ≡ length job.plans) where
  counted : chunk_count (completed h job).tables ≡ written job + length (left h job)
  counted = count_each job.manifest.tables (remaining h job) (let l = length-remaining h job.plans job.place job.cursor in omega (arith, l, fits))

  -- where a chunk is left, its number has six digits
  pub number_fits : (piece : List Entry) (more : List (List Entry)) → MayRun h job → left h job ≡ piece ∷ more → written job < 1000000
  number_fits piece more may is =
      let few = count_few (completed h job).version [] (completed h job).tables may.proper.tables (let z : chunk_count [] ≡ 0 = refl in omega (arith, z)) in
      let l : length (left h job) ≡ suc (length more) = ap length is in
      let few' : chunk_count (completed h job).tables ≤ 1000000 = few in
      omega (arith, few', counted, l)

-- where nothing is left the manifest is complete
pub completed-none : (h : Tables) (job : Job) → left h job ≡ [] → completed h job ≡ job.manifest
completed-none h job none = ap (with_tables job.manifest) (with_each-none job.manifest.tables (remaining h job) none)

-- ---- a chunk of a layer

cons-drop : {X : Type 0} (xs ys : List X) (n : ℕ) (y : X) → drop n xs ≡ y ∷ ys → (slice_get xs n ≡ Some y) × (drop (suc n) xs ≡ ys) × (n < length xs)
cons-drop [] ys zero y e = absurd cc
cons-drop [] ys (suc n) y e = absurd cc
cons-drop (x ∷ xs) ys zero y e = (let s : x ≡ y = cc in ap Some s, cc, (let l : length (x ∷ xs) ≡ suc (length xs) = refl in omega (arith, l)))
cons-drop (x ∷ xs) ys (suc n) y e = let r = cons-drop xs ys n y e in (r.0, r.1, (let l : length (x ∷ xs) ≡ suc (length xs) = refl in let m = r.2 in omega (arith, l, m)))

module _ {h : Tables} {job : Job} {w : LayerObjects} (about : IsAbout h job w) where
  dropped : (piece : List Entry) (more : List (List Entry)) → left h job ≡ piece ∷ more → drop (written job) w.chunks ≡ chunk_bytes piece ∷ map chunk_bytes more
  dropped piece more is = about.chunks ∙ ap (map chunk_bytes) is

  -- the next chunk of the layer is the first that is left
  pub next_bytes : (piece : List Entry) (more : List (List Entry)) → left h job ≡ piece ∷ more → slice_get w.chunks (written job) ≡ Some (chunk_bytes piece)
  next_bytes piece more is = (cons-drop w.chunks (map chunk_bytes more) (written job) (chunk_bytes piece) (dropped piece more is)).0

  pub next_within : (piece : List Entry) (more : List (List Entry)) → left h job ≡ piece ∷ more → written job < length w.chunks
  next_within piece more is = (cons-drop w.chunks (map chunk_bytes more) (written job) (chunk_bytes piece) (dropped piece more is)).2

-- ---- the steps

-- the job after a piece
abbrev after_piece : Job → ℕ → Option Place → List Entry → Job
after_piece old place cursor piece = with_chunk old place cursor (info_of piece)

module _ (h : Tables) (old : Job) (place : ℕ) (cursor : Option Place) (piece : List Entry) (first : IsFirst h old.plans (remaining h old) place cursor piece) where
  left_first : left h old ≡ piece ∷ left h (after_piece old place cursor piece)
  left_first = ap in_a_row first.parts ∙ row_first h old.plans place cursor piece first.within

  same_tables : with_each (with_info place (info_of piece) old.manifest.tables) (remaining_from h place cursor old.plans) ≡ with_each old.manifest.tables (remaining h old)
  same_tables = sym (with_each-first old.manifest.tables (remaining_from h place cursor old.plans) place piece (let l = length-remaining h old.plans place cursor in let m = first.within in omega (arith, l, m))) ∙ ap (with_each old.manifest.tables) (sym first.parts)

  same_completed : completed h (after_piece old place cursor piece) ≡ completed h old
  same_completed = ap (with_tables old.manifest) same_tables

  counts_one : length old.manifest.tables ≡ length old.plans → written (after_piece old place cursor piece) ≡ suc (written old)
  counts_one fits = count_more old.manifest.tables place (info_of piece) (let m = first.within in omega (arith, fits, m))

  pub takes_first : (w : LayerObjects) → length old.manifest.tables ≡ length old.plans → MayRun h old → IsAbout h old w → TakesFirst h w old (with_chunk old place cursor (info_of piece))
  takes_first w fits may about = record {
    number = number_fits h old fits piece (left h (after_piece old place cursor piece)) may left_first;
    piece = piece;
    takes = left_first;
    counts = counts_one fits;
    same = same_completed;
    may = record { kept = may.kept; reached = first.reached; proper = subst IsProperManifest (sym same_completed) may.proper; version = may.version };
    about = record {
      name = about.name;
      manifest = about.manifest ∙ ap manifest_code (sym same_completed);
      within = let n = next_within about piece (left h (after_piece old place cursor piece)) left_first in let one = counts_one fits in omega (arith, one, n);
      chunks = ap (λ (n : ℕ). drop n w.chunks) (counts_one fits) ∙ (cons-drop w.chunks (map chunk_bytes (left h (after_piece old place cursor piece))) (written old) (chunk_bytes piece) (dropped about piece (left h (after_piece old place cursor piece)) left_first)).1;
    };
  }

  -- its number fits, and the layer has its bytes there
  pub first_number : length old.manifest.tables ≡ length old.plans → MayRun h old → written old < 1000000
  first_number fits may = number_fits h old fits piece (left h (after_piece old place cursor piece)) may left_first

  -- what is promised where chunks are left is promised
  pub first_writes : {T : Type 0} (w : LayerObjects) (result : Result T DirFault) (a b : View) → WritesChunk w (written old) result a b → UnitWrites h old (left h old) w result a b
  first_writes w result a b writes = subst (λ (l : List (List Entry)). UnitWrites h old l w result a b) (sym left_first) writes

  pub first_within : (w : LayerObjects) → IsAbout h old w → written old < length w.chunks
  first_within w about = next_within about piece (left h (after_piece old place cursor piece)) left_first

  pub first_bytes : (w : LayerObjects) → IsAbout h old w → slice_get w.chunks (written old) ≡ Some (chunk_bytes piece)
  first_bytes w about = next_bytes about piece (left h (after_piece old place cursor piece)) left_first

-- what is promised where none is left is promised
pub last_writes : {T : Type 0} (h : Tables) (old : Job) (w : LayerObjects) (result : Result T DirFault) (a b : View) → left h old ≡ [] → Finishes w (completed h old) result a b → UnitWrites h old (left h old) w result a b
last_writes h old w result a b none finishes = subst (λ (l : List (List Entry)). UnitWrites h old l w result a b) (sym none) finishes

pub is_last : (h : Tables) (old : Job) → left h old ≡ [] → IsLast h old old
is_last h old none = record { none = none; same = refl; whole = sym (completed-none h old none) }

-- ---- the answers of a unit

pub step_some : (h : Tables) (w : LayerObjects) (old mid new : Job) (r : Result Progress DirFault) → IfOk r (λ p. p ≡ Running) → OnOk r (new ≡ mid) → TakesFirst h w old mid → IfOk r (Steps h w old new)
step_some h w old mid new (Ok p) running is takes = subst (Steps h w old new) (sym running) (subst (TakesFirst h w old) (sym is) takes)
step_some h w old mid new (Err e) running is takes = tt

pub step_none : (h : Tables) (w : LayerObjects) (old new : Job) (r : Result Progress DirFault) → IfOk r (λ p. p ≡ Done) → new ≡ old → left h old ≡ [] → IfOk r (Steps h w old new)
step_none h w old new (Ok p) done is none = subst (Steps h w old new) (sym done) (subst (IsLast h old) (sym is) (is_last h old none))
step_none h w old new (Err e) done is none = tt

-- where nothing was touched nothing is broken
pub untouched_unit : (T : Type 0) (h : Tables) (job : Job) (w : LayerObjects) (v : View) → (IsKnown v → (image : Objects) → v.left_since v.moment image → IsImage v image) → UnitWrites {T = T} h job (left h job) w (Err Memory) v v
untouched_unit T h job w v only = by (left h job)
  where
    by : (pieces : List (List Entry)) → UnitWrites {T = T} h job pieces w (Err Memory) v v
    by [] = nothing_finished w (completed h job) v only
    by (piece ∷ more) = nothing_written w (written job) v only

-- ---- what the search found, in the words of the job

module _ (h : Tables) (inside job : Job) (plans : List TablePlan) (next : Option Piece) (same : inside ≡ job) (are : plans ≡ inside.plans) (found : AllByRecursion (IsStillKept h) plans → IsReached h inside.place inside.cursor plans → IsNext h plans (remaining_from h inside.place inside.cursor plans) next) (may : MayRun h job) where
  found_here : IsNext h job.plans (remaining h job) next
  found_here =
      let may_inside : MayRun h inside = subst (MayRun h) (sym same) may in
      let all : AllByRecursion (IsStillKept h) inside.plans → IsReached h inside.place inside.cursor inside.plans → IsNext h inside.plans (remaining h inside) next =
      subst (λ (ps : List TablePlan). AllByRecursion (IsStillKept h) ps → IsReached h inside.place inside.cursor ps → IsNext h ps (remaining_from h inside.place inside.cursor ps) next) are found in
      subst (λ (j : Job). IsNext h j.plans (remaining h j) next) same (all may_inside.kept may_inside.reached)

  pub found_first : (piece : Piece) → next ≡ Some piece → IsFirst h job.plans (remaining h job) piece.place piece.cursor piece.entries.items
  found_first piece is = subst (IsNext h job.plans (remaining h job)) is found_here

  pub found_none : next ≡ None → left h job ≡ []
  found_none is = subst (IsNext h job.plans (remaining h job)) is found_here

-- as many tables in the manifest as there are plans
pub fits_here : (inside job : Job) → inside ≡ job → length inside.manifest.tables ≡ length inside.plans → length job.manifest.tables ≡ length job.plans
fits_here inside job same fits = subst (λ (j : Job). length j.manifest.tables ≡ length j.plans) same fits

pub none_finishes : {T : Type 0} (h : Tables) (job : Job) (w : LayerObjects) (r : Result T DirFault) (a b : View) → left h job ≡ [] → IsAbout h job w → (w.name ≡ job.name → w.manifest ≡ manifest_code job.manifest → Finishes w job.manifest r a b) → UnitWrites h job (left h job) w r a b
none_finishes h job w r a b none about finishes =
    let same = completed-none h job none in
    last_writes h job w r a b none (subst (λ (m : Manifest). Finishes w m r a b) (sym same) (finishes about.name (about.manifest ∙ ap manifest_code same)))
