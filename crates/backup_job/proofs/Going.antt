-- Jobs write the layers of records, and go on over facts that give the same entries.
use Rattle.std.proofs.Common.{◌≡◌, ◌∙◌, ℕ, zero, suc, refl, sym, ap, ap₂, subst, List, [], ◌∷◌, ◌++◌, map, Option}
use Rattle.std.specs.List.{AllByRecursion}
use Rattle.mvcc_keys.specs.declared.entries.Entry.{Entry}
use Rattle.history_model.specs.Histories.{Table}
use Rattle.history_model.specs.Layers.{LayerRecord}
use Rattle.list_laws.proofs.Members.{all-weaker}
use Rattle.version_store.specs.Tables.{Tables}
use Rattle.span_export.specs.declared.cursor.Place.{Place}
use Rattle.span_export.specs.Pieces.{after_place}
use Rattle.introduced_spans.specs.declared.plans.TablePlan.{TablePlan}
use Rattle.table_rows.specs.RowTables.{bytes_of}
use Rattle.chunk_file.specs.Chunks.{chunk_bytes}
use Rattle.layer_manifest.specs.declared.manifest.Manifest.{Manifest}
use Rattle.layer_manifest.specs.Manifests.{IsProperManifest}
use Rattle.layer_manifest.specs.ManifestFiles.{manifest_code}
use Rattle.layer_objects.specs.Contents.{chunk_size, cut, in_a_row, in_version, layer_of, pieces_of, with_each, with_tables}
use Rattle.layer_objects.specs.Objects.{bare, bounded_manifest, described, manifest_of, name_of_record, objects_of, plan_of, rows_of}
use Rattle.backup_job.specs.Jobs.{IsAbout, IsStillKept, completed, layer_to_write, left, remaining, remaining_from}
use Rattle.backup_job.specs.Records.{JobsGoOn, JobsWriteLayers, StaysAlike, job_of}
use Rattle.backup_job.proofs.Remaining.{all_at, all_left}
use Rattle.backup_job.proofs.Starts.{started_run}

-- ---- layers of records

abbrev facts-of : List Table → Tables
facts-of tables = bytes_of (rows_of tables)

module _ (tables : List Table) (r : LayerRecord) (second : r.version ≡ 2) where
  makes : completed (facts-of tables) (job_of tables r) ≡ manifest_of tables r
  makes =
      ap (λ (ps : List (List (List Entry))). with_tables (bare tables r) (with_each (bare tables r).tables ps)) (sym (all_left (facts-of tables) (plan_of tables r).tables))
      ∙ ap (λ (version : ℕ). in_version version (bounded_manifest tables r)) (sym second)

  same-objects : layer_to_write (facts-of tables) (job_of tables r) ≡ objects_of tables r
  unfolding objects_of
  same-objects = ap₂ (λ (m : Manifest) (ps : List (List (List Entry))). layer_of (name_of_record r) m (in_a_row ps)) makes (sym (all_left (facts-of tables) (plan_of tables r).tables))

pub jobs-write : JobsWriteLayers
jobs-write tables r written second kept =
    let same = makes tables r second in
    let run = started_run (facts-of tables) (name_of_record r) r.history r.scope (plan_of tables r) (described tables) kept (subst IsProperManifest (sym same) written.proper) in
    record { may = run.0; about = subst (IsAbout (facts-of tables) (job_of tables r)) (same-objects tables r second) run.1; manifest = same }

-- ---- other facts

module _ (old new : Tables) where
  same-pieces : (plans : List TablePlan) → AllByRecursion (StaysAlike old new) plans → map (pieces_of new) plans ≡ map (pieces_of old) plans
  same-pieces [] all = refl
  same-pieces (p ∷ ps) all = ap₂ (λ (x : List (List Entry)) (xs : List (List (List Entry))). x ∷ xs) (ap (cut chunk_size) all.0.entries) (same-pieces ps all.1)

  same-remaining : (place : ℕ) (cursor : Option Place) (plans : List TablePlan) → AllByRecursion (StaysAlike old new) plans → remaining_from new place cursor plans ≡ remaining_from old place cursor plans
  same-remaining place cursor [] all = refl
  same-remaining zero cursor (p ∷ ps) all =
      ap₂ (λ (x : List (List Entry)) (xs : List (List (List Entry))). x ∷ xs) (ap (λ (es : List Entry). cut chunk_size (after_place cursor es)) all.0.entries) (same-pieces ps all.1)
  same-remaining (suc place) cursor (p ∷ ps) all = ap (λ (xs : List (List (List Entry))). [] ∷ xs) (same-remaining place cursor ps all.1)

pub jobs-go-on : JobsGoOn
jobs-go-on old new job may alike =
    let parts : remaining new job ≡ remaining old job = same-remaining old new job.place job.cursor job.plans alike in
    let rest : left new job ≡ left old job = ap in_a_row parts in
    let same : completed new job ≡ completed old job = ap (λ (ps : List (List (List Entry))). with_tables job.manifest (with_each job.manifest.tables ps)) parts in
    record {
      may = record {
        kept = all-weaker (StaysAlike old new) (IsStillKept new) (λ p a. a.kept) job.plans alike;
        reached = λ plan got.
            let a = all_at (StaysAlike old new) job.plans job.place plan alike got in
            let r = may.reached plan got in
            (r.0, subst (λ (es : List Entry). es ≡ r.0 ++ after_place job.cursor es) (sym a.entries) r.1);
        proper = subst IsProperManifest (sym same) may.proper;
        version = may.version;
      };
      about = λ w about. record {
        name = about.name;
        manifest = about.manifest ∙ ap manifest_code (sym same);
        within = about.within;
        chunks = about.chunks ∙ ap (map chunk_bytes) (sym rest);
      };
      rest = rest;
      manifest = same;
    }
