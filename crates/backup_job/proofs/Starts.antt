-- A job that wrote nothing yet.
use Rattle.std.proofs.Common.{◌≡◌, ℕ, refl, ap, map, drop, arith}
use Rattle.chunk_file.specs.Chunks.{chunk_bytes}
use Rattle.layer_manifest.specs.Manifests.{chunk_count}
use Rattle.layer_objects.specs.Contents.{part_of}
use Rattle.layer_objects.proofs.Counts.{bare_count}
use Rattle.backup_job.specs.Jobs.{StartedJobsRun, left, started}
use Rattle.backup_job.proofs.Remaining.{reached_none}

pub started_run : StartedJobsRun
started_run h name history scope plan catalog kept proper = (
  record { kept = kept; reached = reached_none h 0 plan.tables; proper = proper; version = refl },
  record {
    name = refl;
    manifest = refl;
    within = omega (arith, none);
    chunks = ap (λ (n : ℕ). drop n (map chunk_bytes (left h (started name history scope plan catalog)))) none;
  },
)
  where
    none : chunk_count (map (part_of catalog history plan.floor name.end) plan.tables) ≡ 0
    none = bare_count catalog history plan.floor name.end plan.tables
