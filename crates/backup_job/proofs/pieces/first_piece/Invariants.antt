use Rattle.std.proofs.Common.{◌≡◌, ◌-◌, length, None}
use Rattle.std.specs.List.{AllByRecursion}
use Rattle.version_store.specs.Tables.{Tables}
use Rattle.backup_job.specs.Jobs.{IsStillKept, remaining_from}
use Rattle.backup_job.proofs.pieces.first_piece.Given as goal

abbrev pub invariant-tables : goal.invariant-tables
invariant-tables g l = (h : Tables) → g.V.Versions.stands l.store h → AllByRecursion (IsStillKept h) l.plans → remaining_from h l.from None l.plans ≡ remaining_from h l.at None l.plans

abbrev pub decreases-tables : goal.decreases-tables
decreases-tables g l = length l.plans - l.at
