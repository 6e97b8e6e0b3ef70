-- What a search for the next chunk of a job finds.
use Rattle.std.specs.Prelude.{◌≡◌, ◌<◌, ◌≤◌, ℕ, suc, List, [], length, Option, Some, None}
use Rattle.mvcc_keys.specs.declared.entries.Entry.{Entry}
use Rattle.version_store.specs.Tables.{Tables}
use Rattle.span_export.specs.declared.cursor.Place.{Place}
use Rattle.introduced_spans.specs.declared.plans.TablePlan.{TablePlan}
use Rattle.backup_job.specs.declared.pieces.Piece.{Piece}
use Rattle.layer_objects.specs.Contents.{in_a_row}
use Rattle.backup_job.specs.Jobs.{remaining_from}
use Rattle.backup_job.specs.Units.{IsFirst}

-- nothing is left, or the first piece that is
abbrev pub IsNext : Tables → List TablePlan → List (List (List Entry)) → Option Piece → Type 0
IsNext h plans tables None = in_a_row tables ≡ []
IsNext h plans tables (Some p) = IsFirst h plans tables p.place p.cursor p.entries.items

-- nothing is left of the table at a place, so that what is left begins at the next table; or the first piece that is left
abbrev pub IsNextAt : Tables → List TablePlan → ℕ → Option Place → Option Piece → Type 0
IsNextAt h plans place cursor None = remaining_from h place cursor plans ≡ remaining_from h (suc place) None plans
IsNextAt h plans place cursor (Some p) = IsFirst h plans (remaining_from h place cursor plans) p.place p.cursor p.entries.items

-- a piece is of one of the tables, and no more than a chunk
abbrev pub IsWithin : List TablePlan → Option Piece → Type 0
IsWithin plans None = Unit {0}
IsWithin plans (Some p) = (p.place < length plans) × (length p.entries.items ≤ 256)
