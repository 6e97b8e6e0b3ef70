use Rattle.std.proofs.Common.{◌≡◌, drop}
use Rattle.layer_objects.specs.Contents.{least_key}
use Rattle.backup_job.proofs.chunks.least_key.Given as goal

abbrev pub invariant-loop-entry : goal.invariant-loop-entry
invariant-loop-entry l = least_key l.least (drop l.entry-index l.entries) ≡ least_key l.key l.entries
