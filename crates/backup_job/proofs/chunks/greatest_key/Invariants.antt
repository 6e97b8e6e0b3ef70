use Rattle.std.proofs.Common.{◌≡◌, drop}
use Rattle.layer_objects.specs.Contents.{greatest_key}
use Rattle.backup_job.proofs.chunks.greatest_key.Given as goal

abbrev pub invariant-loop-entry : goal.invariant-loop-entry
invariant-loop-entry l = greatest_key l.greatest (drop l.entry-index l.entries) ≡ greatest_key l.key l.entries
