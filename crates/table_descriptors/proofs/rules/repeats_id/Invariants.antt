use Rattle.std.proofs.Common.{◌≡◌, length}
use Rattle.table_descriptors.specs.Descriptors.{repeats_id}
use Rattle.table_descriptors.proofs.rules.repeats_id.Given as goal

abbrev pub invariant-all : goal.invariant-all
invariant-all l = repeats_id l.rest ≡ repeats_id l.ids

abbrev pub decreases-all : goal.decreases-all
decreases-all l = length l.rest
