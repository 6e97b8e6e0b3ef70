use Rattle.std.proofs.Common.{◌≡◌, length}
use Rattle.table_descriptors.specs.Descriptors.{repeats_key_column}
use Rattle.table_descriptors.proofs.rules.repeats_key_column.Given as goal

abbrev pub invariant-all : goal.invariant-all
invariant-all l = repeats_key_column l.rest ≡ repeats_key_column l.key

abbrev pub decreases-all : goal.decreases-all
decreases-all l = length l.rest
