use Rattle.std.proofs.Common.{◌≡◌, length}
use Rattle.table_descriptors.specs.Descriptors.{repeats_column}
use Rattle.table_descriptors.proofs.rules.repeats_column.Given as goal

abbrev pub invariant-all : goal.invariant-all
invariant-all l = repeats_column l.rest ≡ repeats_column l.columns

abbrev pub decreases-all : goal.decreases-all
decreases-all l = length l.rest
