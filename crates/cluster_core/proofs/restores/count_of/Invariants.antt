use Rattle.std.proofs.Common.{◌≡◌, ◌+◌, drop}
use Rattle.cluster_core.specs.Restoring.{count_rows, entries_of}
use Rattle.cluster_core.proofs.restores.count_of.Given as goal

abbrev pub invariant-loop-entries : goal.invariant-loop-entries
invariant-loop-entries l = l.count + count_rows (entries_of (drop l.entries-index l.rows)) ≡ count_rows (entries_of l.rows)
