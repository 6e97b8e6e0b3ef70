use Rattle.std.proofs.Common.{◌≡◌, ◌+◌, drop}
use Rattle.version_store.specs.Rows.{count_newer}
use Rattle.version_store.proofs.row.count_newer.Given as goal

abbrev pub invariant-loop-i : goal.invariant-loop-i
invariant-loop-i l = l.i + count_newer l.at (drop l.i l.versions) ≡ count_newer l.at l.versions
