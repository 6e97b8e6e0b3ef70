use Rattle.std.proofs.Common.{◌≡◌, drop}
use Rattle.version_store.specs.Rows.{first_between}
use Rattle.version_store.proofs.row.first_within.Given as goal

abbrev pub invariant-loop-version : goal.invariant-loop-version
invariant-loop-version l = first_between l.from l.upto (drop l.version-index l.versions) ≡ first_between l.from l.upto l.versions
