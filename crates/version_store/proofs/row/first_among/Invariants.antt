use Rattle.std.proofs.Common.{◌≡◌, drop}
use Rattle.version_store.specs.Rows.{first_upto}
use Rattle.version_store.proofs.row.first_among.Given as goal

abbrev pub invariant-loop-version : goal.invariant-loop-version
invariant-loop-version l = first_upto l.t (drop l.version-index l.versions) ≡ first_upto l.t l.versions
