use Rattle.std.proofs.Common.{sym, arith}
use Rattle.job_cases.proofs.changes.change_at.Goals as goal

pub change-requires : goal.change-requires
change-requires c = record { schema = c.in-Some.d.now; found = sym c.in-Some.ensures; version = omega (arith, c.version.ensures, c.if-version-lt1000.true) }
