use Rattle.std.proofs.Common.{rules}
use Rattle.backup_job.proofs.Remaining.{none_past}
use Rattle.backup_job.proofs.pieces.next_piece.Goals as goal

pub returns-then-plans-place-clause-next : goal.returns-then-plans-place-clause-next
returns-then-plans-place-clause-next g c h stood kept reached = none_past h c.args.plans.now c.args.place c.args.cursor.now (search rules)
