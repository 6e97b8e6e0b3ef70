use Rattle.std.proofs.Common.{rules, ◌∙◌, None, ap, arith}
use Rattle.layer_objects.specs.Contents.{in_a_row}
use Rattle.backup_job.proofs.Remaining.{found_first_at, found_none_at, none_past}
use Rattle.backup_job.proofs.pieces.first_piece.Goals as goal

pub returns-in-Some-clause-next : goal.returns-in-Some-clause-next
returns-in-Some-clause-next g c h stood kept =
    found_first_at h c.args.plans.now c.args.from c.tables.at _ c.in_ok-piece.field-0 c.in-Some.piece c.start-start.ensures c.in-Some.is (c.in_ok-piece.ensures.next h stood kept) (c.tables.invariant h stood kept)

pub tables-preserved : goal.tables-preserved
tables-preserved g c h stood kept =
    found_none_at h c.args.plans.now c.args.from c.tables.at _ c.in_ok-piece.field-0 _ (omega arith) c.start-start.ensures c.in-None.is (c.in_ok-piece.ensures.next h stood kept) (c.tables.invariant h stood kept)

pub returns-clause-next : goal.returns-clause-next
returns-clause-next g c h stood kept = ap in_a_row (c.tables.invariant h stood kept) ∙ none_past h c.args.plans.now c.tables.at None (search rules)
