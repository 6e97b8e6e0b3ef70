use Rattle.std.proofs.Common.{◌∙◌, inr}
use Rattle.outside_world.proofs.Runs.{reads_then}
use Rattle.table_rows.proofs.Lists.{has-at}
use Rattle.restore_rows.proofs.NextChunks.{part-next}
use Rattle.restore_rows.proofs.checking.check_chunks_of.Goals as goal

pub loop-part-preserved : goal.loop-part-preserved
loop-part-preserved g c = (
  reads_then c.loop-part.invariant.0 c.in-Ok.ensures.reads,
  c.in-Ok.ensures.cause.counts ∙ c.loop-part.invariant.1,
  λ tells. part-next c.args.table c.args.kinds.now (g.D.Disk.view c.args.disk.now).objects c.args.parts.now (g.D.Disk.view c.loop-part.disk).objects c.loop-part.part-index c.part-item.result c.in-Ok.field-0 _
      (c.loop-part.invariant.0.content tells).objects c.loop-part-test.true c.part-item.is (c.in-Ok.ensures.found (c.loop-part.invariant.0.kind.tells ∙ tells)) (c.loop-part.invariant.2 tells),
)

pub returns-in-Err-clause-told : goal.returns-in-Err-clause-told
returns-in-Err-clause-told g c = inr (c.part-item.result, (has-at c.args.parts.now c.loop-part.part-index c.part-item.result c.loop-part-test.true c.part-item.is, c.in-Err.ensures.told))
