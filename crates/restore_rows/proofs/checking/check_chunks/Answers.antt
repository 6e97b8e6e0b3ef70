use Rattle.std.proofs.Common.{◌∙◌, arith, refl}
use Rattle.outside_world.proofs.Runs.{reads_then}
use Rattle.restore_rows.specs.Checks.{last_in}
use Rattle.restore_rows.proofs.NextChunks.{chunk-fault, chunk-next}
use Rattle.restore_rows.proofs.ToldFaults.{fault-of}
use Rattle.restore_rows.proofs.checking.check_chunks.Goals as goal

pub returns-in-Err-clause-found : goal.returns-in-Err-clause-found
returns-in-Err-clause-found g c tells =
    let end = c.len-chunk-end.ensures in
    let lt = c.loop-chunk-test.true in
    chunk-fault c.args.part.now c.args.table c.args.kinds.now (g.D.Disk.view c.args.disk.now).objects (g.D.Disk.view c.loop-chunk.disk).objects c.loop-chunk.chunk (last_in c.loop-chunk.last) c.in-Err.fault _
    (c.loop-chunk.invariant.0.content tells).objects (omega (arith, end, lt)) (λ info got. c.in-Err.ensures.found info (c.loop-chunk.invariant.0.kind.tells ∙ tells) got) (c.loop-chunk.invariant.2 tells)

pub loop-chunk-preserved : goal.loop-chunk-preserved
loop-chunk-preserved g c = (
  reads_then c.loop-chunk.invariant.0 c.in-Ok.ensures.reads,
  c.in-Ok.ensures.cause.counts ∙ c.loop-chunk.invariant.1,
  λ tells.
      let end = c.len-chunk-end.ensures in
      let lt = c.loop-chunk-test.true in
      chunk-next c.args.part.now c.args.table c.args.kinds.now (g.D.Disk.view c.args.disk.now).objects (g.D.Disk.view c.loop-chunk.disk).objects c.loop-chunk.chunk (last_in c.loop-chunk.last) c.in-Ok.next _
      (c.loop-chunk.invariant.0.content tells).objects (omega (arith, end, lt)) (λ info got. c.in-Ok.ensures.found info (c.loop-chunk.invariant.0.kind.tells ∙ tells) got) (c.loop-chunk.invariant.2 tells),
  (c.loop-chunk.chunk, refl, c.in-Ok.ensures.held),
)

pub returns-in-Err-clause-told : goal.returns-in-Err-clause-told
returns-in-Err-clause-told g c = fault-of c.args.part.now c.args.table c.args.kinds.now c.loop-chunk.chunk c.loop-chunk.last c.in-Err.fault c.loop-chunk.invariant.3 c.in-Err.ensures.told
