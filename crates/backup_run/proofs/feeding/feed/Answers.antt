use Rattle.std.proofs.Common.{◌∙◌, refl, arith}
use Rattle.std.proofs.lemmas.Result.{err_from_is_err_and}
use Rattle.backup_run.proofs.Steps.{fed_nothing, fed_next, ended_next}
use Rattle.backup_run.proofs.feeding.feed.Goals as goal

pub loop-byte-init : goal.loop-byte-init
loop-byte-init g c = (fed_nothing _ _ c.args.session.now (g.met.D.Disk.only_now c.args.disk.now), omega arith, refl, refl)

pub returns-in_err-feed_byte-clause-ended : goal.returns-in_err-feed_byte-clause-ended
returns-in_err-feed_byte-clause-ended g c =
    let p = err_from_is_err_and c.from_residual.result c.from_residual.ensures.1 in
    rw (p.1, p.2) (ended_next _ _ _ _ _ _ c.args.session.now c.loop-byte.session c.args.piece.now c.loop-byte.byte-index _ _ c.loop-byte-test.true refl c.loop-byte.invariant.0 c.in_err-feed_byte.ensures.ended)

pub loop-byte-preserved : goal.loop-byte-preserved
loop-byte-preserved g c = (
  fed_next _ _ _ _ _ _ c.args.session.now c.loop-byte.session c.feed_byte.new.session c.args.piece.now c.loop-byte.byte-index _ c.loop-byte-test.true refl c.loop-byte.invariant.0 c.in_ok-feed_byte.ensures.fed,
  omega (arith, c.in_ok-feed_byte.ensures.room, c.loop-byte.invariant.1),
  c.in_ok-feed_byte.ensures.cause ∙ c.loop-byte.invariant.2,
  c.in_ok-feed_byte.ensures.disk_cause ∙ c.loop-byte.invariant.3,
)
