use Rattle.std.proofs.Common.{◌<◌, refl, List, ℕ, length, take, sym, ap, ◌∙◌, arith}
use Rattle.outside_world.specs.Told.{before_told}
use Rattle.backup_run.proofs.Runs.{running_first, running_next, ran_unread, ran_stopped, ran_ended}
use Rattle.backup_run.proofs.top.run_session.Goals as goal

pub pieces-init : goal.pieces-init
pieces-init g c = (running_first _ _ _ c.args.session.now (g.met.D.Disk.only_now c.args.disk.now), refl, refl, refl, c.requires)

pub returns-in_default-clause-ran : goal.returns-in_default-clause-ran
returns-in_default-clause-ran g c = ran_unread _ _ _ _ _ _ _ c.args.session.now c.pieces.session c.pieces.invariant.0 c.in_default.ensures.taken

pub returns-then-count-eq0-clause-ran : goal.returns-then-count-eq0-clause-ran
returns-then-count-eq0-clause-ran g c =
    let some : 0 < length c.read.new.room = omega (arith, c.read.auto.room, c.pieces.invariant.4) in
    ran_ended _ _ _ _ _ _ _ _ _ c.args.session.now c.pieces.session (take c.in-Ok.count c.read.new.room) c.end_of_run.result
    c.pieces.invariant.0 c.in-Ok.ensures.taken.0 (ap (λ (n : ℕ). take n c.read.new.room) c.if-count-eq0.true) (c.in-Ok.ensures.taken.1 c.if-count-eq0.true some) c.end_of_run.ensures.ran

pub pieces-preserved : goal.pieces-preserved
pieces-preserved g c =
    let is = c.in-Ok.ensures.taken.0 ∙ ap (λ (p : List ℕ). before_told p (g.S.Source.left c.read.new.self)) (sym c.split_at.ensures.front) in (
      running_next _ _ _ _ _ _ _ _ _ c.args.session.now c.pieces.session c.feed.new.session c.split_at.result.0.now c.pieces.invariant.0 is c.in-Ok-feed.ensures.fed,
      c.in-Ok.ensures.cause.counts ∙ c.pieces.invariant.1,
      c.in-Ok-feed.ensures.cause ∙ c.pieces.invariant.2,
      c.in-Ok-feed.ensures.disk_cause ∙ c.pieces.invariant.3,
      omega (arith, c.read.auto.room, c.pieces.invariant.4),
    )

pub returns-in-Err-clause-ran : goal.returns-in-Err-clause-ran
returns-in-Err-clause-ran g c =
    let is = c.in-Ok.ensures.taken.0 ∙ ap (λ (p : List ℕ). before_told p (g.S.Source.left c.read.new.self)) (sym c.split_at.ensures.front) in
    rw c.ending_of.ensures (ran_stopped _ _ _ _ _ _ _ _ _ c.args.session.now c.pieces.session c.split_at.result.0.now c.in-Err.stop c.pieces.invariant.0 is c.in-Err.ensures.ended)
