use Rattle.std.proofs.Common.{◌+◌, take, sym, subst, arith}
use Rattle.version_store.specs.Tables.{Tables}
use Rattle.version_store.specs.Calls.{after_calls, answers_of}
use Rattle.version_store.proofs.Replays.{after-more, answers-more, allowed}
use Rattle.list_laws.proofs.Results.{on-any}
use Rattle.version_store.proofs.replaying.replay.Goals as goal

pub loop-call-init : goal.loop-call-init
unfolding after_calls answers_of
loop-call-init g c = λ h stood all. (stood, c.new-answers.ensures.items)

pub returns-in_err-answer-clause-stopped : goal.returns-in_err-answer-clause-stopped
returns-in_err-answer-clause-stopped g c = on-any c.from_residual.result _ (λ h stood all. (c.loop-call.call-index, omega arith, c.in_err-answer.ensures.kept (after_calls (take c.loop-call.call-index c.args.calls.now) h) (c.loop-call.invariant h stood all).0))

pub returns-in_err-push-clause-stopped : goal.returns-in_err-push-clause-stopped
returns-in_err-push-clause-stopped g c = on-any c.from_residual-in_err-push.result _ (λ h stood all. (
  c.loop-call.call-index + 1,
  omega arith,
  subst (g.V.Versions.stands c.play.new.store) (sym (after-more c.args.calls.now c.loop-call.call-index c.call-item.result h c.loop-call-test.true c.call-item.is)) (c.in_ok-answer.ensures.after (after_calls (take c.loop-call.call-index c.args.calls.now) h) (c.loop-call.invariant h stood all).0 (allowed c.args.calls.now c.loop-call.call-index c.call-item.result h c.loop-call-test.true c.call-item.is all)),
))

pub loop-call-preserved : goal.loop-call-preserved
loop-call-preserved g c = λ h stood all.
    let before : Tables = after_calls (take c.loop-call.call-index c.args.calls.now) h in
    let may = allowed c.args.calls.now c.loop-call.call-index c.call-item.result h c.loop-call-test.true c.call-item.is all in (
      subst (g.V.Versions.stands c.play.new.store) (sym (after-more c.args.calls.now c.loop-call.call-index c.call-item.result h c.loop-call-test.true c.call-item.is)) (c.in_ok-answer.ensures.after before (c.loop-call.invariant h stood all).0 may),
      answers-more c.args.calls.now c.loop-call.call-index c.call-item.result h c.loop-call.answers.items c.push.new.self.items c.in_ok-answer.answer c.loop-call-test.true c.call-item.is c.in_ok-push.ensures.items (c.loop-call.invariant h stood all).1 (c.in_ok-answer.ensures.answer before (c.loop-call.invariant h stood all).0 may),
    )
