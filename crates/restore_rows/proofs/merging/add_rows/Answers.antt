use Rattle.std.proofs.Common.{◌≡◌, ◌+◌, false, List, is_err, subst, sym}
use Rattle.mvcc_keys.specs.declared.entries.Entry.{Entry}
use Rattle.layer_merge.proofs.CallLaws.{call-asked}
use Rattle.layer_merge.proofs.StepLaws.{step-held}
use Rattle.restore_rows.proofs.MergeRuns.{IsRunning, given-later, gives-mid, next-fault, pushed, run-ended, running-next}
use Rattle.restore_rows.proofs.merging.add_rows.Goals as goal

pub returns-in-Ok-None-clause-given : goal.returns-in-Ok-None-clause-given
returns-in-Ok-None-clause-given g c = given-later g.C.Chunks.kept g.C.Chunks.came (record { same = g.met.C.Chunks.kept_same; chain = g.met.C.Chunks.kept_chain; later = g.met.C.Chunks.came_later; earlier = g.met.C.Chunks.came_earlier }) c.args.chunks.now c.loop-turn.chunks c.next.new.chunks c.args.merge.now c.loop-turn.merge c.loop-turn.rows.items c.loop-turn.turn c.loop-turn.invariant c.next.ensures.step.kept

pub returns-in-Ok-None-clause-rows : goal.returns-in-Ok-None-clause-rows
returns-in-Ok-None-clause-rows g c w all gives over = run-ended g.C.Chunks.kept g.C.Chunks.came (record { same = g.met.C.Chunks.kept_same; chain = g.met.C.Chunks.kept_chain; later = g.met.C.Chunks.came_later; earlier = g.met.C.Chunks.came_earlier }) c.args.chunks.now c.loop-turn.chunks c.next.new.chunks c.args.merge.now c.loop-turn.merge c.loop-turn.rows.items c.loop-turn.turn c.loop-turn.invariant c.next.new.self w all gives over (rw c.in-Ok-None.field-0-is at c.in-Ok-None.ensures.rows)

pub returns-in-Err-clause-fault : goal.returns-in-Err-clause-fault
returns-in-Err-clause-fault g c = next-fault g.C.Chunks.kept g.C.Chunks.came (record { same = g.met.C.Chunks.kept_same; chain = g.met.C.Chunks.kept_chain; later = g.met.C.Chunks.came_later; earlier = g.met.C.Chunks.came_earlier }) c.args.chunks.now c.loop-turn.chunks c.next.new.chunks c.args.merge.now c.loop-turn.merge c.loop-turn.rows.items c.loop-turn.turn c.loop-turn.invariant c.in-Err.fault c.next.ensures.step.kept c.in-Err.ensures.fault

pub returns-in-Err-clause-sound : goal.returns-in-Err-clause-sound
returns-in-Err-clause-sound g c w all gives over = c.in-Err.ensures.sound w all (gives-mid g.C.Chunks.kept g.C.Chunks.came (record { same = g.met.C.Chunks.kept_same; chain = g.met.C.Chunks.kept_chain; later = g.met.C.Chunks.came_later; earlier = g.met.C.Chunks.came_earlier }) c.args.chunks.now c.loop-turn.chunks c.next.new.chunks c.args.merge.now c.loop-turn.merge c.loop-turn.rows.items c.loop-turn.turn c.loop-turn.invariant w gives) (c.loop-turn.invariant.world w all gives over).0

pub loop-turn-preserved : goal.loop-turn-preserved
loop-turn-preserved g c =
    let e : is_err c.push.result ≡ false = cc in
    let one = c.next.ensures.step in
    let put = rw c.in-Ok-Some.field-0-is at c.in-Ok-Some.ensures.put in
    let gave = rw c.in-Ok-Some.field-0-is at c.in-Ok-Some.ensures.rows in
    subst (λ (es : List Entry). IsRunning g.C.Chunks.kept g.C.Chunks.came c.args.chunks.now c.next.new.chunks c.args.merge.now c.next.new.self es (c.loop-turn.turn + 1)) (sym (pushed c.push.result _ _ _ e c.push.ensures.items))
    (running-next g.C.Chunks.kept g.C.Chunks.came (record { same = g.met.C.Chunks.kept_same; chain = g.met.C.Chunks.kept_chain; later = g.met.C.Chunks.came_later; earlier = g.met.C.Chunks.came_earlier }) c.args.chunks.now c.loop-turn.chunks c.next.new.chunks c.args.merge.now c.loop-turn.merge c.loop-turn.rows.items c.loop-turn.turn c.loop-turn.invariant c.next.new.self c.in-Ok-Some.row one.kept (step-held _ _ (record { same = g.met.C.Chunks.kept_same; chain = g.met.C.Chunks.kept_chain; later = g.met.C.Chunks.came_later; earlier = g.met.C.Chunks.came_earlier }) _ _ _ _ _ _ _ _ _ one) (λ layer number h. call-asked _ _ (record { same = g.met.C.Chunks.kept_same; chain = g.met.C.Chunks.kept_chain; later = g.met.C.Chunks.came_later; earlier = g.met.C.Chunks.came_earlier }) _ _ _ _ _ c.loop-turn.merge.walk c.next.new.self.walk c.in-Ok-Some.ensures.begun c.next.ensures.table one layer number h) put c.in-Ok-Some.ensures.failed c.next.ensures.table c.next.ensures.kinds gave)
