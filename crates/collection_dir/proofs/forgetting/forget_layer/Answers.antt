use Rattle.std.proofs.Common.{inl, inr, ◌∙◌}
use Rattle.outside_world.proofs.Runs.{only_less, only_then}
use Rattle.collection_dir.specs.Footprints.{gate_calls, mark_calls, rest_calls}
use Rattle.collection_dir.proofs.Removal.{all_gone, gate_gone, gate_gone_on, gone_from_images, in_turn, stays_at_gate, stays_gone, then_unchunked, then_unmarked}
use Rattle.collection_dir.proofs.Steps.{kept_less}
use Rattle.collection_dir.proofs.forgetting.forget_layer.Goals as goal

pub returns-in_err-shut_gate-clause-layer : goal.returns-in_err-shut_gate-clause-layer
returns-in_err-shut_gate-clause-layer g c w older may = kept_less (λ n e. inl e) (c.shut_gate.ensures.layer w older _ may)

pub returns-in_err-remove_marks-clause-layer : goal.returns-in_err-remove_marks-clause-layer
returns-in_err-remove_marks-clause-layer g c w older may =
    let next = c.in_ok-shut_gate.ensures.next w older _ may in
    then_unmarked c.args.layer.now c.args.chunks (c.shut_gate.ensures.layer w older _ may) next.may.known (g.met.D.Disk.counts_now c.shut_gate.new.disk) (c.remove_marks.ensures.layer w older next)

pub returns-in_err-remove_chunks-clause-layer : goal.returns-in_err-remove_chunks-clause-layer
returns-in_err-remove_chunks-clause-layer g c w older may =
    let next = c.in_ok-shut_gate.ensures.next w older _ may in
    let last = c.in_ok-remove_marks.ensures.next w older next in
    let unmarked = then_unmarked c.args.layer.now c.args.chunks (c.shut_gate.ensures.layer w older _ may) next.may.known (g.met.D.Disk.counts_now c.shut_gate.new.disk) (c.remove_marks.ensures.layer w older next) in
    then_unchunked c.args.layer.now c.args.chunks unmarked last.may.known (g.met.D.Disk.counts_now c.remove_marks.new.disk) (c.remove_chunks.ensures.layer w older last)

pub returns-clause-layer : goal.returns-clause-layer
returns-clause-layer g c w older may =
    let next = c.in_ok-shut_gate.ensures.next w older _ may in
    let last = c.in_ok-remove_marks.ensures.next w older next in
    let unmarked = then_unmarked c.args.layer.now c.args.chunks (c.shut_gate.ensures.layer w older _ may) next.may.known (g.met.D.Disk.counts_now c.shut_gate.new.disk) (c.remove_marks.ensures.layer w older next) in
    then_unchunked c.args.layer.now c.args.chunks unmarked last.may.known (g.met.D.Disk.counts_now c.remove_marks.new.disk) (c.remove_chunks.ensures.layer w older last)

pub returns-in_err-shut_gate-clause-changes : goal.returns-in_err-shut_gate-clause-changes
returns-in_err-shut_gate-clause-changes g c = only_less (λ n e. e) (λ n e. inl e) c.shut_gate.ensures.changes

pub returns-in_err-remove_marks-clause-changes : goal.returns-in_err-remove_marks-clause-changes
returns-in_err-remove_marks-clause-changes g c =
    only_then (only_less (λ n e. e) (λ n e. inl e) c.shut_gate.ensures.changes) (only_less (λ n e. e) (λ n e. inr (inl e)) c.remove_marks.ensures.changes)

pub returns-in_err-remove_chunks-clause-changes : goal.returns-in_err-remove_chunks-clause-changes
returns-in_err-remove_chunks-clause-changes g c =
    only_then (only_less (λ n e. e) (λ n e. inl e) c.shut_gate.ensures.changes)
    (only_then (only_less (λ n e. e) (λ n e. inr (inl e)) c.remove_marks.ensures.changes) (only_less (λ n e. e) (λ n e. inr (inr e)) c.remove_chunks.ensures.changes))

pub returns-clause-changes : goal.returns-clause-changes
returns-clause-changes g c =
    only_then (only_less (λ n e. e) (λ n e. inl e) c.shut_gate.ensures.changes)
    (only_then (only_less (λ n e. e) (λ n e. inr (inl e)) c.remove_marks.ensures.changes) (only_less (λ n e. e) (λ n e. inr (inr e)) c.remove_chunks.ensures.changes))

pub returns-clause-calls : goal.returns-clause-calls
returns-clause-calls g c tells =
    let shut = c.shut_gate.ensures.changes.kind.tells ∙ tells in
    let unmarked = c.remove_marks.ensures.changes.kind.tells ∙ shut in
    let layer = c.args.layer.now in
    in_turn _ (gate_calls layer) (mark_calls layer c.args.chunks) (rest_calls layer c.args.chunks) _ _ _ (c.in_ok-shut_gate.ensures.calls tells) (c.in_ok-remove_marks.ensures.calls shut) (c.in_ok-remove_chunks.ensures.calls unmarked)

pub returns-clause-absent : goal.returns-clause-absent
returns-clause-absent g c tells =
    let shut = c.shut_gate.ensures.changes.kind.tells ∙ tells in
    let unmarked = c.remove_marks.ensures.changes.kind.tells ∙ shut in
    all_gone c.args.layer.now c.args.chunks c.requires shut unmarked (c.in_ok-shut_gate.ensures.absent tells) c.remove_marks.ensures.changes (c.in_ok-remove_marks.ensures.absent shut) c.remove_chunks.ensures.changes (c.in_ok-remove_chunks.ensures.absent unmarked) (c.in_ok-remove_chunks.ensures.manifest unmarked)

pub returns-clause-absent_in_images : goal.returns-clause-absent_in_images
returns-clause-absent_in_images g c tells =
    let shut = c.shut_gate.ensures.changes.kind.tells ∙ tells in
    let unmarked = c.remove_marks.ensures.changes.kind.tells ∙ shut in
    gone_from_images c.args.layer.now c.args.chunks (g.D.Disk.view c.remove_chunks.new.disk) (c.in_ok-remove_chunks.ensures.settled unmarked)
    (all_gone c.args.layer.now c.args.chunks c.requires shut unmarked (c.in_ok-shut_gate.ensures.absent tells) c.remove_marks.ensures.changes (c.in_ok-remove_marks.ensures.absent shut) c.remove_chunks.ensures.changes (c.in_ok-remove_chunks.ensures.absent unmarked) (c.in_ok-remove_chunks.ensures.manifest unmarked))

pub returns-in_err-shut_gate-clause-stays : goal.returns-in_err-shut_gate-clause-stays
returns-in_err-shut_gate-clause-stays g c tells = stays_at_gate c.args.layer.now tells c.shut_gate.ensures.changes

pub returns-in_err-remove_marks-clause-stays : goal.returns-in_err-remove_marks-clause-stays
returns-in_err-remove_marks-clause-stays g c tells =
    let shut = c.shut_gate.ensures.changes.kind.tells ∙ tells in
    stays_gone c.args.layer.now _ _ (gate_gone c.args.layer.now c.args.chunks c.requires shut (c.in_ok-shut_gate.ensures.absent tells) c.remove_marks.ensures.changes)

pub returns-in_err-remove_chunks-clause-stays : goal.returns-in_err-remove_chunks-clause-stays
returns-in_err-remove_chunks-clause-stays g c tells =
    let shut = c.shut_gate.ensures.changes.kind.tells ∙ tells in
    let unmarked = c.remove_marks.ensures.changes.kind.tells ∙ shut in
    stays_gone c.args.layer.now _ _ (gate_gone_on c.args.layer.now c.args.chunks c.requires unmarked (gate_gone c.args.layer.now c.args.chunks c.requires shut (c.in_ok-shut_gate.ensures.absent tells) c.remove_marks.ensures.changes) c.remove_chunks.ensures.changes)

pub returns-clause-stays : goal.returns-clause-stays
returns-clause-stays g c tells =
    let shut = c.shut_gate.ensures.changes.kind.tells ∙ tells in
    let unmarked = c.remove_marks.ensures.changes.kind.tells ∙ shut in
    stays_gone c.args.layer.now _ _ (gate_gone_on c.args.layer.now c.args.chunks c.requires unmarked (gate_gone c.args.layer.now c.args.chunks c.requires shut (c.in_ok-shut_gate.ensures.absent tells) c.remove_marks.ensures.changes) c.remove_chunks.ensures.changes)
