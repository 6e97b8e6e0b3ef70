use Rattle.std.proofs.Common.{ℕ, List, subst, ap, ◌∙◌}
use Rattle.std.proofs.lemmas.Result.{err_from_is_err_and}
use Rattle.outside_world.specs.Told.{told_before}
use Rattle.backup_run.specs.Endings.{WritesPart}
use Rattle.backup_run.proofs.Steps.{fed_byte, ended_by_fault, ended_malformed, ended_outage}
use Rattle.backup_run.proofs.feeding.feed_byte.Goals as goal

pub returns-in_err-said-clause-ended : goal.returns-in_err-said-clause-ended
returns-in_err-said-clause-ended g c =
    let p = err_from_is_err_and c.from_residual.result c.from_residual.ensures.1 in
    rw (p.1, p.2) (ended_outage _ _ _ _ c.args.session.now c.args.byte c.in_err-said.ensures.disk c.in_err-said.ensures.leads c.in_err-said.ensures.changes)

pub returns-in_err-write_all-clause-ended : goal.returns-in_err-write_all-clause-ended
returns-in_err-write_all-clause-ended g c =
    let p = err_from_is_err_and c.from_residual-in_err-write_all.result c.from_residual-in_err-write_all.ensures.1 in
    let said = c.in_ok-said.said in
    let part = subst (λ (t : List ℕ). WritesPart (g.K.Sink.held c.args.sink.now) (g.K.Sink.held c.write_all.new.sink) t) c.deref.ensures.value c.in_err-write_all.ensures.part in
    rw (p.1, p.2) (ended_by_fault _ _ _ _ c.args.session.now c.take_byte.new.self c.args.byte said.malformed said.text.items part c.in_ok-said.ensures.malformed c.in_ok-said.ensures.goes_on
    c.in_ok-said.ensures.leads c.in_ok-said.ensures.changes)

pub returns-then-said-clause-ended : goal.returns-then-said-clause-ended
returns-then-said-clause-ended g c =
    let said = c.in_ok-said.said in
    let wrote = c.in_ok-write_all.ensures.all ∙ ap (λ (t : List ℕ). told_before (g.K.Sink.held c.args.sink.now) t) c.deref.ensures.value in
    ended_malformed _ _ _ _ c.args.session.now c.args.byte said.text.items wrote (λ worlds began m more here. c.in_ok-said.ensures.malformed worlds began m more here c.if-said.true)
    c.in_ok-said.ensures.leads c.in_ok-said.ensures.changes

pub returns-clause-fed : goal.returns-clause-fed
returns-clause-fed g c =
    let said = c.in_ok-said.said in
    let wrote = c.in_ok-write_all.ensures.all ∙ ap (λ (t : List ℕ). told_before (g.K.Sink.held c.args.sink.now) t) c.deref.ensures.value in
    fed_byte _ _ _ _ c.args.session.now c.take_byte.new.self c.args.byte said.text.items wrote (λ worlds began m more here. c.in_ok-said.ensures.goes_on worlds began m more here c.if-said.false)
    (c.in_ok-said.ensures.cleared c.if-said.false) (c.in_ok-said.ensures.longer c.if-said.false) (c.in_ok-said.ensures.quiet c.if-said.false) c.in_ok-said.ensures.leads c.in_ok-said.ensures.changes
