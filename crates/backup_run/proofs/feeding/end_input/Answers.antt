use Rattle.std.proofs.Common.{ℕ, List, subst, ap, ◌∙◌}
use Rattle.std.proofs.lemmas.Result.{err_from_is_err_and}
use Rattle.outside_world.specs.Told.{told_before}
use Rattle.backup_run.specs.Endings.{WritesPart}
use Rattle.backup_run.proofs.Steps.{end_by_fault, end_malformed, end_outage, end_done}
use Rattle.backup_run.proofs.feeding.end_input.Goals as goal

pub returns-in_err-said-clause-stopped : goal.returns-in_err-said-clause-stopped
returns-in_err-said-clause-stopped g c =
    let p = err_from_is_err_and c.from_residual.result c.from_residual.ensures.1 in
    rw (p.1, p.2) (end_outage _ _ _ _ c.args.session.now c.in_err-said.ensures.disk c.in_err-said.ensures.leads c.in_err-said.ensures.changes)

pub returns-in_err-write_all-clause-stopped : goal.returns-in_err-write_all-clause-stopped
returns-in_err-write_all-clause-stopped g c =
    let p = err_from_is_err_and c.from_residual-in_err-write_all.result c.from_residual-in_err-write_all.ensures.1 in
    let said = c.in_ok-said.said in
    let part = subst (λ (t : List ℕ). WritesPart (g.K.Sink.held c.args.sink.now) (g.K.Sink.held c.write_all.new.sink) t) c.deref.ensures.value c.in_err-write_all.ensures.part in
    rw (p.1, p.2) (end_by_fault _ _ _ _ c.args.session.now c.end_input.new.self.refused said.malformed said.text.items part c.in_ok-said.ensures.malformed c.in_ok-said.ensures.whole
    c.in_ok-said.ensures.leads c.in_ok-said.ensures.changes)

pub returns-then-said-clause-stopped : goal.returns-then-said-clause-stopped
returns-then-said-clause-stopped g c =
    let said = c.in_ok-said.said in
    let wrote = c.in_ok-write_all.ensures.all ∙ ap (λ (t : List ℕ). told_before (g.K.Sink.held c.args.sink.now) t) c.deref.ensures.value in
    end_malformed _ _ _ _ c.args.session.now said.text.items wrote (λ worlds began m here. c.in_ok-said.ensures.malformed worlds began m here c.if-said.true)
    c.in_ok-said.ensures.leads c.in_ok-said.ensures.changes

pub returns-clause-ended : goal.returns-clause-ended
returns-clause-ended g c =
    let said = c.in_ok-said.said in
    let wrote = c.in_ok-write_all.ensures.all ∙ ap (λ (t : List ℕ). told_before (g.K.Sink.held c.args.sink.now) t) c.deref.ensures.value in
    rw c.refused.ensures (end_done _ _ _ _ c.args.session.now c.end_input.new.self.refused said.text.items wrote (λ worlds began m here. c.in_ok-said.ensures.whole worlds began m here c.if-said.false)
    c.in_ok-said.ensures.leads c.in_ok-said.ensures.changes)
