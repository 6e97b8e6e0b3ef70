use Rattle.std.proofs.Common.{refl}
use Rattle.backup_run.specs.SessionView.{view_of}
use Rattle.backup_run.proofs.Saying.{line_last, line_goes_on, may_go}
use Rattle.backup_run.proofs.session.Session.end_line.Goals as goal

pub returns-clause-malformed : goal.returns-clause-malformed
returns-clause-malformed g c = rw (← c.self.view_is) (λ worlds began m ls here t.
    line_last worlds began (view_of c.self.inside) _ _ m ls _ _ _ ((rw c.deref.ensures.value at c.in-Ok.ensures.said) worlds began m _ (may_go worlds began (view_of c.self.inside) _ m ls here))
    ((rw c.deref.ensures.value at c.in-Ok.ensures.at) worlds began m _ (may_go worlds began (view_of c.self.inside) _ m ls here)) t)

pub returns-clause-goes_on : goal.returns-clause-goes_on
returns-clause-goes_on g c = rw (← c.self.view_is) (λ worlds began m ls here t.
    line_goes_on worlds began (view_of c.self.inside) _ _ _ m _ _ _ ((rw c.deref.ensures.value at c.in-Ok.ensures.said) worlds began m _ (may_go worlds began (view_of c.self.inside) _ m ls here))
    ((rw c.deref.ensures.value at c.in-Ok.ensures.at) worlds began m _ (may_go worlds began (view_of c.self.inside) _ m ls here)) refl c.either-self-inside.ensures t)

pub returns-in-Err-clause-leads : goal.returns-in-Err-clause-leads
returns-in-Err-clause-leads g c = rw (← c.self.view_is) (λ worlds began m ls here. (rw c.deref.ensures.value at c.say_line.ensures.leads) worlds began m _ (may_go worlds began (view_of c.self.inside) _ m ls here))

pub returns-clause-leads : goal.returns-clause-leads
returns-clause-leads g c = rw (← c.self.view_is) (λ worlds began m ls here. (rw c.deref.ensures.value at c.say_line.ensures.leads) worlds began m _ (may_go worlds began (view_of c.self.inside) _ m ls here))

pub returns-in-Err-clause-disk : goal.returns-in-Err-clause-disk
returns-in-Err-clause-disk g c = rw (← c.self.view_is) (rw c.deref.ensures.value at c.in-Err.ensures.disk)
