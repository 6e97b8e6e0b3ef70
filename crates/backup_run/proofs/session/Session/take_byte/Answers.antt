use Rattle.std.proofs.Common.{◌≡◌, ◌∷◌, length, arith}
use Rattle.std.proofs.lemmas.Bool.Decides.{nat_tests}
use Rattle.std.proofs.lemmas.Result.{IfErr-weaker}
use Rattle.backup_run.specs.SessionView.{view_of}
use Rattle.backup_run.specs.Run.{at_of, outcome_of_rest}
use Rattle.backup_run.proofs.Saying.{last_beyond, last_too_long, newline_last, newline_leads, newline_goes_on, byte_goes_on}
use Rattle.backup_run.proofs.Stepping.{still}
use Rattle.backup_run.proofs.session.Session.take_byte.Goals as goal

pub returns-then-self-eq0-clause-malformed : goal.returns-then-self-eq0-clause-malformed
returns-then-self-eq0-clause-malformed g c = rw (← c.self.view_is) (λ worlds began m more here t.
    rw (c.in_ok-say_malformed.ensures.text, c.as_slice.ensures.value) (last_beyond worlds began (view_of c.self.inside) _ m c.args.byte more c.if-self-eq0.true c.self.invariant.line here))

pub returns-then-byte-eq10-clause-malformed : goal.returns-then-byte-eq10-clause-malformed
returns-then-byte-eq10-clause-malformed g c = rw (← c.self.view_is) (λ worlds began m more here.
    newline_last worlds began (view_of c.self.inside) _ _ m c.args.byte more c.end_line.result c.if-self-eq0.false c.if-byte-eq10.true here (c.end_line.ensures.malformed worlds began m))

pub returns-then-byte-eq10-clause-goes_on : goal.returns-then-byte-eq10-clause-goes_on
returns-then-byte-eq10-clause-goes_on g c = rw (← c.self.view_is) (λ worlds began m more here.
    newline_goes_on worlds began (view_of c.self.inside) c.end_line.new.self _ _ m c.args.byte more c.end_line.result c.if-self-eq0.false c.if-byte-eq10.true here (c.end_line.ensures.goes_on worlds began m)
    c.end_line.ensures.cleared c.end_line.ensures.room)

pub returns-then-len-eq-LINE_BYTES_MAX-clause-malformed : goal.returns-then-len-eq-LINE_BYTES_MAX-clause-malformed
returns-then-len-eq-LINE_BYTES_MAX-clause-malformed g c =
    let full : length c.self.inside.pending.items ≡ 65536 = grind (arith, nat_tests) in
    rw (← c.self.view_is) (λ worlds began m more here t. rw c.in_ok-say_malformed-2.ensures.text (last_too_long worlds began (view_of c.self.inside) _ m c.args.byte more c.if-self-eq0.false c.if-byte-eq10.false full here))

pub returns-clause-goes_on : goal.returns-clause-goes_on
returns-clause-goes_on g c = rw (← c.self.view_is) (λ worlds began m more here t.
    byte_goes_on worlds began (view_of c.self.inside) _ m c.args.byte more c.push.new.self.items _ c.say_nothing.ensures.text c.if-self-eq0.false c.if-byte-eq10.false c.in_ok-push.ensures.items here)

pub returns-in_err-say_malformed-clause-leads : goal.returns-in_err-say_malformed-clause-leads
returns-in_err-say_malformed-clause-leads g c = λ worlds began m more here. still m (outcome_of_rest worlds (at_of c.args.self.now m) (c.args.byte ∷ more)).machine began _ (g.met.D.Disk.only_now c.args.disk.now) here.ready.now

pub returns-then-self-eq0-clause-leads : goal.returns-then-self-eq0-clause-leads
returns-then-self-eq0-clause-leads g c = λ worlds began m more here. still m (outcome_of_rest worlds (at_of c.args.self.now m) (c.args.byte ∷ more)).machine began _ (g.met.D.Disk.only_now c.args.disk.now) here.ready.now

pub returns-in_err-say_malformed-2-clause-leads : goal.returns-in_err-say_malformed-2-clause-leads
returns-in_err-say_malformed-2-clause-leads g c = λ worlds began m more here. still m (outcome_of_rest worlds (at_of c.args.self.now m) (c.args.byte ∷ more)).machine began _ (g.met.D.Disk.only_now c.args.disk.now) here.ready.now

pub returns-then-len-eq-LINE_BYTES_MAX-clause-leads : goal.returns-then-len-eq-LINE_BYTES_MAX-clause-leads
returns-then-len-eq-LINE_BYTES_MAX-clause-leads g c = λ worlds began m more here. still m (outcome_of_rest worlds (at_of c.args.self.now m) (c.args.byte ∷ more)).machine began _ (g.met.D.Disk.only_now c.args.disk.now) here.ready.now

pub returns-in_err-push-clause-leads : goal.returns-in_err-push-clause-leads
returns-in_err-push-clause-leads g c = λ worlds began m more here. still m (outcome_of_rest worlds (at_of c.args.self.now m) (c.args.byte ∷ more)).machine began _ (g.met.D.Disk.only_now c.args.disk.now) here.ready.now

pub returns-clause-leads : goal.returns-clause-leads
returns-clause-leads g c = λ worlds began m more here. still m (outcome_of_rest worlds (at_of c.args.self.now m) (c.args.byte ∷ more)).machine began _ (g.met.D.Disk.only_now c.args.disk.now) here.ready.now

pub returns-then-byte-eq10-clause-leads : goal.returns-then-byte-eq10-clause-leads
returns-then-byte-eq10-clause-leads g c = rw (← c.self.view_is) (λ worlds began m more here.
    newline_leads worlds began (view_of c.self.inside) _ _ m c.args.byte more c.if-self-eq0.false c.if-byte-eq10.true here (c.end_line.ensures.leads worlds began m))

pub returns-then-byte-eq10-clause-disk : goal.returns-then-byte-eq10-clause-disk
returns-then-byte-eq10-clause-disk g c = rw (← c.self.view_is) (IfErr-weaker c.end_line.result _ _ (λ e f no. (c.if-byte-eq10.true, f no)) c.end_line.ensures.disk)
