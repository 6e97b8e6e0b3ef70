use Rattle.std.proofs.Common.{◌≡◌, ◌<◌, [], length, arith}
use Rattle.std.proofs.lemmas.Bool.Decides.{nat_tests}
use Rattle.backup_run.specs.Run.{at_of, outcome_of_rest}
use Rattle.backup_run.proofs.Saying.{end_last, end_goes_on, end_leads, nothing_left}
use Rattle.backup_run.proofs.Stepping.{still}
use Rattle.backup_run.proofs.session.Session.end_input.Goals as goal

pub returns-then-is_amid_line-clause-malformed : goal.returns-then-is_amid_line-clause-malformed
returns-then-is_amid_line-clause-malformed g c = λ worlds began m here.
    let some : 0 < length c.args.self.now.pending = grind (arith, nat_tests) in
    end_last worlds began c.args.self.now _ _ m c.end_line.result some here (c.end_line.ensures.malformed worlds began m)

pub returns-then-is_amid_line-clause-whole : goal.returns-then-is_amid_line-clause-whole
returns-then-is_amid_line-clause-whole g c = λ worlds began m here.
    let some : 0 < length c.args.self.now.pending = grind (arith, nat_tests) in
    end_goes_on worlds began c.args.self.now c.end_line.new.self _ _ m c.end_line.result some here (c.end_line.ensures.goes_on worlds began m)

pub returns-clause-whole : goal.returns-clause-whole
returns-clause-whole g c = λ worlds began m here t.
    let none : length c.args.self.now.pending ≡ 0 = grind (arith, nat_tests) in
    nothing_left worlds began c.args.self.now _ m c.say_nothing.result.text.items none c.say_nothing.ensures.text here

pub returns-then-is_amid_line-clause-leads : goal.returns-then-is_amid_line-clause-leads
returns-then-is_amid_line-clause-leads g c = λ worlds began m here.
    let some : 0 < length c.args.self.now.pending = grind (arith, nat_tests) in
    end_leads worlds began c.args.self.now _ _ m some here (c.end_line.ensures.leads worlds began m)

pub returns-clause-leads : goal.returns-clause-leads
returns-clause-leads g c = λ worlds began m here. still m (outcome_of_rest worlds (at_of c.args.self.now m) []).machine began _ (g.met.D.Disk.only_now c.args.disk.now) here.ready.now
