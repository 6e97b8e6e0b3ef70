use Rattle.std.proofs.Common.{[], refl, sym, subst}
use Rattle.machine_model.specs.Step.{step}
use Rattle.cluster_core.specs.ClusterView.{ClusterState}
use Rattle.cluster_core.specs.Standing.{MayStep}
use Rattle.cluster_core.proofs.Here.{here-cause, here-halts, here-runs, here-still}
use Rattle.machine_model.proofs.Past.{steps-later}
use Rattle.cluster_core.proofs.cluster.Cluster.execute.Goals as goal

pub returns-in-Some-clause-step : goal.returns-in-Some-clause-step
returns-in-Some-clause-step g c = λ worlds. here-runs c.args.self.now c.execute_here.new.self (λ m. step worlds m c.args.command.now) (λ m. steps-later worlds m c.args.command.now) c.in-Some.ensures.rest c.in-Some.done (c.in-Some.ensures.step worlds) (g.D.Disk.view c.args.disk.now) (g.met.D.Disk.only_now c.args.disk.now)

pub returns-in-Some-clause-stays : goal.returns-in-Some-clause-stays
returns-in-Some-clause-stays g c = here-still c.args.self.now c.execute_here.new.self (λ m. step [] m c.args.command.now) (λ m. steps-later [] m c.args.command.now) c.in-Some.ensures.rest c.in-Some.done (c.in-Some.ensures.step []) c.requires.stands

pub returns-in-Some-clause-cause : goal.returns-in-Some-clause-cause
returns-in-Some-clause-cause g c = here-cause c.args.self.now c.execute_here.new.self (λ m. step [] m c.args.command.now) (λ m. steps-later [] m c.args.command.now) c.in-Some.ensures.rest c.in-Some.done (c.in-Some.ensures.step []) (g.D.Disk.view c.args.disk.now).faults

pub returns-in-Some-clause-disk : goal.returns-in-Some-clause-disk
returns-in-Some-clause-disk g c = here-halts c.args.self.now c.execute_here.new.self (λ m. step [] m c.args.command.now) (λ m. steps-later [] m c.args.command.now) c.in-Some.ensures.rest _ c.in-Some.done (c.in-Some.ensures.step [])

pub returns-in-None-clause-step : goal.returns-in-None-clause-step
returns-in-None-clause-step g c = λ worlds m end may. c.execute_on.ensures.step worlds m end (subst (λ (x : ClusterState). MayStep x m (step worlds m c.args.command.now) end (g.D.Disk.view c.args.disk.now)) (sym (c.in-None.ensures.same refl)) may)
