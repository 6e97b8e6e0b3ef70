use Rattle.std.proofs.Common.{◌∙◌, ap, Err}
use Rattle.machine_model.specs.Step.{step}
use Rattle.cluster_core.specs.declared.fault.RunFault.TheVariants as fault
use Rattle.cluster_core.proofs.Replying.{answered, faulted, faulted-by, refused}
use Rattle.cluster_core.proofs.cluster.Cluster.reply.Goals as goal
use Rattle.cluster_core.proofs.cluster.Cluster.reply.Goals.{in-Ok, in-Err-Refused}

pub returns-in-Err-Disk-clause-step : goal.returns-in-Err-Disk-clause-step
returns-in-Err-Disk-clause-step g c = λ worlds m end may. faulted c.execute.new.self (step worlds m c.args.command.now) end (g.D.Disk.view c.args.disk.now) (g.D.Disk.view c.execute.new.disk) c.execute.result fault.Disk (c.execute.ensures.step worlds m end may)

pub returns-in-Err-Memory-clause-step : goal.returns-in-Err-Memory-clause-step
returns-in-Err-Memory-clause-step g c = λ worlds m end may. faulted c.execute.new.self (step worlds m c.args.command.now) end (g.D.Disk.view c.args.disk.now) (g.D.Disk.view c.execute.new.disk) c.execute.result fault.Memory (c.execute.ensures.step worlds m end may)

pub returns-in_err-new-clause-step : goal.returns-in_err-new-clause-step
returns-in_err-new-clause-step g c = λ worlds m end may. faulted-by c.execute.new.self (step worlds m c.args.command.now) end (g.D.Disk.view c.args.disk.now) (g.D.Disk.view c.execute.new.disk) c.execute.result c.from_residual.result fault.Memory c.from_residual.ensures.1 (c.execute.ensures.step worlds m end may)

pub returns-clause-step : goal.returns-clause-step
returns-clause-step g c = λ worlds m end may. elim c.match-execute.branch [
  | in-Ok w ↦ answered c.execute.new.self (step worlds m c.args.command.now) end (g.D.Disk.view c.args.disk.now) (g.D.Disk.view c.execute.new.disk) c.execute.result w.in-Ok.answer c.match-execute.response c.in_ok-new.field-0 w.in-Ok.is w.response-is (record { text_is = c.in_ok-new.ensures.text; refusal_is = c.in_ok-new.ensures.refusal }) (c.execute.ensures.step worlds m end may)
  | in-Err-Refused w ↦ refused c.execute.new.self (step worlds m c.args.command.now) end (g.D.Disk.view c.args.disk.now) (g.D.Disk.view c.execute.new.disk) c.execute.result w.in-Err-Refused.refusal c.match-execute.response c.in_ok-new.field-0 (w.in-Err-Refused.is ∙ ap Err w.in-Err-Refused.field-0-is) w.response-is (record { text_is = c.in_ok-new.ensures.text; refusal_is = c.in_ok-new.ensures.refusal }) (c.execute.ensures.step worlds m end may)
]
