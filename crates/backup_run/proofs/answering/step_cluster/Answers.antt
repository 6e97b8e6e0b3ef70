use Rattle.machine_model.specs.Step.{step}
use Rattle.machine_model.proofs.Past.{steps-later}
use Rattle.backup_run.proofs.Stepping.{own_changes, ready_after, step_leads}
use Rattle.backup_run.proofs.answering.step_cluster.Goals as goal

pub returns-in-Ok-clause-step : goal.returns-in-Ok-clause-step
returns-in-Ok-clause-step g c = λ worlds m end may. (c.in-Ok.ensures.step worlds m end may).replied

pub returns-in-Ok-clause-ready : goal.returns-in-Ok-clause-ready
returns-in-Ok-clause-ready g c = λ worlds began m end may ahead.
    let done = c.in-Ok.ensures.step worlds m end may in
    ready_after m (step worlds m c.args.command.now).machine end began (g.D.Disk.view c.args.disk.now) (g.D.Disk.view c.step.new.disk) (steps-later worlds m c.args.command.now) ahead done.ahead done.ready

pub returns-in-Ok-clause-leads : goal.returns-in-Ok-clause-leads
returns-in-Ok-clause-leads g c = step_leads c.args.cluster.now c.step.new.self _ _ c.args.command.now c.step.result c.step.ensures.step

pub returns-in-Ok-clause-changes : goal.returns-in-Ok-clause-changes
returns-in-Ok-clause-changes g c = own_changes c.args.cluster.now.name _ _ c.step.ensures.changes

pub returns-in-Err-Disk-clause-leads : goal.returns-in-Err-Disk-clause-leads
returns-in-Err-Disk-clause-leads g c = step_leads c.args.cluster.now c.step.new.self _ _ c.args.command.now c.step.result c.step.ensures.step

pub returns-in-Err-Disk-clause-changes : goal.returns-in-Err-Disk-clause-changes
returns-in-Err-Disk-clause-changes g c = own_changes c.args.cluster.now.name _ _ c.step.ensures.changes

pub returns-in-Err-Memory-clause-leads : goal.returns-in-Err-Memory-clause-leads
returns-in-Err-Memory-clause-leads g c = step_leads c.args.cluster.now c.step.new.self _ _ c.args.command.now c.step.result c.step.ensures.step

pub returns-in-Err-Memory-clause-changes : goal.returns-in-Err-Memory-clause-changes
returns-in-Err-Memory-clause-changes g c = own_changes c.args.cluster.now.name _ _ c.step.ensures.changes
