use Rattle.std.proofs.Common.{sym, ap, ◌∙◌}
use Rattle.command_lang.specs.declared.command.Command.TheVariants.{Cluster}
use Rattle.outside_world.proofs.Runs.{only_none}
use Rattle.backup_run.proofs.Stepping.{answers_known, answers_first, answers_none, first_leads, idle_cause, first_ready, known_leads, known_ready, still}
use Rattle.backup_run.proofs.answering.execute.Goals as goal

pub returns-in_err-copy-in-None-clause-leads : goal.returns-in_err-copy-in-None-clause-leads
returns-in_err-copy-in-None-clause-leads g c = λ worlds began m end may. still m end began _ (g.met.D.Disk.only_now c.args.disk.now) may.ready.now

pub returns-in_ok-step_cluster-in-Some-clause-step : goal.returns-in_ok-step_cluster-in-Some-clause-step
returns-in_ok-step_cluster-in-Some-clause-step g c =
    rw c.in-Some.is (answers_known c.in-Some.known c.step_cluster.new.cluster _ c.in_ok-step_cluster-in-Some.field-0 c.args.command.now c.in_ok-step_cluster-in-Some.ensures.step)

pub returns-in_ok-reply-in-None-clause-step : goal.returns-in_ok-reply-in-None-clause-step
returns-in_ok-reply-in-None-clause-step g c =
    rw c.in-None.is (answers_first c.in_ok-made-in-None.made c.step_cluster-in-None.new.cluster _ c.in_ok-reply-in-None.reply c.args.command.now c.in_ok-copy-in-None.field-0
    (c.in-Cluster.is ∙ ap Cluster (sym c.in_ok-copy-in-None.ensures.same)) c.in_ok-made-in-None.ensures.stands c.in_ok-reply-in-None.ensures.step)

pub returns-in_err-made-in-None-clause-leads : goal.returns-in_err-made-in-None-clause-leads
returns-in_err-made-in-None-clause-leads g c = λ worlds began m end may. still m end began _ (g.met.D.Disk.only_now c.args.disk.now) may.ready.now

pub returns-in_err-reply-in-None-clause-leads : goal.returns-in_err-reply-in-None-clause-leads
returns-in_err-reply-in-None-clause-leads g c =
    rw c.in-None.is (first_leads c.in_ok-made-in-None.made _ _ c.args.command.now c.in_ok-copy-in-None.field-0 (c.in-Cluster.is ∙ ap Cluster (sym c.in_ok-copy-in-None.ensures.same)) c.in_ok-made-in-None.ensures.stands c.step_cluster-in-None.ensures.leads)

pub returns-in_ok-reply-in-None-clause-leads : goal.returns-in_ok-reply-in-None-clause-leads
returns-in_ok-reply-in-None-clause-leads g c =
    rw c.in-None.is (first_leads c.in_ok-made-in-None.made _ _ c.args.command.now c.in_ok-copy-in-None.field-0 (c.in-Cluster.is ∙ ap Cluster (sym c.in_ok-copy-in-None.ensures.same)) c.in_ok-made-in-None.ensures.stands c.step_cluster-in-None.ensures.leads)

pub returns-in_ok-reply-in-None-clause-ready : goal.returns-in_ok-reply-in-None-clause-ready
returns-in_ok-reply-in-None-clause-ready g c =
    rw c.in-None.is (first_ready c.in_ok-made-in-None.made _ _ c.args.command.now c.in_ok-copy-in-None.field-0 (c.in-Cluster.is ∙ ap Cluster (sym c.in_ok-copy-in-None.ensures.same)) c.in_ok-made-in-None.ensures.stands c.in_ok-reply-in-None.ensures.ready)

pub returns-in_default : goal.returns-in_default
returns-in_default g c = rw c.in-None.is (record {
  step = λ worlds began m end may. (answers_none _ c.args.command.now c.in_default.not-Cluster worlds began m end may).0;
  ready = λ worlds began m end may. (answers_none _ c.args.command.now c.in_default.not-Cluster worlds began m end may).1;
  leads = λ worlds began m end may. still m end began _ (g.met.D.Disk.only_now c.args.disk.now) may.ready.now;
  changes = only_none _;
  stepped = tt;
  cause = idle_cause _ _;
  disk = tt;
})

pub returns-in_err-step_cluster-in-Some-clause-leads : goal.returns-in_err-step_cluster-in-Some-clause-leads
returns-in_err-step_cluster-in-Some-clause-leads g c = rw c.in-Some.is (known_leads c.in-Some.known _ _ c.args.command.now c.step_cluster.ensures.leads)

pub returns-in_ok-step_cluster-in-Some-clause-leads : goal.returns-in_ok-step_cluster-in-Some-clause-leads
returns-in_ok-step_cluster-in-Some-clause-leads g c = rw c.in-Some.is (known_leads c.in-Some.known _ _ c.args.command.now c.step_cluster.ensures.leads)

pub returns-in_ok-step_cluster-in-Some-clause-ready : goal.returns-in_ok-step_cluster-in-Some-clause-ready
returns-in_ok-step_cluster-in-Some-clause-ready g c = rw c.in-Some.is (known_ready c.in-Some.known _ _ c.args.command.now c.in_ok-step_cluster-in-Some.ensures.ready)
