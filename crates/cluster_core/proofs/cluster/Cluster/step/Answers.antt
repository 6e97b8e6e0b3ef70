use Rattle.std.proofs.Common.{◌≡◌, ◌∙◌, ◌+◌, false, Some, refl, ap, sym, subst}
use Rattle.outside_world.proofs.Runs.{only_none}
use Rattle.collection_dir.proofs.StandsLaws.{manifests-same}
use Rattle.machine_model.specs.Disks.{made_layers}
use Rattle.machine_model.specs.Step.{step}
use Rattle.machine_model.proofs.DiskLaws.{ready_leaves}
use Rattle.cluster_core.specs.ClusterView.{ClusterState, view_of}
use Rattle.cluster_core.specs.Standing.{MayStep, StandsFor}
use Rattle.cluster_core.proofs.BackingUp.{idle-none}
use Rattle.cluster_core.proofs.Here.{recounted}
use Rattle.cluster_core.proofs.Replying.{may-recounted, stays-recounted, steps-recounted}
use Rattle.cluster_core.proofs.cluster.Cluster.step.Goals as goal

pub returns-then-self-clause-step : goal.returns-then-self-clause-step
returns-then-self-clause-step g c = λ worlds m end may. record { replied = tt; ready = tt; leaves = ready_leaves (Some m) (Some end) (g.D.Disk.view c.args.disk.now) (g.met.D.Disk.only_now c.args.disk.now) may.ready; changes = only_none _; ahead = λ w among later n is. refl; manifests = manifests-same (made_layers end) (g.D.Disk.view c.args.disk.now).objects (g.D.Disk.view c.args.disk.now).objects refl; idle = λ done. idle-none _ }

pub reply-done-requires-clause-stands : goal.reply-done-requires-clause-stands
reply-done-requires-clause-stands g c =
    let going : c.args.self.now.ended ≡ false = ap (λ (x : ClusterState). x.ended) (sym c.self.view_is) ∙ c.if-self.false in
    let here = c.requires.stands going in
    (here.0, recounted (view_of c.self.inside) (c.self.inside.steps + 1) c.self.inside.ended here.0 (subst (λ (x : ClusterState). StandsFor x here.0) (sym c.self.view_is) here.1))

pub returns-clause-step : goal.returns-clause-step
returns-clause-step g c = λ worlds m end may.
    let first = may-recounted (view_of c.self.inside) (c.self.inside.steps + 1) c.self.inside.ended m (step worlds m c.args.command.now) end (g.D.Disk.view c.args.disk.now) (subst (λ (x : ClusterState). MayStep x m (step worlds m c.args.command.now) end (g.D.Disk.view c.args.disk.now)) (sym c.self.view_is) may) in
    steps-recounted (view_of c.self-2.inside) c.self-2.inside.steps c.is_err-self-inside.result (step worlds m c.args.command.now) end c.reply-done.result (g.D.Disk.view c.args.disk.now) (g.D.Disk.view c.reply-done.new.disk) (rw (← c.self-2.view_is) at c.reply-done.ensures.step worlds m end first)

pub returns-clause-stays : goal.returns-clause-stays
returns-clause-stays g c = stays-recounted (view_of c.self-2.inside) c.self-2.inside.steps c.is_err-self-inside.result c.reply-done.result (rw (← c.self-2.view_is) at c.reply-done.ensures.stays)
