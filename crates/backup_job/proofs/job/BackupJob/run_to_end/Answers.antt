use Rattle.std.proofs.Common.{Ok, sym, ap, ◌∙◌, arith}
use Rattle.outside_world.proofs.Runs.{still_known}
use Rattle.backup_job.specs.Jobs.{Job, completed}
use Rattle.backup_job.proofs.Whole.{as-ok, changes-on, ends, fails, goes-on, is-about}
use Rattle.backup_job.proofs.job.BackupJob.run_to_end.Goals as goal

pub units-preserved : goal.units-preserved
units-preserved g c =
    let so_far = c.units.invariant in
    let is = c.in-Ok-Running.is ∙ ap Ok c.in-Ok-Running.field-0-is in
    let h = so_far.0.0 in let stood = so_far.0.1 in let about = is-about h c.units.self in
    let takes = as-ok _ _ c.unit.result _ (c.unit.ensures.step h stood so_far.0.2 _ about) is in
    let changes = c.unit.ensures.changes in (
      (h, stood, takes.may),
      (λ h stood older s w among writing.
          let way = so_far.1 h stood older s w among writing in
          let now = way.writing in
          goes-on older s w among.started among.finished h _ _ _ _ _ _ way c.unit.result (c.unit.ensures.step h stood now.may w now.about) (c.unit.ensures.disk h stood now.may w now.about) is
          (λ later image at. g.met.D.Disk.counts_now c.unit.new.disk _ image (still_known now.known changes.kind) later at)),
      sym takes.about.name ∙ about.name ∙ so_far.2,
      changes-on _ _ _ _ _ so_far.2 so_far.3 changes,
      as-ok _ _ c.unit.result _ c.unit.ensures.cause.counts is ∙ so_far.4,
      (λ h stood may.
          let before = so_far.5 h stood may in
          let takes = as-ok _ _ c.unit.result _ (c.unit.ensures.step h stood before.0 _ (is-about h c.units.self)) is in
          (takes.may, takes.same ∙ before.1)),
    )

pub units-smaller : goal.units-smaller
units-smaller g c =
    let h = c.units.invariant.0.0 in let stood = c.units.invariant.0.1 in
    let takes = as-ok _ _ c.unit.result _ (c.unit.ensures.step h stood c.units.invariant.0.2 _ (is-about h c.units.self)) (c.in-Ok-Running.is ∙ ap Ok c.in-Ok-Running.field-0-is) in
    let number = takes.number in let counts = takes.counts in
    omega (arith, number, counts)

pub returns-in-Ok-Done-clause-disk : goal.returns-in-Ok-Done-clause-disk
returns-in-Ok-Done-clause-disk g c h stood older s w among writing =
    let way = c.units.invariant.1 h stood older s w among writing in
    let now = way.writing in
    ends older s w among.started among.finished h _ _ _ _ _ _ way c.unit.result (c.unit.ensures.step h stood now.may w now.about) (c.unit.ensures.disk h stood now.may w now.about) (c.in-Ok-Done.is ∙ ap Ok c.in-Ok-Done.field-0-is)

pub returns-in-Ok-Done-clause-changes : goal.returns-in-Ok-Done-clause-changes
returns-in-Ok-Done-clause-changes g c = changes-on _ _ _ _ _ c.units.invariant.2 c.units.invariant.3 c.unit.ensures.changes

pub returns-in-Err-clause-disk : goal.returns-in-Err-clause-disk
returns-in-Err-clause-disk g c h stood older s w among writing =
    let way = c.units.invariant.1 h stood older s w among writing in
    let now = way.writing in
    fails older s w among.started among.finished h _ _ _ _ _ _ way c.unit.result (c.unit.ensures.step h stood now.may w now.about) (c.unit.ensures.disk h stood now.may w now.about) _ c.in-Err.is

pub returns-in-Err-clause-changes : goal.returns-in-Err-clause-changes
returns-in-Err-clause-changes g c = changes-on _ _ _ _ _ c.units.invariant.2 c.units.invariant.3 c.unit.ensures.changes

pub returns-in-Ok-Done-clause-kept : goal.returns-in-Ok-Done-clause-kept
returns-in-Ok-Done-clause-kept g c h stood may =
    let before = c.units.invariant.5 h stood may in
    let last = as-ok _ _ c.unit.result _ (c.unit.ensures.step h stood before.0 _ (is-about h c.units.self)) (c.in-Ok-Done.is ∙ ap Ok c.in-Ok-Done.field-0-is) in
    record { name = ap (λ (j : Job). j.name) last.same ∙ c.units.invariant.2; manifest = ap (completed h) last.same ∙ before.1 }

pub returns-in-Ok-Done-clause-whole : goal.returns-in-Ok-Done-clause-whole
returns-in-Ok-Done-clause-whole g c h stood may =
    let before = c.units.invariant.5 h stood may in
    let last = as-ok _ _ c.unit.result _ (c.unit.ensures.step h stood before.0 _ (is-about h c.units.self)) (c.in-Ok-Done.is ∙ ap Ok c.in-Ok-Done.field-0-is) in
    last.whole ∙ before.1
