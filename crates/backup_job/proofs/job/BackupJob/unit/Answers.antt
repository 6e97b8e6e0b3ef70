use Rattle.std.proofs.Common.{subst, Err}
use Rattle.collection_dir.specs.declared.fault.DirFault.TheVariants.{Memory}
use Rattle.std.proofs.lemmas.Result.{err_from_is_err_and}
use Rattle.layer_manifest.specs.Manifests.{IsProperManifest}
use Rattle.outside_world.proofs.Runs.{still_known}
use Rattle.backup_job.proofs.Whole.{unit-leaves}
use Rattle.backup_job.proofs.Stepping.{completed-none, first_bytes, first_number, first_within, first_writes, fits_here, found_first, found_none, none_finishes, step_none, step_some, takes_first, untouched_unit}
use Rattle.backup_job.proofs.job.BackupJob.unit.Goals as goal

pub returns-in_err-piece-clause-disk : goal.returns-in_err-piece-clause-disk
returns-in_err-piece-clause-disk g c h stood may w about =
    let p = err_from_is_err_and c.from_residual.result c.from_residual.ensures.1 in
    rw (p.1, p.2) (untouched_unit _ h c.args.self.now w _ (g.met.D.Disk.only_now c.args.disk.now))

pub write-requires-clause-number : goal.write-requires-clause-number
write-requires-clause-number g c =
    let h = c.requires.0 in let stood = c.requires.1 in let may = c.requires.2 in
    first_number h c.args.self.now c.in-Some.piece.place c.in-Some.piece.cursor c.in-Some.piece.entries.items (found_first h (record { name = c.self.inside.name; plans = c.self.inside.plans; place = c.self.inside.place; cursor = c.self.inside.cursor; manifest = c.self.inside.manifest }) c.args.self.now c.as_slice.result.now c.in_ok-piece.field-0 c.self.view_is c.as_slice.ensures (c.in_ok-piece.ensures.next h stood) may c.in-Some.piece c.in-Some.is) (fits_here (record { name = c.self.inside.name; plans = c.self.inside.plans; place = c.self.inside.place; cursor = c.self.inside.cursor; manifest = c.self.inside.manifest }) c.args.self.now c.self.view_is c.self.invariant) may

pub finish-requires-clause-proper : goal.finish-requires-clause-proper
finish-requires-clause-proper g c =
    let h = c.requires.0 in let stood = c.requires.1 in let may = c.requires.2 in
    subst IsProperManifest (completed-none h c.args.self.now (found_none h (record { name = c.self.inside.name; plans = c.self.inside.plans; place = c.self.inside.place; cursor = c.self.inside.cursor; manifest = c.self.inside.manifest }) c.args.self.now c.as_slice.result.now c.in_ok-piece.field-0 c.self.view_is c.as_slice.ensures (c.in_ok-piece.ensures.next h stood) may c.in-None.is)) may.proper

pub returns-in-Some-clause-step : goal.returns-in-Some-clause-step
returns-in-Some-clause-step g c h stood may w about =
    step_some h w c.args.self.now _ _ c.write.result c.write.ensures.running c.write.ensures.ok (takes_first h c.args.self.now c.in-Some.piece.place c.in-Some.piece.cursor c.in-Some.piece.entries.items (found_first h (record { name = c.self.inside.name; plans = c.self.inside.plans; place = c.self.inside.place; cursor = c.self.inside.cursor; manifest = c.self.inside.manifest }) c.args.self.now c.as_slice.result.now c.in_ok-piece.field-0 c.self.view_is c.as_slice.ensures (c.in_ok-piece.ensures.next h stood) may c.in-Some.piece c.in-Some.is) w (fits_here (record { name = c.self.inside.name; plans = c.self.inside.plans; place = c.self.inside.place; cursor = c.self.inside.cursor; manifest = c.self.inside.manifest }) c.args.self.now c.self.view_is c.self.invariant) may about)

pub returns-in-Some-clause-disk : goal.returns-in-Some-clause-disk
returns-in-Some-clause-disk g c h stood may w about =
    let first = found_first h (record { name = c.self.inside.name; plans = c.self.inside.plans; place = c.self.inside.place; cursor = c.self.inside.cursor; manifest = c.self.inside.manifest }) c.args.self.now c.as_slice.result.now c.in_ok-piece.field-0 c.self.view_is c.as_slice.ensures (c.in_ok-piece.ensures.next h stood) may c.in-Some.piece c.in-Some.is in
    first_writes h c.args.self.now c.in-Some.piece.place c.in-Some.piece.cursor c.in-Some.piece.entries.items first w c.write.result _ _ (c.write.ensures.disk w about.name (first_within h c.args.self.now c.in-Some.piece.place c.in-Some.piece.cursor c.in-Some.piece.entries.items first w about) (first_bytes h c.args.self.now c.in-Some.piece.place c.in-Some.piece.cursor c.in-Some.piece.entries.items first w about))

pub returns-in-None-clause-step : goal.returns-in-None-clause-step
returns-in-None-clause-step g c h stood may w about = step_none h w c.args.self.now _ c.finish.result c.finish.ensures.done c.finish.ensures.stays (found_none h (record { name = c.self.inside.name; plans = c.self.inside.plans; place = c.self.inside.place; cursor = c.self.inside.cursor; manifest = c.self.inside.manifest }) c.args.self.now c.as_slice.result.now c.in_ok-piece.field-0 c.self.view_is c.as_slice.ensures (c.in_ok-piece.ensures.next h stood) may c.in-None.is)

pub returns-in-None-clause-disk : goal.returns-in-None-clause-disk
returns-in-None-clause-disk g c h stood may w about = none_finishes h c.args.self.now w c.finish.result _ _ (found_none h (record { name = c.self.inside.name; plans = c.self.inside.plans; place = c.self.inside.place; cursor = c.self.inside.cursor; manifest = c.self.inside.manifest }) c.args.self.now c.as_slice.result.now c.in_ok-piece.field-0 c.self.view_is c.as_slice.ensures (c.in_ok-piece.ensures.next h stood) may c.in-None.is) about (c.finish.ensures.disk w)

pub returns-in_err-piece-clause-stands : goal.returns-in_err-piece-clause-stands
returns-in_err-piece-clause-stands g c h stood older s w asked writing =
    let p = err_from_is_err_and c.from_residual.result c.from_residual.ensures.1 in
    rw (p.1, p.2) (unit-leaves older s w h c.args.self.now c.args.self.now _ _ (Err Memory) asked writing tt (untouched_unit _ h c.args.self.now w _ (g.met.D.Disk.only_now c.args.disk.now))
    (λ later image at. g.met.D.Disk.counts_now c.args.disk.now _ image writing.known later at))

pub returns-in-Some-clause-stands : goal.returns-in-Some-clause-stands
returns-in-Some-clause-stands g c h stood older s w asked writing =
    unit-leaves older s w h c.args.self.now _ _ _ c.write.result asked writing (returns-in-Some-clause-step g c h stood writing.may w writing.about) (returns-in-Some-clause-disk g c h stood writing.may w writing.about)
    (λ later image at. g.met.D.Disk.counts_now c.write.new.disk _ image (still_known writing.known c.write.ensures.changes.kind) later at)

pub returns-in-None-clause-stands : goal.returns-in-None-clause-stands
returns-in-None-clause-stands g c h stood older s w asked writing =
    unit-leaves older s w h c.args.self.now _ _ _ c.finish.result asked writing (returns-in-None-clause-step g c h stood writing.may w writing.about) (returns-in-None-clause-disk g c h stood writing.may w writing.about)
    (λ later image at. g.met.D.Disk.counts_now c.finish.new.disk _ image (still_known writing.known c.finish.ensures.changes.kind) later at)
