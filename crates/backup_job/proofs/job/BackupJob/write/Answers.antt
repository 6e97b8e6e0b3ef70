use Rattle.std.proofs.Common.{◌∙◌, ◌<◌, ℕ, ap, sym, subst, length, Ok, Err}
use Rattle.backup_job.specs.Jobs.{Job, written}
use Rattle.std.proofs.lemmas.Result.{err_from_is_err_and}
use Rattle.chunk_file.specs.Chunks.{chunk_bytes}
use Rattle.layer_manifest.specs.Manifests.{chunk_count}
use Rattle.collection_dir.specs.declared.fault.DirFault.TheVariants.{Memory}
use Rattle.backup_job.specs.declared.job.Progress.TheVariants.{Running}
use Rattle.backup_job.proofs.Disks.{as_failed, as_written, chunk_at_layer, nothing_written}
use Rattle.backup_job.proofs.Parts.{length-with_info}
use Rattle.backup_job.proofs.job.BackupJob.write.Goals as goal

pub returns-in_err-bytes-clause-disk : goal.returns-in_err-bytes-clause-disk
returns-in_err-bytes-clause-disk g c w same has is =
    let p = err_from_is_err_and c.from_residual.result c.from_residual.ensures.1 in
    rw (p.1, p.2) (nothing_written w _ _ (g.met.D.Disk.only_now c.args.disk.now))

pub returns-in_err-write_chunk-clause-disk : goal.returns-in_err-write_chunk-clause-disk
returns-in_err-write_chunk-clause-disk g c =
    let p = err_from_is_err_and c.from_residual-in_err-write_chunk.result c.from_residual-in_err-write_chunk.ensures.1 in
    let e = c.in_err-write_chunk.ensures in
    rw (← c.self.view_is, p.1, p.2) (λ w same has is. as_failed {r = Err c.in_err-write_chunk.field-0.0} w _ _ _ _ same (c.chunk_count-number.ensures ∙ ap chunk_count c.as_slice-2.ensures) (c.as_slice-3.ensures.value ∙ (c.in_ok-bytes.ensures.bytes ∙ ap chunk_bytes c.as_slice.ensures.value)) has is c.in_err-write_chunk.field-0.0 e.fault (record { wrote = e.wrote; calls = e.calls; same = e.same; put = e.put; marked = e.marked; settled = e.settled; layer = e.layer; stored = e.stored; changes = e.changes }))

pub returns-in_err-write_chunk-clause-changes : goal.returns-in_err-write_chunk-clause-changes
returns-in_err-write_chunk-clause-changes g c = rw (← c.self.view_is) (chunk_at_layer c.self.inside.name _ (subst (λ (k : ℕ). k < 1000000) (sym (c.chunk_count-number.ensures ∙ ap chunk_count c.as_slice-2.ensures)) (subst (λ (j : Job). written j < 1000000) (sym c.self.view_is) c.requires.number)) c.write_chunk.ensures.changes)

pub returns-in_err-add_info-clause-disk : goal.returns-in_err-add_info-clause-disk
returns-in_err-add_info-clause-disk g c =
    let p = err_from_is_err_and c.from_residual-in_err-add_info.result c.from_residual-in_err-add_info.ensures.1 in
    let e = c.in_ok-write_chunk.ensures in
    rw (← c.self.view_is, p.1, p.2) (λ w same has is. as_failed {r = Ok c.in_ok-write_chunk.field-0} w _ _ _ _ same (c.chunk_count-number.ensures ∙ ap chunk_count c.as_slice-2.ensures) (c.as_slice-3.ensures.value ∙ (c.in_ok-bytes.ensures.bytes ∙ ap chunk_bytes c.as_slice.ensures.value)) has is Memory tt (record { wrote = e.wrote; calls = e.calls; same = e.same; put = e.put; marked = e.marked; settled = e.settled; layer = e.layer; stored = e.stored; changes = e.changes }))

pub returns-in_err-add_info-clause-changes : goal.returns-in_err-add_info-clause-changes
returns-in_err-add_info-clause-changes g c = rw (← c.self.view_is) (chunk_at_layer c.self.inside.name _ (subst (λ (k : ℕ). k < 1000000) (sym (c.chunk_count-number.ensures ∙ ap chunk_count c.as_slice-2.ensures)) (subst (λ (j : Job). written j < 1000000) (sym c.self.view_is) c.requires.number)) c.write_chunk.ensures.changes)

pub invariant_of-self-2 : goal.invariant_of-self-2
invariant_of-self-2 g c = ap length c.in_ok-add_info.ensures.ok ∙ (length-with_info c.args.piece.place c.in_ok-bytes.info c.self.inside.manifest.tables ∙ c.self.invariant)

pub returns-clause-disk : goal.returns-clause-disk
returns-clause-disk g c =
    let e = c.in_ok-write_chunk.ensures in
    rw (← c.self.view_is) (λ w same has is. as_written w _ _ _ _ same (c.chunk_count-number.ensures ∙ ap chunk_count c.as_slice-2.ensures) (c.as_slice-3.ensures.value ∙ (c.in_ok-bytes.ensures.bytes ∙ ap chunk_bytes c.as_slice.ensures.value)) has is Running c.in_ok-write_chunk.field-0 (record { wrote = e.wrote; calls = e.calls; same = e.same; put = e.put; marked = e.marked; settled = e.settled; layer = e.layer; stored = e.stored; changes = e.changes }))

pub returns-clause-changes : goal.returns-clause-changes
returns-clause-changes g c = rw (← c.self.view_is) (chunk_at_layer c.self.inside.name _ (subst (λ (k : ℕ). k < 1000000) (sym (c.chunk_count-number.ensures ∙ ap chunk_count c.as_slice-2.ensures)) (subst (λ (j : Job). written j < 1000000) (sym c.self.view_is) c.requires.number)) c.write_chunk.ensures.changes)
