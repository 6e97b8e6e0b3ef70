use Rattle.std.proofs.Common.{inl, inr, refl, ◌∙◌}
use Rattle.outside_world.proofs.PutSyncPut.{only_put_sync, only_put_sync_put, run_gate, run_put, run_put_sync}
use Rattle.outside_world.proofs.Runs.{only_put}
use Rattle.layer_model.specs.declared.names.Part.TheVariants.{Chunk, Mark}
use Rattle.layer_model.specs.Names.{object_name}
use Rattle.collection_dir.proofs.Parts.{names_apart, on_ok, through_change, through_sync}
use Rattle.collection_dir.proofs.WriteChunk.{stages, stored_on_ok}
use Rattle.collection_dir.proofs.chunks.store_chunk.Goals as goal

pub returns-in_err-put_part-clause-layer : goal.returns-in_err-put_part-clause-layer
returns-in_err-put_part-clause-layer g c w older may ne = (run_put (stages w older _ _ _ _ may ne (g.met.D.Disk.only_now c.args.disk.now)) c.put_part.ensures.changes).so_far

pub returns-in_err-sync-clause-layer : goal.returns-in_err-sync-clause-layer
returns-in_err-sync-clause-layer g c w older may ne = (run_put_sync (stages w older _ _ _ _ may ne (g.met.D.Disk.only_now c.args.disk.now)) c.put_part.ensures.changes c.sync.ensures.settles).so_far

pub returns-clause-layer : goal.returns-clause-layer
returns-clause-layer g c w older may ne =
    (run_gate (stages w older _ _ _ _ may ne (g.met.D.Disk.only_now c.args.disk.now)) c.in_ok-put_part.ensures.changes c.in_ok-sync.ensures.settles c.put_part-2.ensures.changes).so_far

pub returns-clause-stored : goal.returns-clause-stored
returns-clause-stored g c w older may ne =
    stored_on_ok w older _ _ _ _ may c.put_part-2.result (run_gate (stages w older _ _ _ _ may ne (g.met.D.Disk.only_now c.args.disk.now)) c.in_ok-put_part.ensures.changes c.in_ok-sync.ensures.settles c.put_part-2.ensures.changes)

pub returns-in_err-put_part-clause-changes : goal.returns-in_err-put_part-clause-changes
returns-in_err-put_part-clause-changes g c = only_put (inl refl) c.put_part.ensures.changes

pub returns-in_err-sync-clause-changes : goal.returns-in_err-sync-clause-changes
returns-in_err-sync-clause-changes g c = only_put_sync (inl refl) c.put_part.ensures.changes c.sync.ensures.settles

pub returns-clause-changes : goal.returns-clause-changes
returns-clause-changes g c = only_put_sync_put (inl refl) (inr refl) c.put_part.ensures.changes c.sync.ensures.settles c.put_part-2.ensures.changes

pub returns-clause-put : goal.returns-clause-put
returns-clause-put g c tells =
    let layer = c.args.layer.now in
    let chunk = object_name layer (Chunk c.args.number) in
    let after_put = c.put_part.ensures.changes.kind.tells ∙ tells in
    on_ok c.put_part-2.result (through_change chunk (c.sync.ensures.settles.kind.tells ∙ after_put) (names_apart layer (Chunk c.args.number) (Mark c.args.number) c.requires c.requires (λ e. cc)) c.put_part-2.ensures.changes
    ∙ through_sync chunk after_put c.sync.ensures.settles ∙ (c.in_ok-put_part.ensures.changes.content tells).written)
