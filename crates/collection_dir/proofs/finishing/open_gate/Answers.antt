use Rattle.std.proofs.Common.{inl, inr, refl, ◌∙◌}
use Rattle.outside_world.proofs.PutSyncPut.{only_put_sync, only_put_sync_put, only_put_sync_put_sync, run_gate, run_last, run_put, run_put_sync, run_ready}
use Rattle.outside_world.proofs.Runs.{only_put}
use Rattle.layer_model.specs.declared.names.Part.TheVariants.{Gate, Manifest}
use Rattle.layer_model.specs.Names.{object_name}
use Rattle.collection_dir.proofs.Parts.{names_apart, on_ok, through_change, through_sync}
use Rattle.collection_dir.proofs.OpenGate.{opened, opens_gate, opens_gate_sync, opens_put, opens_put_sync, stages}
use Rattle.collection_dir.proofs.finishing.open_gate.Goals as goal

pub returns-in_err-put_part-clause-layer : goal.returns-in_err-put_part-clause-layer
returns-in_err-put_part-clause-layer g c w older may ne = (run_put (stages w older _ _ _ may ne (g.met.D.Disk.only_now c.args.disk.now)) c.put_part.ensures.changes).so_far

pub returns-in_err-sync-clause-layer : goal.returns-in_err-sync-clause-layer
returns-in_err-sync-clause-layer g c w older may ne = (run_put_sync (stages w older _ _ _ may ne (g.met.D.Disk.only_now c.args.disk.now)) c.put_part.ensures.changes c.sync.ensures.settles).so_far

pub returns-in_err-put_part-2-clause-layer : goal.returns-in_err-put_part-2-clause-layer
returns-in_err-put_part-2-clause-layer g c w older may ne =
    (run_gate (stages w older _ _ _ may ne (g.met.D.Disk.only_now c.args.disk.now)) c.in_ok-put_part.ensures.changes c.in_ok-sync.ensures.settles c.put_part-2.ensures.changes).so_far

pub returns-clause-layer : goal.returns-clause-layer
returns-clause-layer g c w older may ne =
    (run_last (stages w older _ _ _ may ne (g.met.D.Disk.only_now c.args.disk.now)) c.in_ok-put_part.ensures.changes c.in_ok-sync.ensures.settles c.put_part-2.ensures.changes c.sync-2.ensures.settles).so_far

pub returns-clause-whole : goal.returns-clause-whole
returns-clause-whole g c w older may ne =
    let steps = stages w older _ _ _ may ne (g.met.D.Disk.only_now c.args.disk.now) in
    let ready = run_ready steps c.in_ok-put_part.ensures.changes c.in_ok-sync.ensures.settles in
    let gated = run_gate steps c.in_ok-put_part.ensures.changes c.in_ok-sync.ensures.settles c.put_part-2.ensures.changes in
    opened w older _ _ _ may ready.known.tells gated c.in_ok-put_part-2.ensures.changes c.sync-2.result c.sync-2.ensures.settles

pub returns-in_err-put_part-clause-changes : goal.returns-in_err-put_part-clause-changes
returns-in_err-put_part-clause-changes g c = only_put (inr refl) c.put_part.ensures.changes

pub returns-in_err-sync-clause-changes : goal.returns-in_err-sync-clause-changes
returns-in_err-sync-clause-changes g c = only_put_sync (inr refl) c.put_part.ensures.changes c.sync.ensures.settles

pub returns-in_err-put_part-2-clause-changes : goal.returns-in_err-put_part-2-clause-changes
returns-in_err-put_part-2-clause-changes g c = only_put_sync_put (inr refl) (inl refl) c.put_part.ensures.changes c.sync.ensures.settles c.put_part-2.ensures.changes

pub returns-clause-changes : goal.returns-clause-changes
returns-clause-changes g c = only_put_sync_put_sync (inr refl) (inl refl) c.put_part.ensures.changes c.sync.ensures.settles c.put_part-2.ensures.changes c.sync-2.ensures.settles

pub returns-clause-put : goal.returns-clause-put
returns-clause-put g c tells =
    let layer = c.args.layer.now in
    let manifest = object_name layer Manifest in
    let put = c.put_part.ensures.changes.kind.tells ∙ tells in
    let synced = c.sync.ensures.settles.kind.tells ∙ put in
    on_ok c.sync-2.result (through_sync manifest (c.put_part-2.ensures.changes.kind.tells ∙ synced) c.sync-2.ensures.settles
    ∙ through_change manifest synced (names_apart layer Manifest Gate tt tt (λ e. cc)) c.put_part-2.ensures.changes
    ∙ through_sync manifest put c.sync.ensures.settles ∙ (c.in_ok-put_part.ensures.changes.content tells).written)

pub returns-in_err-put_part-clause-opens : goal.returns-in_err-put_part-clause-opens
returns-in_err-put_part-clause-opens g c tells = opens_put c.args.layer.now c.args.bytes.now tells c.put_part.ensures.changes

pub returns-in_err-sync-clause-opens : goal.returns-in_err-sync-clause-opens
returns-in_err-sync-clause-opens g c tells = opens_put_sync c.args.layer.now c.args.bytes.now tells c.put_part.ensures.changes c.sync.ensures.settles

pub returns-in_err-put_part-2-clause-opens : goal.returns-in_err-put_part-2-clause-opens
returns-in_err-put_part-2-clause-opens g c tells = opens_gate c.args.layer.now c.args.bytes.now tells c.in_ok-put_part.ensures.changes c.sync.ensures.settles c.put_part-2.ensures.changes

pub returns-clause-opens : goal.returns-clause-opens
returns-clause-opens g c tells = opens_gate_sync c.args.layer.now c.args.bytes.now tells c.in_ok-put_part.ensures.changes c.sync.ensures.settles c.put_part-2.ensures.changes c.sync-2.ensures.settles
