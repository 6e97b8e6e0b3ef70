use Rattle.std.proofs.Common.{◌∙◌, inl, refl}
use Rattle.layer_manifest.specs.ManifestFiles.{manifest_code}
use Rattle.outside_world.proofs.Runs.{only_none, only_read, only_then}
use Rattle.collection_dir.proofs.AfterRead.{kept_before, read_kept, read_then}
use Rattle.collection_dir.proofs.OpenGate.{may_finish_of, opens_nothing, opens_read, opens_same, still_shut, whole_already}
use Rattle.collection_dir.proofs.finishing.finish_layer.Goals as goal

pub returns-in_err-bytes-clause-layer : goal.returns-in_err-bytes-clause-layer
returns-in_err-bytes-clause-layer g c w older may = (kept_before may.may (g.met.D.Disk.only_now c.args.disk.now)).so_far

pub returns-in_err-is_finished-clause-layer : goal.returns-in_err-is_finished-clause-layer
returns-in_err-is_finished-clause-layer g c w older may = read_kept may.may c.is_finished.ensures.reads (g.met.D.Disk.only_now c.args.disk.now)

pub returns-then-branch-clause-layer : goal.returns-then-branch-clause-layer
returns-then-branch-clause-layer g c w older may = read_kept may.may c.is_finished.ensures.reads (g.met.D.Disk.only_now c.args.disk.now)

pub returns-then-branch-clause-whole : goal.returns-then-branch-clause-whole
returns-then-branch-clause-whole g c w older may =
    whole_already w older _ _ _ may c.is_finished.ensures.reads ((c.in_ok-is_finished.ensures.open may.may.known.tells).0 c.if-branch.true)

pub returns-in_err-bytes-clause-changes : goal.returns-in_err-bytes-clause-changes
returns-in_err-bytes-clause-changes g c = only_none _

pub returns-in_err-is_finished-clause-changes : goal.returns-in_err-is_finished-clause-changes
returns-in_err-is_finished-clause-changes g c = only_read c.is_finished.ensures.reads

pub returns-then-branch-clause-changes : goal.returns-then-branch-clause-changes
returns-then-branch-clause-changes g c = only_read c.is_finished.ensures.reads

pub returns-in_err-open_gate-clause-changes : goal.returns-in_err-open_gate-clause-changes
returns-in_err-open_gate-clause-changes g c = only_then (only_read c.is_finished.ensures.reads) c.open_gate.ensures.changes

pub returns-clause-changes : goal.returns-clause-changes
returns-clause-changes g c = only_then (only_read c.is_finished.ensures.reads) c.open_gate.ensures.changes

pub returns-in_err-open_gate-clause-layer : goal.returns-in_err-open_gate-clause-layer
returns-in_err-open_gate-clause-layer g c w older may =
    let tells = may.may.known.tells in
    let reads = c.is_finished.ensures.reads in
    let shut = still_shut c.args.layer.now _ _ (c.in_ok-is_finished.ensures.open tells) c.if-branch.false (reads.content tells).objects in
    read_then may.may reads (g.met.D.Disk.only_now c.args.disk.now) (c.open_gate.ensures.layer w older (may_finish_of w older _ _ _ _ _ may reads (c.deref-2.ensures.value ∙ c.in_ok-bytes.ensures)) shut)

pub returns-clause-layer : goal.returns-clause-layer
returns-clause-layer g c w older may =
    let tells = may.may.known.tells in
    let reads = c.is_finished.ensures.reads in
    let shut = still_shut c.args.layer.now _ _ (c.in_ok-is_finished.ensures.open tells) c.if-branch.false (reads.content tells).objects in
    read_then may.may reads (g.met.D.Disk.only_now c.args.disk.now) (c.open_gate.ensures.layer w older (may_finish_of w older _ _ _ _ _ may reads (c.deref-2.ensures.value ∙ c.in_ok-bytes.ensures)) shut)

pub returns-clause-whole : goal.returns-clause-whole
returns-clause-whole g c w older may image now =
    let tells = may.may.known.tells in
    let reads = c.is_finished.ensures.reads in
    let shut = still_shut c.args.layer.now _ _ (c.in_ok-is_finished.ensures.open tells) c.if-branch.false (reads.content tells).objects in
    inl (c.in_ok-open_gate.ensures.whole w older (may_finish_of w older _ _ _ _ _ may reads (c.deref-2.ensures.value ∙ c.in_ok-bytes.ensures)) shut image now)

pub returns-then-branch-clause-fresh : goal.returns-then-branch-clause-fresh
returns-then-branch-clause-fresh g c w older may shut = absurd (shut ((c.in_ok-is_finished.ensures.open may.may.known.tells).0 c.if-branch.true))

pub returns-clause-fresh : goal.returns-clause-fresh
returns-clause-fresh g c w older may was =
    let tells = may.may.known.tells in
    let reads = c.is_finished.ensures.reads in
    let shut = still_shut c.args.layer.now _ _ (c.in_ok-is_finished.ensures.open tells) c.if-branch.false (reads.content tells).objects in
    c.in_ok-open_gate.ensures.whole w older (may_finish_of w older _ _ _ _ _ may reads (c.deref-2.ensures.value ∙ c.in_ok-bytes.ensures)) shut

pub returns-in_err-bytes-clause-opens : goal.returns-in_err-bytes-clause-opens
returns-in_err-bytes-clause-opens g c tells = opens_same c.args.layer.now (manifest_code c.args.m.now) _ _ refl

pub returns-in_err-is_finished-clause-opens : goal.returns-in_err-is_finished-clause-opens
returns-in_err-is_finished-clause-opens g c tells = opens_nothing c.args.layer.now (manifest_code c.args.m.now) c.is_finished.ensures.reads tells

pub returns-then-branch-clause-opens : goal.returns-then-branch-clause-opens
returns-then-branch-clause-opens g c tells = opens_nothing c.args.layer.now (manifest_code c.args.m.now) c.is_finished.ensures.reads tells

pub returns-in_err-open_gate-clause-opens : goal.returns-in_err-open_gate-clause-opens
returns-in_err-open_gate-clause-opens g c tells = opens_read c.args.layer.now _ _ (g.D.Disk.view c.open_gate.new.disk).objects c.is_finished.ensures.reads tells (c.deref-2.ensures.value ∙ c.in_ok-bytes.ensures) (c.open_gate.ensures.opens (c.is_finished.ensures.reads.kind.tells ∙ tells))

pub returns-clause-opens : goal.returns-clause-opens
returns-clause-opens g c tells = opens_read c.args.layer.now _ _ (g.D.Disk.view c.open_gate.new.disk).objects c.is_finished.ensures.reads tells (c.deref-2.ensures.value ∙ c.in_ok-bytes.ensures) (c.open_gate.ensures.opens (c.is_finished.ensures.reads.kind.tells ∙ tells))
