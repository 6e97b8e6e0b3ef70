use Rattle.std.proofs.Common.{refl}
use Rattle.outside_world.proofs.Runs.{only_remove, only_sync, only_then}
use Rattle.collection_dir.proofs.Removal.{after_gate, after_sync, begun, shut_on_ok}
use Rattle.collection_dir.proofs.forgetting.shut_gate.Goals as goal

pub returns-in_err-remove_part-clause-layer : goal.returns-in_err-remove_part-clause-layer
returns-in_err-remove_part-clause-layer g c w older chunks may =
    let run0 = begun w older _ chunks _ may (g.met.D.Disk.only_now c.args.disk.now) in
    (after_gate w older _ chunks _ may run0 c.remove_part.ensures.changes).so_far

pub returns-clause-layer : goal.returns-clause-layer
returns-clause-layer g c w older chunks may =
    let run0 = begun w older _ chunks _ may (g.met.D.Disk.only_now c.args.disk.now) in
    let run1 = after_gate w older _ chunks _ may run0 c.remove_part.ensures.changes in
    (after_sync w older _ chunks _ may run1 c.sync.ensures.settles).so_far

pub returns-clause-next : goal.returns-clause-next
returns-clause-next g c w older chunks may =
    let run0 = begun w older _ chunks _ may (g.met.D.Disk.only_now c.args.disk.now) in
    let run1 = after_gate w older _ chunks _ may run0 c.remove_part.ensures.changes in
    shut_on_ok w older _ chunks _ may may.may.known.tells run1 c.in_ok-remove_part.ensures.changes c.sync.result c.sync.ensures.settles

pub returns-in_err-remove_part-clause-changes : goal.returns-in_err-remove_part-clause-changes
returns-in_err-remove_part-clause-changes g c = only_remove refl c.remove_part.ensures.changes

pub returns-clause-changes : goal.returns-clause-changes
returns-clause-changes g c = only_then (only_remove refl c.remove_part.ensures.changes) (only_sync c.sync.ensures.settles)
