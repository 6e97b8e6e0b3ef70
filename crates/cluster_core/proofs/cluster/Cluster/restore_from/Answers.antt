use Rattle.std.proofs.Common.{subst, ◌≤◌, ◌^◌, ◌+◌, length, arith}
use Rattle.cluster_core.specs.ClusterView.{ClusterState}
use Rattle.cluster_core.proofs.Covers.{own-proper}
use Rattle.cluster_core.proofs.Restored.{not-there}
use Rattle.cluster_core.proofs.Redone.{done-still, room-for}
use Rattle.cluster_core.proofs.Redoing.{done-runs, ended-runs, own, shown-there, stands-there}
use Rattle.cluster_core.proofs.cluster.Cluster.restore_from.Goals as goal

pub read_restore-requires-clause-proper : goal.read_restore-requires-clause-proper
read_restore-requires-clause-proper g c = let s = c.requires.stands.1 in (s.backups.layers c.args.layer.now (own c.args.self.now c.args.database.now c.args.new.now c.args.chain.now c.args.layer.now c.args.times.0 c.args.times.1 c.requires.own c.requires.last)).proper

pub read_restore-requires-clause-layers : goal.read_restore-requires-clause-layers
read_restore-requires-clause-layers g c = let s = c.requires.stands.1 in own-proper c.args.self.now s.tables s.backups c.args.chain.now c.requires.own

pub finish_restore-requires-clause-absent : goal.finish_restore-requires-clause-absent
finish_restore-requires-clause-absent g c = not-there c.args.self.now.schemas _ c.args.new.now _ c.args.times.0 c.in-Ok.ensures.planned.passed

pub finish_restore-requires-clause-room : goal.finish_restore-requires-clause-room
finish_restore-requires-clause-room g c = room-for c.args.self.now c.args.new.now c.args.times.0 _ c.in-Ok.p.plan c.in-Ok.ensures.planned c.in-Ok.p.rows.items c.in-Ok.ensures.tested c.in-Ok.ensures.fits

pub returns-in-Ok-clause-step : goal.returns-in-Ok-clause-step
returns-in-Ok-clause-step g c = λ m to may.
    let covered = c.is_time.ensures in
    let few = subst (λ (x : ClusterState). 100 + length x.schemas.tables ≤ 2 ^ 32) c.self.view_is c.few_tables.ensures in
    let events = subst (λ (x : ClusterState). x.events ≤ 1000000) c.self.view_is (let a = c.self.invariant.room in let b = c.self.invariant.few in omega (arith, a, b)) in
    let v = g.D.Disk.view c.args.disk.now in
    let w = g.D.Disk.view c.read_restore.new.disk in
    let rows = c.in-Ok.ensures.rows _ _ _ may.ready.known.tells (stands-there c.args.self.now c.args.database.now c.args.new.now c.args.chain.now c.args.layer.now c.args.times.0 c.args.times.1 c.requires.own c.requires.last c.requires.made c.requires.published covered few events v w m to may) (shown-there c.args.self.now c.args.database.now c.args.new.now c.args.chain.now c.args.layer.now c.args.times.0 c.args.times.1 c.requires.own c.requires.last c.requires.made c.requires.published covered few events v w m to may) in
    done-runs c.args.self.now c.args.database.now c.args.new.now c.args.chain.now c.args.layer.now c.args.times.0 c.args.times.1 c.requires.own c.requires.last c.requires.made c.requires.published covered few events v w m to may c.in-Ok.p.plan c.in-Ok.ensures.planned c.in-Ok.p.rows.items c.in-Ok.ensures.tested c.requires.time rows.0 c.in-Ok.ensures.passed c.finish_restore.result c.finish_restore.new.self c.finish_restore.ensures.kept c.finish_restore.ensures.rest
    c.in-Ok.p.count c.in-Ok.ensures.count c.finish_restore.ensures.answer c.finish_restore.ensures.fault (g.met.D.Disk.only_now c.args.disk.now) c.in-Ok.ensures.reads

pub returns-in-Ok-clause-stays : goal.returns-in-Ok-clause-stays
returns-in-Ok-clause-stays g c = done-still c.args.self.now c.args.new.now c.args.times.0 c.args.times.1 c.requires.made c.requires.published _ c.in-Ok.p.plan c.in-Ok.ensures.planned c.in-Ok.p.rows.items c.finish_restore.new.self c.finish_restore.result c.requires.time c.in-Ok.ensures.typed c.in-Ok.ensures.tested c.finish_restore.ensures.kept c.finish_restore.ensures.rest c.finish_restore.ensures.fault c.requires.stands

pub returns-in-Err-clause-step : goal.returns-in-Err-clause-step
returns-in-Err-clause-step g c = λ m to may.
    let covered = c.is_time.ensures in
    let few = subst (λ (x : ClusterState). 100 + length x.schemas.tables ≤ 2 ^ 32) c.self.view_is c.few_tables.ensures in
    let events = subst (λ (x : ClusterState). x.events ≤ 1000000) c.self.view_is (let a = c.self.invariant.room in let b = c.self.invariant.few in omega (arith, a, b)) in
    let v = g.D.Disk.view c.args.disk.now in
    let w = g.D.Disk.view c.read_restore.new.disk in
    let rows = c.in-Err.ensures.rows _ _ _ may.ready.known.tells (stands-there c.args.self.now c.args.database.now c.args.new.now c.args.chain.now c.args.layer.now c.args.times.0 c.args.times.1 c.requires.own c.requires.last c.requires.made c.requires.published covered few events v w m to may)
    (shown-there c.args.self.now c.args.database.now c.args.new.now c.args.chain.now c.args.layer.now c.args.times.0 c.args.times.1 c.requires.own c.requires.last c.requires.made c.requires.published covered few events v w m to may) in
    ended-runs c.args.self.now c.args.database.now c.args.new.now c.args.chain.now c.args.layer.now c.args.times.0 c.args.times.1 c.requires.own c.requires.last c.requires.made c.requires.published covered few events v w m to may
    (g.met.D.Disk.only_now c.args.disk.now) c.in-Err.ensures.reads c.in-Err.halt rows.1
