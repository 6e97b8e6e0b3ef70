use Rattle.std.proofs.Common.{◌≡◌, ◌∙◌, Some, None, ap, subst}
use Rattle.mvcc_keys.specs.Times.{next, zero_time}
use Rattle.machine_model.specs.Restores.{last_of, restore_database}
use Rattle.cluster_core.specs.ClusterView.{ClusterState}
use Rattle.cluster_core.specs.Restores.{IsFullTwice}
use Rattle.cluster_core.specs.Standing.{Runs}
use Rattle.cluster_core.proofs.BackingUp.{as-returned}
use Rattle.cluster_core.proofs.Covers.{chain-some, own-chain}
use Rattle.cluster_core.proofs.Starting.{chain-runs, chain-steps, full-runs}
use Rattle.cluster_core.proofs.cluster.Cluster.restore_database.Goals as goal

pub returns-in_err-times-clause-step : goal.returns-in_err-times-clause-step
returns-in_err-times-clause-step g c = λ m to may.
    let v = g.D.Disk.view c.args.disk.now in
    as-returned (λ r. Runs c.args.self.now (restore_database m c.args.database.now c.args.source.now c.args.collection.now c.args.at c.args.new_name.now) to r v v) c.from_residual.result c.in_err-times.field-0.0 c.from_residual.ensures.1
    (full-runs c.args.self.now c.args.database.now c.args.source.now c.args.collection.now c.args.at c.args.new_name.now v c.in_err-times.field-0.0 (subst (λ (x : ClusterState). IsFullTwice x.clock c.in_err-times.field-0.0) c.self.view_is c.in_err-times.ensures.full) (g.met.D.Disk.only_now c.args.disk.now) m to may)

pub returns-in_err-chain-clause-step : goal.returns-in_err-chain-clause-step
returns-in_err-chain-clause-step g c = λ m to may.
    let v = g.D.Disk.view c.args.disk.now in
    as-returned (λ r. Runs c.args.self.now (restore_database m c.args.database.now c.args.source.now c.args.collection.now c.args.at c.args.new_name.now) to r v v) c.from_residual-in_err-chain.result c.in_err-chain.field-0.0 c.from_residual-in_err-chain.ensures.1
    (chain-runs c.args.self.now c.args.database.now c.args.source.now c.args.collection.now c.args.at c.args.new_name.now c.in_ok-times.times.0 c.in_ok-times.times.1 (subst (λ (x : ClusterState). next x.clock ≡ Some c.in_ok-times.times.0) c.self.view_is c.in_ok-times.ensures.made) c.in_ok-times.ensures.published
    v c.in_err-chain.field-0.0 c.in_err-chain.ensures.fault (g.met.D.Disk.only_now c.args.disk.now) m to may)

pub restore_from-requires-clause-own : goal.restore_from-requires-clause-own
restore_from-requires-clause-own g c = let s = c.requires.stands.1 in own-chain c.args.self.now s.tables s.backups c.args.source.now c.args.collection.now c.args.at c.in_ok-chain.chain c.in_ok-chain.ensures.chain

pub returns-in-Some-clause-step : goal.returns-in-Some-clause-step
returns-in-Some-clause-step g c = chain-steps c.args.self.now c.args.database.now c.args.source.now c.args.collection.now c.args.at c.args.new_name.now c.in_ok-times.times.0 c.in_ok-times.times.1 (subst (λ (x : ClusterState). next x.clock ≡ Some c.in_ok-times.times.0) c.self.view_is c.in_ok-times.ensures.made) c.in_ok-times.ensures.published
    c.in_ok-chain.chain c.in_ok-chain.ensures.chain c.name_or.result.now c.name_or.ensures (g.D.Disk.view c.args.disk.now) (g.D.Disk.view c.restore_from.new.disk) c.restore_from.new.self c.restore_from.result c.restore_from.ensures.step

pub returns-clause-step : goal.returns-clause-step
returns-clause-step g c =
    let s = c.requires.stands.1 in
    let x = c.in_ok-chain.chain in
    let own = own-chain c.args.self.now s.tables s.backups c.args.source.now c.args.collection.now c.args.at x c.in_ok-chain.ensures.chain in
    let some = chain-some zero_time x.time x.layers.items own.chain in
    absurd (let no : None ≡ Some some.0 = c.in-None.ensures.value ∙ (ap last_of c.deref.ensures.value ∙ some.1) in cc no)
