use Rattle.std.proofs.Common.{◌∙◌, sym, subst}
use Rattle.list_laws.proofs.Members.{has-AllByRecursion}
use Rattle.outside_world.proofs.Runs.{reads_then}
use Rattle.table_rows.proofs.Lists.{has-at}
use Rattle.layer_chains.specs.Chains.{IsShown}
use Rattle.cluster_core.specs.Chains.{IsStandingChain, stored_rows}
use Rattle.cluster_core.proofs.Chosen.{rows-more, typed-more}
use Rattle.cluster_core.proofs.chains.read_tables.Goals as goal

pub returns-in-Err-clause-rows : goal.returns-in-Err-clause-rows
returns-in-Err-clause-rows g c tables scope rs tells s shown =
    let same = (c.loop-d.invariant.0.content tells).objects in
    let has = has-at c.args.chosen.now c.loop-d.d-index c.d-item.result c.loop-d-test.true c.d-item.is in
    c.in-Err.ensures.rows tables scope rs (c.loop-d.invariant.0.kind.tells ∙ tells) (subst (IsStandingChain tables scope rs c.args.chain.now.layers.items c.args.chain.now.time) (sym same) s) (has-AllByRecursion (IsShown tables scope c.args.chain.now.time) c.d-item.result c.args.chosen.now shown has)

pub returns-in-Err-clause-reads : goal.returns-in-Err-clause-reads
returns-in-Err-clause-reads g c = reads_then c.loop-d.invariant.0 c.in-Err.ensures.reads

pub loop-d-preserved : goal.loop-d-preserved
loop-d-preserved g c = (
  reads_then c.loop-d.invariant.0 c.in-Ok.ensures.reads,
  c.in-Ok.ensures.cause.counts ∙ c.loop-d.invariant.1,
  typed-more c.args.chosen.now c.loop-d.d-index c.d-item.result c.loop-d.rows.items c.add_entries.new.rows.items c.in-Ok.entries c.loop-d-test.true c.d-item.is c.in-Ok-add_entries.ensures c.loop-d.invariant.2 c.in-Ok.ensures.typed,
  λ tables scope rs tells s shown.
      let same = (c.loop-d.invariant.0.content tells).objects in
      let has = has-at c.args.chosen.now c.loop-d.d-index c.d-item.result c.loop-d-test.true c.d-item.is in
      let read = c.in-Ok.ensures.rows tables scope rs (c.loop-d.invariant.0.kind.tells ∙ tells) (subst (IsStandingChain tables scope rs c.args.chain.now.layers.items c.args.chain.now.time) (sym same) s) (has-AllByRecursion (IsShown tables scope c.args.chain.now.time) c.d-item.result c.args.chosen.now shown has) in
      rows-more (stored_rows tables c.args.chain.now.time) c.args.chosen.now c.loop-d.d-index c.d-item.result c.loop-d.rows.items c.add_entries.new.rows.items c.in-Ok.entries c.loop-d-test.true c.d-item.is c.in-Ok-add_entries.ensures (c.loop-d.invariant.3 tables scope rs tells s shown) read.0,
)
