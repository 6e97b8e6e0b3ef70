use Rattle.std.proofs.Common.{◌∙◌, ◌∷◌, List, sym, subst}
use Rattle.std.specs.Global.{Vec}
use Rattle.mvcc_keys.specs.declared.entries.Entry.{Entry}
use Rattle.table_descriptors.specs.Descriptors.{Schema}
use Rattle.cluster_core.specs.Restoring.{entries_of}
use Rattle.cluster_core.proofs.Restored.{IsAmid, amid-next, amid-kept, amid-rest}
use Rattle.cluster_core.proofs.cluster.Cluster.add_tables.Goals as goal

pub loop-d-preserved : goal.loop-d-preserved
loop-d-preserved c =
    let a = c.args in
    let all = c.into_iter-d-iterator.result.rest.items in
    let left = c.in-Some.d ∷ c.next.new.self.rest.items in
    let w = subst (λ (ss : List Schema). IsAmid a.self.now c.loop-d.self a.ids.now a.made a.published all ss (entries_of a.rows.now) (entries_of c.loop-d.rest.now)) c.in-Some.ensures.steps.0 c.loop-d.invariant in
    let split = subst (λ (vs : List (Vec Entry)). IsAmid a.self.now c.loop-d.self a.ids.now a.made a.published all left (entries_of a.rows.now) (entries_of vs)) c.in-Some-split_first.ensures.cases.0 w in
    let first = subst (λ (es : List Entry). IsAmid a.self.now c.loop-d.self a.ids.now a.made a.published all left (entries_of a.rows.now) (es ∷ entries_of c.in-Some-split_first.others.now)) (sym c.as_slice.ensures.value) split in
    amid-next a.self.now c.loop-d.self a.ids.now a.made a.published all (entries_of a.rows.now) c.add_table.new.self c.in-Some.d _ c.as_slice.result.now _ first c.in-Ok.ensures.added c.in-Ok.ensures.tables c.in-Ok.ensures.rest

pub returns-clause-added : goal.returns-clause-added
returns-clause-added c tables from =
    amid-kept c.args.self.now c.loop-d.self c.args.ids.now c.args.made c.args.published _ (entries_of c.args.rows.now) c.loop-d.d-iterator.rest.items _ (sym c.loop-d.d-iterator.rest.ok.0 ∙ c.in-None.ensures.steps.0) c.loop-d.invariant tables
    (rw c.into_iter-d-iterator.ensures.into_iter_gives.0 from)

pub returns-clause-rest : goal.returns-clause-rest
returns-clause-rest c =
    amid-rest c.args.self.now c.loop-d.self c.args.ids.now c.args.made c.args.published _ (entries_of c.args.rows.now) c.loop-d.d-iterator.rest.items _ (sym c.loop-d.d-iterator.rest.ok.0 ∙ c.in-None.ensures.steps.0) c.loop-d.invariant
