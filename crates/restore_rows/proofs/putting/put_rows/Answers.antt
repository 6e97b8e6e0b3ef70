use Rattle.std.proofs.Common.{List, sym, subst}
use Rattle.std.specs.List.{AllByRecursion}
use Rattle.mvcc_keys.specs.declared.entries.Entry.{Entry}
use Rattle.list_laws.proofs.Members.{has-AllByRecursion}
use Rattle.table_rows.proofs.Lists.{has-at}
use Rattle.restore_rows.specs.Putting.{IsMapped}
use Rattle.restore_rows.proofs.Renewed.{MayPut, all-mapped, all-put, front-put, next-put, none-put}
use Rattle.restore_rows.proofs.putting.put_rows.Goals as goal

pub loop-entry-init : goal.loop-entry-init
loop-entry-init g c T old new items may has = none-put T c.args.ids.now c.args.entries.now c.args.at old new items may _ has

pub loop-entry-preserved : goal.loop-entry-preserved
loop-entry-preserved g c T old new items may has =
    next-put T c.args.ids.now c.args.entries.now c.args.at old new items may _ _ c.loop-entry.entry-index c.entry-item.result c.loop-entry-test.true c.entry-item.is c.in-Ok.ensures.added (c.loop-entry.invariant T old new items may has)

pub returns-in-Err-clause-part : goal.returns-in-Err-clause-part
returns-in-Err-clause-part g c T old new items has stored old_small new_small mapped none late good =
    let may : MayPut T c.args.ids.now c.args.entries.now c.args.at old new items = record { stored = stored; old_small = old_small; new_small = new_small; mapped = mapped; none = none; late = late; good = good } in
    front-put T c.args.ids.now c.args.entries.now c.args.at old new items may _ c.loop-entry.entry-index (c.in-Err.ensures.kept _ (c.loop-entry.invariant T old new items may has))

pub returns-in-Err-clause-sound : goal.returns-in-Err-clause-sound
returns-in-Err-clause-sound g c kinds old new items stored small mapped =
    let all = subst (λ (es : List Entry). AllByRecursion (IsMapped c.args.ids.now) es) (sym stored) (all-mapped c.args.ids.now kinds old new items small mapped) in
    c.in-Err.ensures.unmapped (has-AllByRecursion (IsMapped c.args.ids.now) c.entry-item.result c.args.entries.now all (has-at c.args.entries.now c.loop-entry.entry-index c.entry-item.result c.loop-entry-test.true c.entry-item.is))

pub returns-clause-added : goal.returns-clause-added
returns-clause-added g c T old new items has stored old_small new_small mapped none late good =
    let may : MayPut T c.args.ids.now c.args.entries.now c.args.at old new items = record { stored = stored; old_small = old_small; new_small = new_small; mapped = mapped; none = none; late = late; good = good } in
    all-put T c.args.ids.now c.args.entries.now c.args.at old new items may _ c.loop-entry.entry-index c.loop-entry-test.false (c.loop-entry.invariant T old new items may has)
