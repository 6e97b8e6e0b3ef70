use Rattle.schema_catalog.specs.Catalogs.{next_id}
use Rattle.id_remap.proofs.Order.{in_order}
use Rattle.id_remap.proofs.remapping.remap.Goals as goal

pub returns-clause-in_order : goal.returns-clause-in_order
returns-clause-in_order c =
    let is = rw (c.next_id.ensures, c.deref-2.ensures.value) at c.in_ok-ids.ensures in
    in_order (next_id c.args.catalog.now) c.args.target.now c.args.at c.in_ok-old.old.items c.in_ok-ids.ids c.args.chosen.now c.in_ok-made.made.items c.requires c.in_ok-old.ensures is c.in_ok-made.ensures
