use Rattle.std.proofs.Common.{arith, length, sym, ◌-◌}
use Rattle.layer_book.proofs.Joins.{subdirectories_more, subdirectories_none}
use Rattle.layer_book.proofs.listing.add_subdirectories.Goals as goal

pub loop-left-init : goal.loop-left-init
loop-left-init c = (omega arith, sym (subdirectories_none c.args.collection.now c.args.layers.now c.args.list.now.items (length c.args.layers.now) (omega arith)))

pub loop-left-preserved : goal.loop-left-preserved
loop-left-preserved c =
    let more = subdirectories_more c.args.collection.now c.args.layers.now c.args.list.now.items (c.loop-left.left - 1) c.loop-left.left c.index-layers-left.result (omega arith) (omega arith) in
    (omega arith, cc (c.in_ok-add_subdirectory.ensures, c.loop-left.invariant.1))
