use Rattle.std.proofs.Common.{arith, length, sym}
use Rattle.layer_book.proofs.Joins.{layers_none}
use Rattle.layer_book.proofs.listing.add_layers.Goals as goal

pub loop-left-init : goal.loop-left-init
loop-left-init c = (omega arith, sym (layers_none c.args.collection.now c.args.cluster.now c.args.full c.args.layers.now c.args.list.now.items (length c.args.layers.now) (omega arith)))
