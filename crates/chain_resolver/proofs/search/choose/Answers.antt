use Rattle.std.proofs.Common.{◌<◌, length, arith, refl, false}
use Rattle.std.proofs.lemmas.Option.{slice_get_read, slice_get-get_or}
use Rattle.chain_resolver.specs.Tasks.{route_of}
use Rattle.chain_resolver.proofs.Choices.{best-step}
use Rattle.chain_resolver.proofs.search.choose.Goals as goal

pub loop-i-preserved : goal.loop-i-preserved
loop-i-preserved c =
    let inside : c.loop-i.i < length c.args.row.now = omega arith in
    best-step (route_of c.args.task.now) c.args.layers.now c.args.row.now c.args.before.now c.loop-i.i c.loop-i.best c.take_if-best.result c.index-layers-i.result _ c.follows-fits.result c.loop-i.invariant
    (slice_get_read c.args.layers.now (length c.args.layers.now) c.loop-i.i c.index-layers-i.result refl c.loop-i-test.true c.index-layers-i.is)
    (slice_get-get_or c.args.row.now c.loop-i.i false inside)
    c.follows-fits.ensures c.take_if-best.ensures
