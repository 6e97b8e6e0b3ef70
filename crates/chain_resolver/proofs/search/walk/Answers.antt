use Rattle.std.proofs.Common.{◌≡◌, ◌<◌, ◌-◌, suc, length, map, arith}
use Rattle.chain_resolver.specs.Tasks.{route_of}
use Rattle.chain_resolver.specs.Steps.{can}
use Rattle.chain_resolver.proofs.Choices.{longer, row-at, walk-stuck, walk-starts, walk-step}
use Rattle.chain_resolver.proofs.search.walk.Goals as goal

pub unreachable-requires : goal.unreachable-requires
unreachable-requires c =
    let left : c.loop-left.left ≡ suc (c.loop-left.left - 1) = omega arith in
    let inside : c.loop-left.left - 1 < length c.args.rows.now = omega arith in
    let row : c.as_slice.result.now ≡ map (can (route_of c.args.task.now) c.args.layers.now (c.loop-left.left - 1)) c.args.layers.now = row-at (route_of c.args.task.now) c.args.layers.now c.args.rows.now (c.loop-left.left - 1) c.index-rows-left.result c.as_slice.result.now c.requires.rows inside c.index-rows-left.is c.as_slice.ensures in
    walk-stuck (route_of c.args.task.now) c.args.layers.now c.as_slice.result.now c.loop-left.before (c.loop-left.left - 1) row c.loop-left.left left c.loop-left.invariant.starts c.in_default.ensures

pub loop-left-preserved : goal.loop-left-preserved
loop-left-preserved c =
    let left : c.loop-left.left ≡ suc (c.loop-left.left - 1) = omega arith in
    let inside : c.loop-left.left - 1 < length c.args.rows.now = omega arith in
    let row : c.as_slice.result.now ≡ map (can (route_of c.args.task.now) c.args.layers.now (c.loop-left.left - 1)) c.args.layers.now = row-at (route_of c.args.task.now) c.args.layers.now c.args.rows.now (c.loop-left.left - 1) c.index-rows-left.result c.as_slice.result.now c.requires.rows inside c.index-rows-left.is c.as_slice.ensures in
    record {
      number = longer c.loop-left.places.items c.put_place.new.places.items c.in-Some.place c.loop-left.left (length c.args.rows.now) c.in_ok-put_place.ensures c.loop-left-test.true c.loop-left.invariant.number;
      starts = walk-starts (route_of c.args.task.now) c.args.layers.now c.as_slice.result.now c.loop-left.before (c.loop-left.left - 1) row c.in-Some.place c.in-Some.layer c.in-Some.ensures;
      so_far = walk-step (route_of c.args.task.now) c.args.layers.now c.as_slice.result.now c.loop-left.before (c.loop-left.left - 1) row c.loop-left.left left c.loop-left.places.items c.put_place.new.places.items c.in-Some.place c.in-Some.layer c.in_ok-put_place.ensures c.in-Some.ensures c.loop-left.invariant.so_far;
    }
