use Rattle.std.proofs.Common.{◌≡◌, ◌≤◌, ◌∙◌, sym, length, map, arith}
use Rattle.chain_resolver.specs.Tasks.{route_of}
use Rattle.chain_resolver.specs.Steps.{can}
use Rattle.chain_resolver.proofs.Choices.{rows-more, row-known, start-now, length-now, none-more, found, no-way, route-IsByEnd}
use Rattle.chain_resolver.proofs.search.best_way.Goals as goal

pub walk-requires-clause-start : goal.walk-requires-clause-start
walk-requires-clause-start c =
    let row : c.in_ok-row.row ≡ map (can (route_of c.args.task.now) c.args.layers.now (length c.rows.rows.items)) c.args.layers.now = row-known (route_of c.args.task.now) c.args.layers.now c.rows.rows.items c.as_slice.result.now c.in_ok-row.row c.as_slice.ensures.value c.in_ok-row.ensures in
    start-now (route_of c.args.task.now) c.args.layers.now c.rows.rows.items c.put_row.new.rows.items c.as_slice-then-starts.result.now c.in_ok-row.row c.in_ok-put_row.ensures c.as_slice-then-starts.ensures.value (sym (c.can_start-starts.ensures (length c.rows.rows.items) (c.as_slice-in-rows.ensures ∙ row)) ∙ c.if-starts.true)

pub returns-then-starts : goal.returns-then-starts
returns-then-starts c = found (route_of c.args.task.now) c.args.layers.now (length c.rows.rows.items) c.in_ok-places.places.items (route-IsByEnd c.args.task.now) c.in_ok-places.ensures.0 (length-now c.rows.rows.items c.put_row.new.rows.items c.as_slice-then-starts.result.now c.in_ok-row.row (length c.in_ok-places.places.items) c.in_ok-put_row.ensures c.as_slice-then-starts.ensures.value c.in_ok-places.ensures.1) c.rows.invariant.none

pub rows-preserved : goal.rows-preserved
rows-preserved c =
    let row : c.in_ok-row.row ≡ map (can (route_of c.args.task.now) c.args.layers.now (length c.rows.rows.items)) c.args.layers.now = row-known (route_of c.args.task.now) c.args.layers.now c.rows.rows.items c.as_slice.result.now c.in_ok-row.row c.as_slice.ensures.value c.in_ok-row.ensures in
    record {
      kept = rows-more (route_of c.args.task.now) c.args.layers.now c.rows.rows.items c.put_row.new.rows.items c.in_ok-row.row c.rows.invariant.kept row c.in_ok-put_row.ensures;
      none = none-more (route_of c.args.task.now) c.args.layers.now c.rows.rows.items c.put_row.new.rows.items c.in_ok-row.row c.in_ok-put_row.ensures c.rows.invariant.none (sym (c.can_start-starts.ensures (length c.rows.rows.items) (c.as_slice-in-rows.ensures ∙ row)) ∙ c.if-starts.false);
    }

pub returns : goal.returns
returns c =
    let full : length c.args.layers.now ≤ length c.rows.rows.items = omega arith in
    no-way (route_of c.args.task.now) c.args.layers.now (length c.rows.rows.items) c.requires full c.rows.invariant.none
