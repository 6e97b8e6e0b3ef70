use Rattle.std.proofs.Common.{◌≡◌, ◌+◌, ◌-◌, ◌∷◌, ◌++◌, [], sym, ap, ◌∙◌, arith, map, length}
use Rattle.std.specs.List.{range_with_len}
use Rattle.std.proofs.lemmas.List.{length-map}
use Rattle.std.proofs.lemmas.List.FromFn.{map-range_with_len_more}
use Rattle.table_rows.specs.RowTables.{bytes_of}
use Rattle.mvcc_keys.specs.Times.{zero_time}
use Rattle.history_model.specs.Histories.{Table}
use Rattle.introduced_spans.specs.Spans.{threshold_of}
use Rattle.layer_objects.specs.Objects.{by_id, rows_of, table_threshold}
use Rattle.cluster_core.proofs.Names.{thresholds-are, told}
use Rattle.cluster_core.proofs.cluster.Cluster.thresholds.Goals as goal

pub loop-table-init : goal.loop-table-init
loop-table-init c tables k = c.new-thresholds.ensures.items

pub loop-table-preserved : goal.loop-table-preserved
loop-table-preserved c tables k =
    let T = by_id zero_time table_threshold tables in
    let le = c.loop-table.auto.table in
    let at : c.threshold-at.result ≡ T c.loop-table.table = c.threshold-at.ensures (bytes_of (rows_of tables)) (rw c.store.ensures (rw (← c.self.view_is) at k.rows.bytes)) in
    let more : c.loop-table.table + 1 - 100 ≡ c.loop-table.table - 100 + 1 = omega (arith, le) in
    let place : 100 + (c.loop-table.table - 100) ≡ c.loop-table.table = omega (arith, le) in
    c.in_ok-push.ensures.items ∙ (ap (λ ts. ts ++ record { table = c.loop-table.table; at = c.threshold-at.result } ∷ []) (c.loop-table.invariant tables k)
    ∙ (ap (λ t. map (told T) (range_with_len 100 (c.loop-table.table - 100)) ++ record { table = c.loop-table.table; at = t } ∷ []) at
    ∙ (sym (map-range_with_len_more (told T) 100 (c.loop-table.table - 100) c.loop-table.table place) ∙ ap (λ n. map (told T) (range_with_len 100 n)) (sym more))))

pub returns-clause-thresholds : goal.returns-clause-thresholds
returns-clause-thresholds c tables k =
    let is = c.loop-table.invariant tables k in
    let count : length c.self.inside.catalog.tables ≡ length tables = ap length (sym (rw (← c.self.view_is) at k.schemas)) ∙ length-map tables (λ (x : Table). x.descriptors) in
    let end = c.next_id-table-end.ensures in
    let low = c.loop-table-test.false in
    let high = c.loop-table.auto.table-end (omega (arith, end)) in
    let n : c.loop-table.table - 100 ≡ length tables = omega (arith, count, end, low, high) in
    ap threshold_of is ∙ (ap (λ m. threshold_of (map (told (by_id zero_time table_threshold tables)) (range_with_len 100 m))) n ∙ thresholds-are tables)

pub returns-clause-few : goal.returns-clause-few
returns-clause-few c = rw (← c.self.view_is) (let e = c.next_id-table-end.ensures in let fits = c.next_id-table-end.type_inv in omega (arith, e, fits))
