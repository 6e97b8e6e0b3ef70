use Rattle.std.proofs.Common.{◌≡◌, sym, ap, ◌∙◌, List, ◌<◌, ◌^◌, ℕ, true, false, arith}
use Rattle.std.specs.List.{filter_map}
use Rattle.mvcc_keys.specs.Times.{Time, time_lt, time_le}
use Rattle.row_codec.specs.declared.rows.Kind.{Kind}
use Rattle.mvcc_keys.proofs.TimeOrder.{not_lt-le}
use Rattle.version_store.specs.Tables.{scan_at}
use Rattle.table_rows.specs.RowTables.{bytes_of}
use Rattle.table_rows.specs.Checks.{row_in}
use Rattle.table_rows.proofs.Shown.{scan-shown}
use Rattle.table_rows.proofs.rows.TableRows.select.Goals as goal

pub returns : goal.returns
returns g c = rw (← c.self.view_is) (λ T has kinds.
    let d = c.args.d.now in
    let before : time_lt c.args.t (T.threshold d.id) ≡ false = ap (λ (h : Time). time_lt c.args.t h) (sym (c.threshold-threshold.ensures (bytes_of T) has.bytes ∙ ap T.threshold c.id.ensures)) ∙ (sym c.is_before.ensures ∙ c.if-is_before.false) in
    let small : d.id < 2 ^ 32 = omega (arith, c.id.type_inv, c.id.ensures) in
    let reached : time_le (T.threshold c.id-2.result) c.args.t ≡ true = ap (λ (i : ℕ). time_le (T.threshold i) c.args.t) c.id-2.ensures ∙ not_lt-le c.args.t (T.threshold d.id) before in
    let seen = c.in_ok-seen.ensures (bytes_of T) has.bytes reached ∙ ap (λ (i : ℕ). scan_at (bytes_of T) i c.args.t) c.id-2.ensures in (
      before,
      c.in_ok-rows_in.ensures
          ∙ (ap (λ (ks : List Kind). filter_map (row_in d ks) c.deref-2.result.now) (c.deref.ensures.value ∙ c.in_ok-kinds.ensures)
          ∙ scan-shown T d c.args.t c.deref-2.result.now small kinds (has.rows d.id) (c.deref-2.ensures.value ∙ seen)),
    ))
