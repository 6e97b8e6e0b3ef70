use Rattle.std.proofs.Common.{◌≡◌, sym, ap, ap₂, ◌∙◌, subst, List, ℕ, ◌<◌, ◌^◌, true, arith}
use Rattle.std.proofs.lemmas.Result.{on_ok_weaker}
use Rattle.row_codec.specs.declared.rows.Kind.{Kind}
use Rattle.row_codec.specs.declared.rows.Cell.{Cell}
use Rattle.row_codec.specs.RowKeys.{row_key, are_of_kinds, IsKey}
use Rattle.row_codec.specs.RowValues.{are_cells, row_value}
use Rattle.table_descriptors.specs.Descriptors.{key_kinds}
use Rattle.history_model.specs.Rows.{Key, key_of, cells_in}
use Rattle.std.specs.List.{AllByRecursion}
use Rattle.row_codec.specs.RowKeys.{IsValue}
use Rattle.row_codec.specs.RowValues.{IsCell}
use Rattle.table_rows.specs.RowTables.{IsCells}
use Rattle.table_rows.proofs.RowLaws.{key-kinds, cells-ascend}
use Rattle.table_rows.proofs.rows.TableRows.put_row.Goals as goal

pub key_bytes-requires : goal.key_bytes-requires
key_bytes-requires g c = ap₂ (λ (ks : List Kind) (key : Key). are_of_kinds ks key) c.requires.kinds c.in_ok-key.ensures ∙ key-kinds c.args.d.now c.args.row.now c.proper.ensures.key_columns c.requires.fits

pub value_bytes-requires : goal.value_bytes-requires
value_bytes-requires g c = ap (λ (cells : List Cell). are_cells 0 cells) (c.deref-2.ensures.value ∙ c.in_ok-cells.ensures) ∙ cells-ascend c.args.d.now.key_columns 0 c.args.d.now.columns c.args.row.now c.proper.ensures.columns.ascend

pub returns-clause-added : goal.returns-clause-added
returns-clause-added g c = on_ok_weaker c.put_stored.result (λ put T has kinds may.
    let d = c.args.d.now in
    let row = c.args.row.now in
    let small : d.id < 2 ^ 32 = omega (arith, c.id.type_inv, c.id.ensures) in
    let fit : are_of_kinds (key_kinds d) (key_of d row) ≡ true = key-kinds d row c.proper.ensures.key_columns c.requires.fits in
    let is : IsKey (T.kinds d.id) (key_of d row) = subst (λ (ks : List Kind). IsKey ks (key_of d row)) (sym kinds) (fit, subst (λ (key : Key). AllByRecursion IsValue key) c.in_ok-key.ensures c.prove_values_fit.ensures) in
    let cells : IsCells (cells_in d.key_columns d.columns row) = (cells-ascend d.key_columns 0 d.columns row c.proper.ensures.columns.ascend, subst (λ (cs : List Cell). AllByRecursion IsCell cs) (c.deref.ensures.value ∙ c.in_ok-cells.ensures) c.prove_cells_fit.ensures) in
    put T d.id (key_of d row) (cells_in d.key_columns d.columns row) has small
    (c.deref-3.ensures.value ∙ (c.in_ok-key-2.ensures ∙ (ap (λ (ks : List Kind). row_key c.id.result ks c.in_ok-key.key) (c.requires.kinds ∙ sym kinds) ∙ ap₂ (λ (i : ℕ) (key : Key). row_key i (T.kinds d.id) key) c.id.ensures c.in_ok-key.ensures))) is
    (c.deref-4.ensures.value ∙ (c.in_ok-value.ensures ∙ ap row_value (c.deref-2.ensures.value ∙ c.in_ok-cells.ensures))) cells (may is)) c.put_stored.ensures.added
