use Rattle.std.proofs.Common.{sym, ap₂, ◌∙◌, List}
use Rattle.std.specs.List.{list_all}
use Rattle.row_codec.specs.declared.rows.Kind.{Kind}
use Rattle.row_codec.specs.RowKeys.{are_of_kinds}
use Rattle.history_model.specs.Rows.{Key}
use Rattle.table_rows.proofs.RowLaws.{rows-kinds}
use Rattle.table_rows.proofs.rows.TableRows.check_rows.Goals as goal

pub repeated_key-requires : goal.repeated_key-requires
repeated_key-requires g c =
    ap₂ (λ (ks : List Kind) (keys : List Key). list_all (are_of_kinds ks) keys) (c.deref-2.ensures.value ∙ c.in_ok-kinds.ensures) (c.deref-3.ensures.value ∙ c.in_ok-keys.ensures)
    ∙ rows-kinds c.args.d.now c.proper.ensures.key_columns 1 c.args.rows.now (sym c.in_default.ensures)
