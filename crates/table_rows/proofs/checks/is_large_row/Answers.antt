use Rattle.std.proofs.Common.{ap₂, ◌∙◌, List}
use Rattle.row_codec.specs.declared.rows.Kind.{Kind}
use Rattle.row_codec.specs.RowKeys.{are_of_kinds}
use Rattle.history_model.specs.Rows.{Key}
use Rattle.table_rows.proofs.RowLaws.{key-kinds, cells-ascend}
use Rattle.table_rows.proofs.checks.is_large_row.Goals as goal

pub is_large_key-requires : goal.is_large_key-requires
is_large_key-requires c = ap₂ (λ (ks : List Kind) (key : Key). are_of_kinds ks key) c.requires.kinds c.in_ok-key.ensures ∙ key-kinds c.args.d.now c.args.row.now c.proper.ensures.key_columns c.requires.fits

pub is_large_value-requires : goal.is_large_value-requires
is_large_value-requires c = cells-ascend c.args.d.now.key_columns 0 c.args.d.now.columns c.args.row.now c.proper.ensures.columns.ascend
