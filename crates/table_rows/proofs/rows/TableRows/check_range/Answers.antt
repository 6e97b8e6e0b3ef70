use Rattle.std.proofs.Common.{sym, ap, ◌∙◌, List, ◌∷◌, []}
use Rattle.std.specs.List.{list_all}
use Rattle.row_codec.specs.declared.rows.Kind.{Kind}
use Rattle.row_codec.specs.RowKeys.{are_of_kinds}
use Rattle.table_rows.proofs.KeySizes.{right-keys}
use Rattle.table_rows.proofs.rows.TableRows.check_range.Goals as goal

pub large_key-requires : goal.large_key-requires
large_key-requires g c =
    ap (λ (ks : List Kind). list_all (are_of_kinds ks) (c.in_ok-copy.field-0 ∷ c.in_ok-copy-2.field-0 ∷ [])) (c.deref-2.ensures.value ∙ sym c.deref.ensures.value)
    ∙ right-keys c.deref.result.now 1 (c.in_ok-copy.field-0 ∷ c.in_ok-copy-2.field-0 ∷ []) (sym c.in_default.ensures)
