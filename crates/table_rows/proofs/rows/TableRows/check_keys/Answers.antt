use Rattle.std.proofs.Common.{sym, ap, ◌∙◌, List}
use Rattle.std.specs.List.{list_all}
use Rattle.row_codec.specs.declared.rows.Kind.{Kind}
use Rattle.row_codec.specs.RowKeys.{are_of_kinds}
use Rattle.table_rows.proofs.KeySizes.{right-keys}
use Rattle.table_rows.proofs.rows.TableRows.check_keys.Goals as goal

pub large_key-requires : goal.large_key-requires
large_key-requires g c =
    ap (λ (ks : List Kind). list_all (are_of_kinds ks) c.args.keys.now) (c.deref-2.ensures.value ∙ sym c.deref.ensures.value) ∙ right-keys c.deref.result.now 1 c.args.keys.now (sym c.in_default.ensures)

pub repeated_key-requires : goal.repeated_key-requires
repeated_key-requires g c =
    ap (λ (ks : List Kind). list_all (are_of_kinds ks) c.args.keys.now) (c.deref-3.ensures.value ∙ sym c.deref.ensures.value) ∙ right-keys c.deref.result.now 1 c.args.keys.now (sym c.in_default.ensures)
