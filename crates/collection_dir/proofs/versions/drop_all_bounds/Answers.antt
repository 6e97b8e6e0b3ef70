use Rattle.std.proofs.Common.{◌∙◌, ap, slice_set, sym}
use Rattle.std.proofs.lemmas.List.Edits.{map_over_more}
use Rattle.layer_manifest.specs.declared.manifest.TablePart.{TablePart}
use Rattle.collection_dir.specs.Versions.{first_table}
use Rattle.collection_dir.proofs.versions.drop_all_bounds.Goals as goal

pub loop-table-preserved : goal.loop-table-preserved
loop-table-preserved c = ap (λ (x : TablePart). slice_set c.loop-table.tables c.loop-table.table-index x) c.drop_table_bounds.ensures ∙ ap (λ (x : TablePart). slice_set c.loop-table.tables c.loop-table.table-index (first_table x)) (sym c.table-item.is) ∙ map_over_more first_table c.args.tables.now c.loop-table.tables c.loop-table.table-index c.table-item.result c.loop-table-test.true c.loop-table.invariant c.table-item.is
