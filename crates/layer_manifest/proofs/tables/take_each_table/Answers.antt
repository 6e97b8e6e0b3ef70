use Rattle.std.proofs.Common.{◌≡◌, [], ◌++◌, ◌∷◌, arith, refl, rules}
use Rattle.table_descriptors.specs.Fields.{read_items}
use Rattle.layer_manifest.specs.ManifestFiles.{read_table}
use Rattle.layer_manifest.proofs.Steps.{read_step, chunks_more}
use Rattle.layer_manifest.proofs.tables.take_each_table.Goals as goal

pub tables-preserved : goal.tables-preserved
tables-preserved c =
    let tables = c.tables.tables.items in
    let table = c.in_ok-table.table in
    let pushed : c.keep.new.items.items ≡ tables ++ table ∷ [] = search rules in
    record {
      read = read_step (read_table c.args.version) c.tables.wanted tables c.keep.new.items.items c.tables.left.now c.in_ok-table.rest.now table
          (read_items (read_table c.args.version) c.args.count [] c.args.b.now) (omega (arith, c.tables-test.true)) (search rules) pushed c.tables.invariant.read;
      counted = rw (pushed, c.as_slice-in-tables.ensures, chunks_more tables table, c.tables.invariant.counted) refl;
      few = rw c.as_slice-in-tables.ensures c.in_ok-table.ensures.few;
    }
