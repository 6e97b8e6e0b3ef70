use Rattle.std.proofs.Common.{[], arith, rules}
use Rattle.table_descriptors.specs.Fields.{read_items}
use Rattle.layer_manifest.specs.ManifestFiles.{read_next_descriptor}
use Rattle.layer_manifest.proofs.Steps.{read_step}
use Rattle.layer_manifest.proofs.tables.take_each_descriptor.Goals as goal

pub descriptors-preserved : goal.descriptors-preserved
descriptors-preserved c =
    let one = read_next_descriptor c.args.id in
    read_step one c.descriptors.wanted c.descriptors.descriptors.items c.keep.new.items.items c.descriptors.left.now c.in_ok-d.rest.now c.in_ok-d.d (read_items one c.args.count [] c.args.b.now)
    (omega (arith, c.descriptors-test.true)) (search rules) (search rules) c.descriptors.invariant
