use Rattle.std.proofs.Common.{arith}
use Rattle.row_codec.proofs.ValueLaws.{bytes_by_index}
use Rattle.layer_manifest.proofs.ManifestLaws.{manifest-format}
use Rattle.layer_manifest.proofs.reading.read_manifest_bytes.Goals as goal

pub returns-in-Ok-clause-proper : goal.returns-in-Ok-clause-proper
returns-in-Ok-clause-proper c = (manifest-format.only c.args.b.now c.in-Ok.m c.in-Ok.rest.now (bytes_by_index c.args.b.now (λ i. omega (arith, c.type_inv.b i))) c.in-Ok.ensures).0
