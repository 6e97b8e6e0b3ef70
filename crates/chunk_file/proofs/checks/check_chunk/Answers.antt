use Rattle.std.proofs.Common.{arith, sym}
use Rattle.row_codec.proofs.ValueLaws.{bytes_by_index}
use Rattle.chunk_file.proofs.ChunkLaws.{is_head}
use Rattle.chunk_file.proofs.checks.check_chunk.Goals as goal

pub returns-in-None : goal.returns-in-None
returns-in-None c =
    is_head c.args.table c.args.kinds.now c.args.b.now c.in-Some.rest.now c.in-Some-take_count.count c.in-Some-take_count.entries.now c.saturating_sub.result
    (bytes_by_index c.args.b.now (λ i. omega (arith, c.type_inv.b i))) (sym c.in-Some.ensures) (sym c.in-Some-take_count.ensures) (sym c.in-None.ensures) c.saturating_sub.ensures
