use Rattle.std.proofs.Common.{sym}
use Rattle.chunk_file.proofs.HeldLaws.{held-is}
use Rattle.chunk_file.proofs.held.HeldChunk.new.Goals as goal

pub invariant_of-result : goal.invariant_of-result
invariant_of-result c =
    let head = rw c.as_slice.ensures.value at c.in-Ok.ensures in
    rw (held-is c.args.table c.args.kinds.now c.args.bytes.items c.in-Ok.head _ head) (record { bytes = head.spelled.bytes; place = head.place; stored = head.spelled.stored })

pub returns-in-Ok-clause-read : goal.returns-in-Ok-clause-read
returns-in-Ok-clause-read c =
    let head = rw c.as_slice.ensures.value at c.in-Ok.ensures in
    rw (held-is c.args.table c.args.kinds.now c.args.bytes.items c.in-Ok.head _ head) (sym head.read)

pub returns-in-Ok-clause-spelled : goal.returns-in-Ok-clause-spelled
returns-in-Ok-clause-spelled c =
    let head = rw c.as_slice.ensures.value at c.in-Ok.ensures in
    rw (held-is c.args.table c.args.kinds.now c.args.bytes.items c.in-Ok.head _ head) head.spelled
