use Rattle.std.proofs.Common.{rules}
use Rattle.key_encoding.proofs.Spellings.{short, long, low_digits}
use Rattle.key_encoding.proofs.numbers.put_uvarint.Goals as goal

pub returns-then-v-lt110-clause-ok : goal.returns-then-v-lt110-clause-ok
returns-then-v-lt110-clause-ok c = rw (short c.args.v c.if-v-lt110.true) (search rules)

pub returns-clause-ok : goal.returns-clause-ok
returns-clause-ok c =
    let count = c.byte_count-count.ensures in
    let low = low_digits c.byte_count-count.result c.args.v c.to_be_bytes.result count.most c.to_be_bytes.ensures in
    rw (long c.args.v c.byte_count-count.result c.if-v-lt110.false count.count, ← low) c.put_digits.ensures.ok
