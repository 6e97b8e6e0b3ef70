use Rattle.std.proofs.Common.{◌-◌, ◌^◌}
use Rattle.key_encoding.proofs.Spellings.{below_zero, low_digits}
use Rattle.key_encoding.proofs.numbers.put_negative.Goals as goal

pub returns-clause-ok : goal.returns-clause-ok
returns-clause-ok c =
    let count = c.byte_count-count.ensures in
    let low = low_digits c.byte_count-count.result (2 ^ 64 - 1 - c.args.k) c.to_be_bytes.result count.most c.to_be_bytes.ensures in
    rw (below_zero c.args.k c.byte_count-count.result count.count, ← low) c.put_digits.ensures.ok
