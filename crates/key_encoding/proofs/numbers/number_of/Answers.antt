use Rattle.std.proofs.Common.{◌<◌, arith}
use Rattle.key_encoding.proofs.NumberOf.{step_fits, step_number, word_fits}
use Rattle.key_encoding.proofs.numbers.number_of.Goals as goal

pub overflow_mul-v : goal.overflow_mul-v
overflow_mul-v c =
    omega (arith, step_fits c.loop-digit.v c.loop-digit.digit-index 0 c.loop-digit.invariant.0 (omega arith), word_fits c.loop-digit.digit-index (omega arith))

pub overflow_add-v : goal.overflow_add-v
overflow_add-v c =
    let byte : c.from.result < 256 = omega (arith, c.from.ensures, c.type_inv.digits c.loop-digit.digit-index) in
    omega (arith, step_fits c.loop-digit.v c.loop-digit.digit-index c.from.result c.loop-digit.invariant.0 byte, word_fits c.loop-digit.digit-index (omega arith))

pub loop-digit-preserved : goal.loop-digit-preserved
loop-digit-preserved c =
    let byte : c.from.result < 256 = omega (arith, c.from.ensures, c.type_inv.digits c.loop-digit.digit-index) in (
      step_fits c.loop-digit.v c.loop-digit.digit-index c.from.result c.loop-digit.invariant.0 byte,
      rw c.from.ensures (step_number c.loop-digit.v c.loop-digit.digit-index c.args.digits.now c.loop-digit-test.true c.loop-digit.invariant.1),
    )
