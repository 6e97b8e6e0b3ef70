use Rattle.std.proofs.Common.{◌≡◌, ◌+◌, ◌*◌, ◌-◌, get_or, suc, drop, arith, drop-cons}
use Rattle.mvcc_keys.specs.TimeTexts.{digits_after}
use Rattle.mvcc_keys.proofs.Numerals.{digits_grow}
use Rattle.mvcc_keys.proofs.time_text.digits_value.Goals as goal

pub returns-in_default-clause-none : goal.returns-in_default-clause-none
returns-in_default-clause-none c =
    let ds = c.args.digits.now in
    let i = c.loop-digit.digit-index in
    let n = 10 * c.loop-digit.value + (get_or ds i 0 - 48) in
    let more = drop-cons ds i 0 (omega arith) in
    let so_far : digits_after n (drop (suc i) ds) ≡ digits_after 0 ds = rw more at c.loop-digit.invariant in
    omega (arith, digits_grow n (drop (suc i) ds), c.in_default.ensures.none)
