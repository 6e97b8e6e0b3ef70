use Rattle.std.proofs.Common.{◌≡◌, drop}
use Rattle.mvcc_keys.specs.TimeTexts.{digits_after}
use Rattle.mvcc_keys.proofs.time_text.digits_value.Given as goal

abbrev pub invariant-loop-digit : goal.invariant-loop-digit
invariant-loop-digit l = digits_after l.value (drop l.digit-index l.digits) ≡ digits_after 0 l.digits
