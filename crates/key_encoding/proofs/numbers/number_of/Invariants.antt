use Rattle.std.proofs.Common.{◌≡◌, ◌<◌, ◌+◌, ◌*◌, ◌^◌, drop, length}
use Rattle.key_encoding.specs.Reading.{number_of}
use Rattle.key_encoding.proofs.numbers.number_of.Given as goal

abbrev pub invariant-loop-digit : goal.invariant-loop-digit
invariant-loop-digit l = (l.v < 256 ^ l.digit-index) × (l.v * 256 ^ length (drop l.digit-index l.digits) + number_of (drop l.digit-index l.digits) ≡ number_of l.digits)
