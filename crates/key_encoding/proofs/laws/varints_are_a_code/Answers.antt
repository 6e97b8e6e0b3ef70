use Rattle.key_encoding.proofs.Answered.{is_code}
use Rattle.key_encoding.proofs.Grammars.{varint-found, varint-only}
use Rattle.key_encoding.proofs.SignedOrder.{varint-ordered}
use Rattle.key_encoding.proofs.laws.varints_are_a_code.Goals as goal

pub returns : goal.returns
returns c = is_code _ _ _ _ varint-ordered varint-found varint-only
