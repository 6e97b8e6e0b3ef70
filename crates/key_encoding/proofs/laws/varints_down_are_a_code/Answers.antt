use Rattle.key_encoding.proofs.Answered.{is_code}
use Rattle.key_encoding.proofs.Grammars.{varint_down-found, varint_down-only}
use Rattle.key_encoding.proofs.SignedOrder.{varint_down-ordered}
use Rattle.key_encoding.proofs.laws.varints_down_are_a_code.Goals as goal

pub returns : goal.returns
returns c = is_code _ _ _ _ varint_down-ordered varint_down-found varint_down-only
