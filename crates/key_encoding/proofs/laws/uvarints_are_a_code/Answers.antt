use Rattle.key_encoding.proofs.Answered.{is_code}
use Rattle.key_encoding.proofs.Grammars.{uvarint-found, uvarint-only}
use Rattle.key_encoding.proofs.UnsignedOrder.{uvarint-ordered}
use Rattle.key_encoding.proofs.laws.uvarints_are_a_code.Goals as goal

pub returns : goal.returns
returns c = is_code _ _ _ _ uvarint-ordered uvarint-found uvarint-only
