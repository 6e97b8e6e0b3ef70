use Rattle.key_encoding.proofs.Answered.{is_code}
use Rattle.key_encoding.proofs.Escapes.{bytes-ordered}
use Rattle.key_encoding.proofs.Unescapes.{bytes-found, bytes-only}
use Rattle.key_encoding.proofs.laws.bytes_are_a_code.Goals as goal

pub returns : goal.returns
returns c = is_code _ _ _ _ bytes-ordered bytes-found bytes-only
