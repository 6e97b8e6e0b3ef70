use Rattle.key_encoding.proofs.Answered.{is_code}
use Rattle.key_encoding.proofs.Escapes.{bytes_down-ordered}
use Rattle.key_encoding.proofs.Unescapes.{bytes_down-found, bytes_down-only}
use Rattle.key_encoding.proofs.laws.bytes_down_are_a_code.Goals as goal

pub returns : goal.returns
returns c = is_code _ _ _ _ bytes_down-ordered bytes_down-found bytes_down-only
