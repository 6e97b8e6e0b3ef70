use Rattle.key_encoding.proofs.EscapeWalks.{escape_faults-first}
use Rattle.key_encoding.proofs.laws.escape_faults_are_first.Goals as goal

pub returns : goal.returns
returns c = escape_faults-first
