use Rattle.key_encoding.proofs.Escapes.{bytes_down_code-marked}
use Rattle.key_encoding.proofs.strings.put_bytes_down.Goals as goal

pub returns-clause-ok : goal.returns-clause-ok
returns-clause-ok c = rw (bytes_down_code-marked c.args.b.now) c.put_marked.ensures.ok
