use Rattle.std.proofs.Common.{sym, refl, false}
use Rattle.script_tokens.proofs.Lexing.{apart}
use Rattle.script_tokens.proofs.Lexing.{utf8_found, utf8_lost}
use Rattle.script_tokens.proofs.quoted.utf8_text.Goals as goal

pub returns-in-Ok : goal.returns-in-Ok
returns-in-Ok c = rw c.from_string.ensures (sym (utf8_found c.in-Ok.text c.args.bytes c.in-Ok.ensures.ok))

pub returns : goal.returns
returns c = sym (utf8_lost c.args.bytes.items (λ is. apart false refl (c.in-Err.ensures.succeeds is)))
