use Rattle.std.proofs.Common.{◌≡◌, ◌++◌, drop}
use Rattle.script_tokens.specs.Spellings.{double_quotes}
use Rattle.reply_texts.proofs.rows.put_text_bytes.Given as goal

abbrev pub invariant-loop-byte : goal.invariant-loop-byte
invariant-loop-byte l = l.text.items ++ double_quotes (drop l.byte-index l.bytes) ≡ l.initial.text.items ++ double_quotes l.bytes
