use Rattle.std.proofs.Common.{◌≡◌, ◌++◌, drop}
use Rattle.reply_texts.specs.Texts.{rows_text}
use Rattle.reply_texts.proofs.rows.put_rows.Given as goal

abbrev pub invariant-loop-row : goal.invariant-loop-row
invariant-loop-row l = l.text.items ++ rows_text (drop l.row-index l.rows) ≡ l.initial.text.items ++ rows_text l.rows
