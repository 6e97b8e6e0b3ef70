use Rattle.std.proofs.Common.{◌≡◌, ◌++◌, drop}
use Rattle.reply_texts.specs.Texts.{more_text}
use Rattle.reply_texts.proofs.rows.put_more.Given as goal

abbrev pub invariant-loop-value : goal.invariant-loop-value
invariant-loop-value l = l.text.items ++ more_text (drop l.value-index l.values) ≡ l.initial.text.items ++ more_text l.values
