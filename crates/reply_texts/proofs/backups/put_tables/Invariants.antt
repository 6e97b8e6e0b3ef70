use Rattle.std.proofs.Common.{◌≡◌, ◌++◌, drop}
use Rattle.reply_texts.specs.Texts.{tables_text}
use Rattle.reply_texts.proofs.backups.put_tables.Given as goal

abbrev pub invariant-loop-table : goal.invariant-loop-table
invariant-loop-table l = l.text.items ++ tables_text (drop l.table-index l.tables) ≡ l.initial.text.items ++ tables_text l.tables
