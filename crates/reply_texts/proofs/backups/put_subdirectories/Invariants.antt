use Rattle.std.proofs.Common.{◌≡◌, ◌++◌, drop}
use Rattle.reply_texts.specs.Texts.{subdirectories_text}
use Rattle.reply_texts.proofs.backups.put_subdirectories.Given as goal

abbrev pub invariant-loop-subdirectory : goal.invariant-loop-subdirectory
invariant-loop-subdirectory l = l.text.items ++ subdirectories_text (drop l.subdirectory-index l.subdirectories) ≡ l.initial.text.items ++ subdirectories_text l.subdirectories
