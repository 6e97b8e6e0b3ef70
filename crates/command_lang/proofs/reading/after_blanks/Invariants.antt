use Rattle.std.proofs.Common.{◌≡◌, length}
use Rattle.command_lang.specs.Lines.{after_blanks}
use Rattle.command_lang.proofs.reading.after_blanks.Given as goal

abbrev pub invariant-blanks : goal.invariant-blanks
invariant-blanks l = after_blanks l.rest ≡ after_blanks l.line

abbrev pub decreases-blanks : goal.decreases-blanks
decreases-blanks l = length l.rest
