use Rattle.std.proofs.Common.{◌≡◌, ℕ, Bool, true, false, List, length, ◌+◌, nat_lt, refl, inl, inr, if◌then◌else◌}
use Rattle.script_grammar.specs.Grammar.{Progress, Read, Fault}
use Rattle.script_grammar.specs.Columns.{Lists, Explains}
use Rattle.script_tokens.specs.Tokens.{tokens, places}
use Rattle.command_lang.specs.declared.command.Command.{Command}
use Rattle.command_lang.specs.Forms.{command}
use Rattle.command_lang.specs.declared.limits.TheConstants.{LINE_BYTES_MAX}
use Rattle.command_lang.specs.Lines.{Means, Malformed, Skipped, reading, reading_of, after_blanks, is_skipped_text}
use Rattle.command_lang.proofs.FormsExact.{command_explained}
use Rattle.command_lang.proofs.laws.readings_are_exact.Goals as goal

within : (first : Bool) (line : List ℕ) → nat_lt LINE_BYTES_MAX (length line) ≡ false → is_skipped_text (after_blanks line) ≡ false → (p : Progress Command)
    → Explains (Lists (command first)) (tokens line) p → Means first line (reading_of (places line) (length line) p)
within first line short full (Read c rest) e = (short, full, e.1, e.2)
within first line short full (Fault left) e = inr (short, full, record { left = left; breaks = e; place = refl })

means : (first : Bool) (line : List ℕ) → Means first line (reading first line)
unfolding reading
means first line = long (nat_lt LINE_BYTES_MAX (length line)) refl
  where
    skip : nat_lt LINE_BYTES_MAX (length line) ≡ false → (y : Bool) → is_skipped_text (after_blanks line) ≡ y
        → Means first line (if y then Skipped else reading_of (places line) (length line) ((command first).read (tokens line)))
    skip short true e = (short, e)
    skip short false e = within first line short e ((command first).read (tokens line)) (command_explained first (tokens line))

    long : (x : Bool) → nat_lt LINE_BYTES_MAX (length line) ≡ x
        → Means first line (if x then Malformed (LINE_BYTES_MAX + 1) else (if is_skipped_text (after_blanks line) then Skipped else reading_of (places line) (length line) ((command first).read (tokens line))))
    long true e = inl (e, refl)
    long false e = skip e (is_skipped_text (after_blanks line)) refl

pub returns : goal.returns
returns c = means
