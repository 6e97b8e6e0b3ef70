-- What a line reads as.
use Rattle.std.specs.Prelude.{◌≡◌, ℕ, ◌+◌, ◌-◌, Bool, true, false, ◌&&◌, ◌==◌, nat_lt, List, [], ◌∷◌, length, get_or, Option, Some, None, Result, Ok, Err, if◌then◌else◌, ◌⊎◌}
use Rattle.script_tokens.specs.Tokens.{is_blank, tokens, places}
use Rattle.script_grammar.specs.Grammar.{Progress, Read, Fault}
use Rattle.script_grammar.specs.Columns.{Lists, Breaks}
use Rattle.command_lang.specs.Forms.{command}
use Rattle.command_lang.specs.declared.command.Command.{Command}
use Rattle.command_lang.specs.declared.limits.TheConstants.{LINE_BYTES_MAX}
use Rattle.command_lang.specs.declared.faults.LineFault.{LineFault}
use Rattle.command_lang.specs.declared.faults.LineFault.TheVariants.{Wrong, Memory}

pub data Reading : Type 0 where
  Skipped : Reading
  Reads : Command → Reading
  Malformed : ℕ → Reading

-- what follows the blanks at the front
abbrev pub after_blanks : List ℕ → List ℕ
after_blanks [] = []
after_blanks (b ∷ bs) = if is_blank b then after_blanks bs else b ∷ bs

-- nothing but blanks, or two dashes after them
abbrev pub is_skipped_text : List ℕ → Bool
is_skipped_text [] = true
is_skipped_text (b ∷ []) = false
is_skipped_text (b ∷ c ∷ bs) = b == 45 && c == 45

-- The place of the token from which so many are left, where a line of these places and this length breaks off.
-- With none left it is the length plus 1.
abbrev pub column_of : List ℕ → ℕ → ℕ → ℕ
column_of at left len = get_or at (length at - left) (len + 1)

abbrev pub reading_of : List ℕ → ℕ → Progress Command → Reading
reading_of at len (Read c rest) = Reads c
reading_of at len (Fault left) = Malformed (column_of at left len)

-- what a line reads as, where `first` says that no command came before it
unfoldable pub reading : Bool → List ℕ → Reading
reading first line =
    if nat_lt LINE_BYTES_MAX (length line) then Malformed (LINE_BYTES_MAX + 1)
    else (if is_skipped_text (after_blanks line) then Skipped
    else reading_of (places line) (length line) ((command first).read (tokens line)))

-- the column at which no form goes on: that of the first token that fits nowhere
pub record BreaksAt (first : Bool) (line : List ℕ) (column : ℕ) : Type 0 where
  pub left : ℕ
  pub breaks : Breaks (Lists (command first)) (tokens line) left
  pub place : column ≡ column_of (places line) left (length line)

-- What a reading says of its line. Skipped: blank or a comment. Reads: the tokens spell this command and no other.
-- Malformed: the line is too long, or breaks off there.
abbrev pub Means : Bool → List ℕ → Reading → Type 0
Means first line Skipped = (nat_lt LINE_BYTES_MAX (length line) ≡ false) × (is_skipped_text (after_blanks line) ≡ true)
Means first line (Reads c) = (nat_lt LINE_BYTES_MAX (length line) ≡ false) × (is_skipped_text (after_blanks line) ≡ false) × Lists (command first) (tokens line) c × ((d : Command) → Lists (command first) (tokens line) d → d ≡ c)
Means first line (Malformed column) = (nat_lt LINE_BYTES_MAX (length line) ≡ true) × (column ≡ LINE_BYTES_MAX + 1) ⊎ (nat_lt LINE_BYTES_MAX (length line) ≡ false) × (is_skipped_text (after_blanks line) ≡ false) × BreaksAt first line column

-- what a function of the code answered is what the line reads as, unless memory ran out
abbrev pub ReadsAs : Result (Option Command) LineFault → Reading → Type 0
ReadsAs (Ok None) r = r ≡ Skipped
ReadsAs (Ok (Some c)) r = r ≡ Reads c
ReadsAs (Err (Wrong column)) r = r ≡ Malformed column
ReadsAs (Err Memory) r = Unit {0}
