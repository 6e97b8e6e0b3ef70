-- Scripts: their lines, and what they are answered.
use Rattle.std.specs.Prelude.{ℕ, zero, suc, ◌+◌, Bool, true, false, ◌||◌, ◌==◌, List, [], ◌∷◌, ◌++◌, codes, length, min, Option, Some, None, is_none, option_map, if◌then◌else◌}
use Rattle.std.specs.List.{list_any}
use Rattle.std.specs.Fmt.{decimal}
use Rattle.mvcc_keys.specs.Times.{zero_time}
use Rattle.command_lang.specs.declared.command.Command.{Command}
use Rattle.command_lang.specs.declared.command.Command.TheVariants.{Cluster}
use Rattle.command_lang.specs.Lines.{Reading, Skipped, Reads, Malformed, reading}
use Rattle.reply_texts.specs.declared.replies.Response.{Response}
use Rattle.reply_texts.specs.declared.replies.Response.TheVariants.{Refused, Answered}
use Rattle.reply_texts.specs.Texts.{reply_text}
use Rattle.machine_model.specs.declared.limits.TheConstants.{EVENTS_MAX, SCRIPT_BYTES_MAX, TABLES_MAX}
use Rattle.machine_model.specs.Machine.{World, Machine, Stepped, empty_machine}
use Rattle.machine_model.specs.Step.{step}

-- ---- lines

-- a line without its newline, or the bytes of the line in which the script passes its limit
pub data Line : Type 0 where
  Within : List ℕ → Line
  Beyond : List ℕ → Line

abbrev pub put_front : ℕ → List Line → List Line
put_front b [] = Within (b ∷ []) ∷ []
put_front b (Within bytes ∷ ls) = Within (b ∷ bytes) ∷ ls
put_front b (Beyond bytes ∷ ls) = Beyond (b ∷ bytes) ∷ ls

-- the lines of a script that may have so many bytes: each ends with a newline, the last may lack it
unfoldable pub lines : ℕ → List ℕ → List Line
lines room [] = []
lines zero (b ∷ bs) = Beyond [] ∷ []
lines (suc room) (b ∷ bs) = if b == 10 then Within [] ∷ lines room bs else put_front b (lines room bs)

-- the bytes up to the last newline: the lines that are whole
abbrev pub whole_lines : List ℕ → List ℕ
whole_lines [] = []
whole_lines (b ∷ bs) = if list_any (λ c. c == 10) (b ∷ bs) then b ∷ whole_lines bs else []

-- ---- what a script is answered

-- what is written, whether a reply is a refusal, whether a line is malformed, and the machine at the end
pub record Outcome : Type 0 where
  pub text : List ℕ
  pub refused : Bool
  pub malformed : Bool
  pub machine : Option Machine

abbrev pub no_more : Option Machine → Outcome
no_more m = record { text = []; refused = false; malformed = false; machine = m }

abbrev pub is_refusal : Response → Bool
is_refusal (Refused refusal) = true
is_refusal (Answered answer) = false

-- a reply, and then the outcome of what follows
abbrev pub after_reply : Response → Outcome → Outcome
after_reply r o = record { text = reply_text r ++ o.text; refused = is_refusal r || o.refused; malformed = o.malformed; machine = o.machine }

-- the last line of a script with a malformed line
abbrev pub malformed_text : ℕ → ℕ → List ℕ
malformed_text line column = codes "malformed line=" ++ (decimal line ++ (codes " column=" ++ (decimal column ++ codes "\n")))

abbrev pub malformed_at : ℕ → ℕ → Option Machine → Outcome
malformed_at line column m = record { text = malformed_text line column; refused = false; malformed = true; machine = m }

-- the column of a line in which the script passes its limit, where it has these bytes before: that of the next byte, or the first
-- past a line's limit
abbrev pub column_beyond : List ℕ → ℕ
column_beyond bytes = min 65537 (length bytes + 1)

-- the program's cluster begins at clock 0.0000000000, and may have as many events and tables as a script's
unfoldable pub first_machine : List ℕ → Machine
first_machine name = empty_machine name zero_time (record { events = EVENTS_MAX; tables = TABLES_MAX })

-- the first command names the cluster, and no other command is a first one
abbrev pub first_step : List World → Command → Option Stepped
first_step worlds (Cluster name) = Some (step worlds (first_machine name) (Cluster name))
first_step worlds c = None

-- what a command does, before which there may be no cluster yet
abbrev pub command_step : List World → Option Machine → Command → Option Stepped
command_step worlds None c = first_step worlds c
command_step worlds (Some m) c = Some (step worlds m c)

abbrev pub machine_in : Option Stepped → Option Machine
machine_in s = option_map (λ (x : Stepped). x.machine) s

abbrev pub response_of : Option Stepped → Option Response
response_of s = option_map (λ (x : Stepped). x.response) s

-- a reply and then an outcome; without a reply the line is malformed, and no command came before it
abbrev pub reply_before : ℕ → Option Response → Outcome → Outcome
reply_before line None o = malformed_at line 1 None
reply_before line (Some r) o = after_reply r o

-- what a line is answered, and then an outcome
abbrev pub reading_before : List World → ℕ → Option Machine → Reading → Outcome → Outcome
reading_before worlds n m Skipped o = o
reading_before worlds n m (Reads c) o = reply_before n (response_of (command_step worlds m c)) o
reading_before worlds n m (Malformed column) o = malformed_at n column m

-- the machine after a line
abbrev pub machine_after : List World → Option Machine → Reading → Option Machine
machine_after worlds m Skipped = m
machine_after worlds m (Reads c) = machine_in (command_step worlds m c)
machine_after worlds m (Malformed column) = m

-- what the machine reads of a line
abbrev pub read_at : Option Machine → List ℕ → Reading
read_at m line = reading (is_none m) line

-- the outcome of lines from number n on, at this machine
unfoldable pub outcome : List World → ℕ → Option Machine → List Line → Outcome
outcome worlds n m [] = no_more m
outcome worlds n m (Beyond bytes ∷ ls) = malformed_at n (column_beyond bytes) m
outcome worlds n m (Within line ∷ ls) = reading_before worlds n m (read_at m line) (outcome worlds (n + 1) (machine_after worlds m (read_at m line)) ls)

-- the outcome of a whole script
unfoldable pub script_outcome : List World → List ℕ → Outcome
script_outcome worlds bytes = outcome worlds 1 None (lines SCRIPT_BYTES_MAX bytes)
