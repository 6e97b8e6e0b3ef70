-- What the lines of a script are.
use Rattle.std.specs.Prelude.{◌≡◌, ℕ, ◌<◌, ◌≤◌, Bool, true, false, ◌==◌, List, [], ◌∷◌, ◌++◌, length, take, flat_map, ◌⊎◌}
use Rattle.std.specs.List.{AllByRecursion, list_any}
use Rattle.machine_model.specs.Script.{Line, Within, Beyond, lines}

abbrev pub bytes_of : Line → List ℕ
bytes_of (Within bytes) = bytes
bytes_of (Beyond bytes) = bytes

-- the line is within the script's limit
abbrev pub is_within : Line → Bool
is_within (Within bytes) = true
is_within (Beyond bytes) = false

-- each line and its newline
abbrev pub ended : List Line → List ℕ
ended ls = flat_map (λ l. bytes_of l ++ 10 ∷ []) ls

-- a line without a newline in it
abbrev pub IsOneLine : Line → Type 0
IsOneLine l = list_any (λ c. c == 10) (bytes_of l) ≡ false

-- the last byte isn't a newline, and there is one
pub record LacksNewline (script : List ℕ) : Type 0 where
  pub some : 0 < length script
  pub last : (front : List ℕ) → script ≡ front ++ 10 ∷ [] → ⊥

-- the lines up to the one in which a script passes its limit, and that line up to the limit
pub record PassesLimit (room : ℕ) (script : List ℕ) (ls : List Line) : Type 0 where
  pub before : List Line
  pub last : List ℕ
  pub all : ls ≡ before ++ Beyond last ∷ []
  pub within : AllByRecursion (λ l. is_within l ≡ true) before
  pub bytes : take room script ≡ ended before ++ last

-- No line has a newline. A script within its limit is its lines, each with a newline after it, which the last may lack; another is so up
-- to the line in which it passes the limit.
pub record AreItsLines (room : ℕ) (script : List ℕ) (ls : List Line) : Type 0 where
  pub single : AllByRecursion IsOneLine ls
  pub short : length script ≤ room → AllByRecursion (λ l. is_within l ≡ true) ls × ((script ≡ ended ls) ⊎ (LacksNewline script × (script ++ 10 ∷ [] ≡ ended ls)))
  pub long : room < length script → PassesLimit room script ls

abbrev pub ScriptsAreTheirLines : Type 0
ScriptsAreTheirLines = (room : ℕ) (script : List ℕ) → AreItsLines room script (lines room script)
