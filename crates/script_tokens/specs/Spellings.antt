-- What bytes spell a token, and how a line is parted into tokens. Nothing here says how they are found.
use Rattle.std.specs.Prelude.{◌≡◌, ℕ, ◌+◌, ◌%◌, ◌≤◌, Bool, true, false, ◌&&◌, ◌||◌, ◌==◌, nat_le, List, [], ◌∷◌, ◌++◌, map, length, ◌⊎◌, if◌then◌else◌}
use Rattle.std.specs.List.{list_all}
use Rattle.std.specs.Char.{to_ascii_lowercase}
use Rattle.std.specs.Str.{is_utf8}
use Rattle.script_tokens.specs.declared.token.Token.{Token}
use Rattle.script_tokens.specs.declared.token.Token.TheVariants.{Word, Text, Bytes, Mark, Bad}
use Rattle.script_tokens.specs.Tokens.{Piece, is_bad, is_blank, is_digit, is_word_start, is_word_byte, is_mark_byte, is_hex_digit, number_from, number_token, hex_bytes, pieces}

-- ---- spellings

-- a letter or `_`, then letters, digits and `_`
abbrev pub is_word_spelling : List ℕ → Bool
is_word_spelling [] = false
is_word_spelling (b ∷ bs) = is_word_start b && list_all is_word_byte bs

-- at least one digit
abbrev pub are_digits : List ℕ → Bool
are_digits [] = false
are_digits (d ∷ ds) = is_digit d && list_all is_digit ds

-- a byte of a text, where a quote is written twice
abbrev pub text_byte : ℕ → List ℕ
text_byte b = if b == 39 then 39 ∷ 39 ∷ [] else b ∷ []

-- a text with each quote written twice
abbrev pub double_quotes : List ℕ → List ℕ
double_quotes [] = []
double_quotes (b ∷ bs) = text_byte b ++ double_quotes bs

-- `x` or `X`
abbrev pub is_x : ℕ → Bool
is_x b = b == 120 || b == 88

-- a word is read in lower case, and has at most 32 bytes
abbrev pub word_of : List ℕ → Token
word_of w = if nat_le (length w) 32 then Word (map to_ascii_lowercase w) else Bad

-- a text is UTF-8
abbrev pub text_of : List ℕ → Token
text_of s = if is_utf8 s then Text s else Bad

-- The bytes spell the token. What is spelled but is no token is Bad: a word over 32 bytes, a number out of range, a
-- text that isn't UTF-8.
pub data Spells (bs : List ℕ) (t : Token) : Type 0 where
  -- a word
  AsWord : is_word_spelling bs ≡ true → t ≡ word_of bs → Spells bs t
  -- digits
  AsNumber : are_digits bs ≡ true → t ≡ number_token false (number_from 0 bs) → Spells bs t
  -- `-` and digits
  AsNegative : (ds : List ℕ) → bs ≡ 45 ∷ ds → are_digits ds ≡ true → t ≡ number_token true (number_from 0 ds) → Spells bs t
  -- `'`, the text with each `'` doubled, and `'`
  AsText : (s : List ℕ) → bs ≡ 39 ∷ (double_quotes s ++ 39 ∷ []) → t ≡ text_of s → Spells bs t
  -- `x` or `X`, `'`, an even number of hexadecimal digits, and `'`
  AsBytes : (x : ℕ) (ds : List ℕ) → is_x x ≡ true → bs ≡ x ∷ 39 ∷ (ds ++ 39 ∷ []) → list_all is_hex_digit ds ≡ true → length ds % 2 ≡ 0
      → t ≡ Bytes (hex_bytes ds) → Spells bs t
  -- one of `( ) , . ; * =`
  AsMark : (b : ℕ) → bs ≡ b ∷ [] → is_mark_byte b ≡ true → t ≡ Mark b → Spells bs t

-- ---- pieces of a line

-- a spelling begins with these bytes, or is these bytes
abbrev pub BeginsSpelling : List ℕ → Type 0
BeginsSpelling bs = (more : List ℕ) × (t : Token) × Spells (bs ++ more) t

-- Of what the line goes on with, the bytes are the longest front with which a spelling begins.
pub record IsLongest (bytes rest : List ℕ) : Type 0 where
  pub begins : BeginsSpelling bytes
  pub longest : (front back : List ℕ) → front ++ back ≡ bytes ++ rest → BeginsSpelling front → length front ≤ length bytes

-- the token that the bytes spell, or Bad where they spell none
abbrev pub IsTokenOf : List ℕ → Token → Type 0
IsTokenOf bytes t = Spells bytes t ⊎ (t ≡ Bad) × ((u : Token) → Spells bytes u → ⊥)

-- something is left, and no blank at its front
abbrev pub is_solid : List ℕ → Bool
is_solid [] = false
is_solid (b ∷ bs) = if is_blank b then false else true

-- The next piece of a line of which `left` is left, from the place `at` on: after all blanks the longest bytes with which
-- a spelling begins, with their token and the place of the first of them.
pub record IsNext (at : ℕ) (left : List ℕ) (p : Piece) : Type 0 where
  pub blanks : List ℕ
  pub bytes : List ℕ
  pub rest : List ℕ
  pub split : left ≡ blanks ++ (bytes ++ rest)
  pub blank : list_all is_blank blanks ≡ true
  pub solid : is_solid (bytes ++ rest) ≡ true
  pub longest : IsLongest bytes rest
  pub token : IsTokenOf bytes p.token
  pub place : p.place ≡ at + length blanks

-- A line is parted into pieces up to its end, or up to the first that is no token.
abbrev pub ArePieces : ℕ → List ℕ → List Piece → Type 0
ArePieces at left [] = list_all is_blank left ≡ true
ArePieces at left (p ∷ ps) =
    (next : IsNext at left p)
    × (is_bad p.token ≡ true → ps ≡ [])
    × (is_bad p.token ≡ false → ArePieces (p.place + length next.bytes) next.rest ps)

-- the pieces of a line are those that it is parted into, and it is parted in one way
pub record PiecesAreExact : Type 0 where
  pub parts : (line : List ℕ) → ArePieces 1 line (pieces line)
  pub only : (line : List ℕ) (ps : List Piece) → ArePieces 1 line ps → ps ≡ pieces line
