-- The tokens of a line and their places.
use Rattle.std.specs.Prelude.{ℕ, zero, suc, ◌+◌, ◌-◌, ◌*◌, ◌%◌, pos, neg_ℤ, Bool, true, false, ◌&&◌, ◌||◌, ◌==◌, nat_lt, nat_le, List, [], ◌∷◌, map, length, drop, Option, Some, None, option_map, if◌then◌else◌}
use Rattle.std.specs.List.{take_while}
use Rattle.std.specs.Char.{to_ascii_lowercase}
use Rattle.std.specs.Str.{is_utf8}
use Rattle.table_descriptors.specs.Names.{name_of}
use Rattle.script_tokens.specs.declared.token.Token.{Token}
use Rattle.script_tokens.specs.declared.token.Token.TheVariants.{Word, Number, Text, Bytes, Mark, Bad}

-- ---- bytes

-- space, tab and carriage return
abbrev pub is_blank : ℕ → Bool
is_blank b = b == 32 || (b == 9 || b == 13)

abbrev pub is_digit : ℕ → Bool
is_digit b = nat_le 48 b && nat_le b 57

-- a letter or `_`
abbrev pub is_word_start : ℕ → Bool
is_word_start b = (nat_le 97 b && nat_le b 122) || ((nat_le 65 b && nat_le b 90) || b == 95)

abbrev pub is_word_byte : ℕ → Bool
is_word_byte b = is_word_start b || is_digit b

-- one of `( ) , . ; * =`
abbrev pub is_mark_byte : ℕ → Bool
is_mark_byte b = b == 40 || (b == 41 || (b == 44 || (b == 46 || (b == 59 || (b == 42 || b == 61)))))

-- a hexadecimal digit of either case
abbrev pub is_hex_digit : ℕ → Bool
is_hex_digit b = is_digit b || ((nat_le 97 b && nat_le b 102) || (nat_le 65 b && nat_le b 70))

-- the value of a hexadecimal digit, and 0 of any other byte
abbrev pub hex_value : ℕ → ℕ
hex_value b =
    if is_digit b then b - 48
    else (if nat_le 97 b && nat_le b 102 then b - 87
    else (if nat_le 65 b && nat_le b 70 then b - 55 else 0))

abbrev pub begins_with_quote : List ℕ → Bool
begins_with_quote [] = false
begins_with_quote (b ∷ bs) = b == 39

-- ---- one token

-- A token, and how many bytes it takes. What forms no token takes the rest of its line.
pub record Cut : Type 0 where
  pub token : Token
  pub len : ℕ

abbrev pub cut : Token → ℕ → Cut
cut t n = record { token = t; len = n }

-- a word is read in lower case, and is no token where that is no name: over 32 bytes
abbrev pub word_or_bad : Option (List ℕ) → Token
word_or_bad None = Bad
word_or_bad (Some n) = Word n

abbrev pub word_token : List ℕ → Token
word_token word = word_or_bad (name_of (map to_ascii_lowercase word))

-- the value of digits that follow those of n
abbrev pub number_from : ℕ → List ℕ → ℕ
number_from n [] = n
number_from n (d ∷ ds) = number_from (10 * n + (d - 48)) ds

-- numbers have 64 bits with their sign
abbrev pub number_token : Bool → ℕ → Token
number_token false n = if nat_lt 9223372036854775807 n then Bad else Number (pos n)
number_token true n = if nat_lt 9223372036854775808 n then Bad else Number (neg_ℤ (pos n))

abbrev pub number_cut : Bool → List ℕ → Cut
number_cut negative digits = cut (number_token negative (number_from 0 digits)) (length digits)

-- digits after a dash
abbrev pub negative_cut : List ℕ → Cut
negative_cut [] = cut Bad 1
negative_cut (d ∷ ds) = cut (number_token true (number_from 0 (d ∷ ds))) (1 + length (d ∷ ds))

-- the second byte is a quote
abbrev pub is_doubled : List ℕ → Bool
is_doubled [] = false
is_doubled (b ∷ []) = false
is_doubled (b ∷ c ∷ bs) = c == 39

-- the bytes of a text after its first quote, and how many bytes they and the last quote take
unfoldable pub text_body : List ℕ → Option (List ℕ × ℕ)
text_body [] = None
text_body (b ∷ []) = if b == 39 then Some ([], 1) else None
text_body (b ∷ c ∷ bs) =
    if b == 39
    then (if c == 39 then option_map (λ x. (39 ∷ x.0, 2 + x.1)) (text_body bs) else Some ([], 1))
    else option_map (λ x. (b ∷ x.0, 1 + x.1)) (text_body (c ∷ bs))

abbrev pub utf8_text : List ℕ → Option (List ℕ)
utf8_text bs = if is_utf8 bs then Some bs else None

abbrev pub utf8_cut : Option (List ℕ) → ℕ → Cut
utf8_cut None len = cut Bad 1
utf8_cut (Some bs) len = cut (Text bs) (1 + len)

-- a text is UTF-8 and has its end
abbrev pub text_cut : Option (List ℕ × ℕ) → Cut
text_cut None = cut Bad 1
text_cut (Some x) = utf8_cut (utf8_text x.0) x.1

-- the bytes that pairs of hexadecimal digits write
unfoldable pub hex_bytes : List ℕ → List ℕ
hex_bytes [] = []
hex_bytes (d ∷ []) = []
hex_bytes (d ∷ e ∷ ds) = (16 * hex_value d + hex_value e) ∷ hex_bytes ds

-- pairs of digits between `x'` and a quote
abbrev pub bytes_cut : List ℕ → List ℕ → Cut
bytes_cut digits rest = if length digits % 2 == 0 && begins_with_quote rest then cut (Bytes (hex_bytes digits)) (3 + length digits) else cut Bad 1

-- the bytes after `x'`
abbrev pub bytes_after : List ℕ → Cut
bytes_after bs = bytes_cut (take_while is_hex_digit bs) (drop (length (take_while is_hex_digit bs)) bs)

-- `x` or `X` directly before a quote
abbrev pub begins_bytes : ℕ → List ℕ → Bool
begins_bytes b bs = (b == 120 || b == 88) && begins_with_quote bs

-- the token that bytes begin with, where the first is not blank
unfoldable pub first_token : ℕ → List ℕ → Cut
first_token b bs =
    if begins_bytes b bs then bytes_after (drop 1 bs)
    else (if is_word_start b then cut (word_token (take_while is_word_byte (b ∷ bs))) (length (take_while is_word_byte (b ∷ bs)))
    else (if is_digit b then number_cut false (take_while is_digit (b ∷ bs))
    else (if b == 45 then negative_cut (take_while is_digit bs)
    else (if b == 39 then text_cut (text_body bs)
    else (if is_mark_byte b then cut (Mark b) 1 else cut Bad 1)))))

-- ---- all tokens

abbrev pub is_bad : Token → Bool
is_bad (Word w) = false
is_bad (Number n) = false
is_bad (Text s) = false
is_bad (Bytes s) = false
is_bad (Mark b) = false
is_bad Bad = true

-- a token and the place of its first byte, from 1
pub record Piece : Type 0 where
  pub token : Token
  pub place : ℕ

abbrev pub piece : Token → ℕ → Piece
piece t n = record { token = t; place = n }

-- The tokens of bytes of which the first is at a place, and the first n belong to the token before.
-- They end with the first bytes that form no token, since a line breaks off there at the latest.
unfoldable pub pieces_after : ℕ → ℕ → List ℕ → List Piece
pieces_after n at [] = []
pieces_after (suc n) at (b ∷ bs) = pieces_after n (suc at) bs
pieces_after zero at (b ∷ bs) =
    if is_blank b then pieces_after zero (suc at) bs
    else piece (first_token b bs).token at ∷ (if is_bad (first_token b bs).token then [] else pieces_after ((first_token b bs).len - 1) (suc at) bs)

abbrev pub pieces : List ℕ → List Piece
pieces line = pieces_after 0 1 line

abbrev pub tokens : List ℕ → List Token
tokens line = map (λ p. p.token) (pieces line)

abbrev pub places : List ℕ → List ℕ
places line = map (λ p. p.place) (pieces line)
