-- The tokens of a line of bytes are in form.
use Rattle.std.proofs.Common.{◌≡◌, ℕ, pos, zero, suc, ◌+◌, ◌-◌, ◌<◌, ◌%◌, Bool, true, false, ◌&&◌, ◌==◌, nat_lt, List, [], ◌∷◌, map, length, drop, Option, Some, None, option_map, if◌then◌else◌, refl, arith}
use Rattle.std.specs.Prelude.{neg_ℤ}
use Rattle.std.specs.List.{AllByRecursion, take_while}
use Rattle.std.specs.Char.{to_ascii_lowercase}
use Rattle.std.specs.Str.{is_utf8}
use Rattle.std.proofs.lemmas.Bool.Decides.{nat_tests}
use Rattle.list_laws.specs.Bytes.{AreBytes}
use Rattle.table_descriptors.specs.Names.{is_name}
use Rattle.row_codec.specs.declared.rows.Datum.TheVariants.{Int, Text as TextDatum, Bytes as BytesDatum}
use Rattle.row_codec.specs.RowKeys.{IsValue}
use Rattle.script_tokens.specs.declared.token.Token.{Token}
use Rattle.script_tokens.specs.declared.token.Token.TheVariants.{Word, Number, Text, Bytes, Mark, Bad}
use Rattle.script_tokens.specs.Tokens.{Piece, begins_bytes, begins_with_quote, bytes_after, bytes_cut, cut, first_token, hex_bytes, hex_value, is_bad, is_blank, is_digit, is_hex_digit, is_mark_byte, is_word_byte, is_word_start, negative_cut, number_cut, number_from, number_token, pieces_after, text_body, text_cut, tokens, utf8_cut, word_or_bad, word_token}

-- a word is a name, a number has 64 bits with its sign, a text is UTF-8
abbrev pub IsToken : Token → Type 0
IsToken (Word w) = is_name w ≡ true
IsToken (Number n) = IsValue (Int n)
IsToken (Text s) = IsValue (TextDatum s)
IsToken (Bytes s) = IsValue (BytesDatum s)
IsToken (Mark b) = Unit {0}
IsToken Bad = Unit {0}

abbrev pub AreTokens : List Token → Type 0
AreTokens ts = AllByRecursion IsToken ts

-- ---- one token

word-token : (w : List ℕ) → IsToken (word_token w)
word-token w = by (is_name (map to_ascii_lowercase w)) refl
  where
    by : (b : Bool) → is_name (map to_ascii_lowercase w) ≡ b → IsToken (word_or_bad (if b then Some (map to_ascii_lowercase w) else None))
    by true e = e
    by false e = tt

number-least : (n : ℕ) → nat_lt 9223372036854775808 n ≡ false → IsToken (Number (neg_ℤ (pos n)))
number-least zero e = omega arith
number-least (suc n) e = let up : nat_lt 9223372036854775808 (suc n) ≡ false = e in grind (arith, nat_tests, up)

number-is : (negative : Bool) (n : ℕ) → IsToken (number_token negative n)
number-is false n = by (nat_lt 9223372036854775807 n) refl
  where
    by : (b : Bool) → nat_lt 9223372036854775807 n ≡ b → IsToken (if b then Bad else Number (pos n))
    by true e = tt
    by false e = grind (arith, nat_tests, e)
number-is true n = by (nat_lt 9223372036854775808 n) refl
  where
    by : (b : Bool) → nat_lt 9223372036854775808 n ≡ b → IsToken (if b then Bad else Number (neg_ℤ (pos n)))
    by true e = tt
    by false e = number-least n e

negative-is : (ds : List ℕ) → IsToken (negative_cut ds).token
negative-is [] = tt
negative-is (d ∷ ds) = number-is true (number_from 0 (d ∷ ds))

-- ---- texts

-- the bytes of a text that was found
IsTextOf : Option (List ℕ × ℕ) → Type 0
IsTextOf None = Unit {0}
IsTextOf (Some x) = AreBytes x.0

more-text : (f : List ℕ × ℕ → List ℕ × ℕ) → ((x : List ℕ × ℕ) → AreBytes x.0 → AreBytes (f x).0) → (o : Option (List ℕ × ℕ)) → IsTextOf o → IsTextOf (option_map f o)
unfolding IsTextOf
more-text f more None is = tt
more-text f more (Some x) is = more x is

body-bytes : (bs : List ℕ) → AreBytes bs → IsTextOf (text_body bs)
unfolding text_body IsTextOf
body-bytes [] all = tt
body-bytes (b ∷ []) all = by (b == 39)
  where
    by : (t : Bool) → IsTextOf (if t then Some ([], 1) else None)
    by true = tt
    by false = tt
body-bytes (b ∷ c ∷ bs) all = by (b == 39) (c == 39) (body-bytes bs all.1.1) (body-bytes (c ∷ bs) all.1)
  where
    by : (q r : Bool) → IsTextOf (text_body bs) → IsTextOf (text_body (c ∷ bs))
        → IsTextOf (if q then (if r then option_map (λ x. (39 ∷ x.0, 2 + x.1)) (text_body bs) else Some ([], 1)) else option_map (λ x. (b ∷ x.0, 1 + x.1)) (text_body (c ∷ bs)))
    by true true less more = more-text (λ x. (39 ∷ x.0, 2 + x.1)) (λ x is. (omega arith, is)) (text_body bs) less
    by true false less more = tt
    by false r less more = more-text (λ x. (b ∷ x.0, 1 + x.1)) (λ x is. (all.0, is)) (text_body (c ∷ bs)) more

text-is : (o : Option (List ℕ × ℕ)) → IsTextOf o → IsToken (text_cut o).token
unfolding IsTextOf
text-is None is = tt
text-is (Some x) is = by (is_utf8 x.0) refl
  where
    by : (b : Bool) → is_utf8 x.0 ≡ b → IsToken (utf8_cut (if b then Some x.0 else None) x.1).token
    by true e = (is, e)
    by false e = tt

-- ---- bytes

hex-small : (d : ℕ) → hex_value d < 16
hex-small d = grind (arith, nat_tests)

hex-bytes : (ds : List ℕ) → AreBytes (hex_bytes ds)
unfolding hex_bytes
hex-bytes [] = tt
hex-bytes (d ∷ []) = tt
hex-bytes (d ∷ e ∷ ds) = let first = hex-small d in let second = hex-small e in (omega (arith, first, second), hex-bytes ds)

bytes-is : (digits rest : List ℕ) → IsToken (bytes_cut digits rest).token
bytes-is digits rest = by (length digits % 2 == 0 && begins_with_quote rest)
  where
    by : (b : Bool) → IsToken (if b then cut (Bytes (hex_bytes digits)) (3 + length digits) else cut Bad 1).token
    by true = hex-bytes digits
    by false = tt

-- ---- all tokens

first-is : (b : ℕ) (bs : List ℕ) → AreBytes bs → IsToken (first_token b bs).token
unfolding first_token
first-is b bs all = bytes (begins_bytes b bs)
  where
    others : (dash quote mark : Bool) → IsToken (if dash then negative_cut (take_while is_digit bs) else (if quote then text_cut (text_body bs) else (if mark then cut (Mark b) 1 else cut Bad 1))).token
    others true quote mark = negative-is (take_while is_digit bs)
    others false true mark = text-is (text_body bs) (body-bytes bs all)
    others false false true = tt
    others false false false = tt

    words : (word digit : Bool) → IsToken (if word then cut (word_token (take_while is_word_byte (b ∷ bs))) (length (take_while is_word_byte (b ∷ bs)))
        else (if digit then number_cut false (take_while is_digit (b ∷ bs))
        else (if b == 45 then negative_cut (take_while is_digit bs)
        else (if b == 39 then text_cut (text_body bs)
        else (if is_mark_byte b then cut (Mark b) 1 else cut Bad 1))))).token
    words true digit = word-token (take_while is_word_byte (b ∷ bs))
    words false true = number-is false (number_from 0 (take_while is_digit (b ∷ bs)))
    words false false = others (b == 45) (b == 39) (is_mark_byte b)

    bytes : (x : Bool) → IsToken (if x then bytes_after (drop 1 bs)
        else (if is_word_start b then cut (word_token (take_while is_word_byte (b ∷ bs))) (length (take_while is_word_byte (b ∷ bs)))
        else (if is_digit b then number_cut false (take_while is_digit (b ∷ bs))
        else (if b == 45 then negative_cut (take_while is_digit bs)
        else (if b == 39 then text_cut (text_body bs)
        else (if is_mark_byte b then cut (Mark b) 1 else cut Bad 1)))))).token
    bytes true = bytes-is (take_while is_hex_digit (drop 1 bs)) (drop (length (take_while is_hex_digit (drop 1 bs))) (drop 1 bs))
    bytes false = words (is_word_start b) (is_digit b)

pieces-are : (n at : ℕ) (bs : List ℕ) → AreBytes bs → AllByRecursion (λ (p : Piece). IsToken p.token) (pieces_after n at bs)
unfolding pieces_after
pieces-are n at [] all = tt
pieces-are (suc n) at (b ∷ bs) all = pieces-are n (suc at) bs all.1
pieces-are zero at (b ∷ bs) all = by (is_blank b) (is_bad (first_token b bs).token) (first-is b bs all.1) (pieces-are zero (suc at) bs all.1) (pieces-are ((first_token b bs).len - 1) (suc at) bs all.1)
  where
    by : (blank bad : Bool) → IsToken (first_token b bs).token → AllByRecursion (λ (p : Piece). IsToken p.token) (pieces_after zero (suc at) bs) → AllByRecursion (λ (p : Piece). IsToken p.token) (pieces_after ((first_token b bs).len - 1) (suc at) bs)
        → AllByRecursion (λ (p : Piece). IsToken p.token) (if blank then pieces_after zero (suc at) bs
        else record { token = (first_token b bs).token; place = at } ∷ (if bad then [] else pieces_after ((first_token b bs).len - 1) (suc at) bs))
    by true bad is skip more = skip
    by false true is skip more = (is, tt)
    by false false is skip more = (is, more)

of-pieces : (ps : List Piece) → AllByRecursion (λ (p : Piece). IsToken p.token) ps → AreTokens (map (λ p. p.token) ps)
of-pieces [] all = tt
of-pieces (p ∷ ps) all = (all.0, of-pieces ps all.1)

pub tokens-are : (line : List ℕ) → AreBytes line → AreTokens (tokens line)
tokens-are line all = of-pieces (pieces_after 0 1 line) (pieces-are 0 1 line all)
