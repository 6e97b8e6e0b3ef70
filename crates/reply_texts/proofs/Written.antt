-- The text of a value is a spelling of a token.
use Rattle.std.proofs.Common.{◌≡◌, ℕ, pos, negsuc, suc, ◌+◌, ◌-◌, ◌*◌, ◌%◌, ◌/◌, ◌^◌, ◌<◌, Bool, true, false, ◌&&◌, ◌||◌, ◌==◌, nat_le, nat_lt, if◌then◌else◌, List, [], ◌∷◌, ◌++◌, length, Some, None, codes, refl, sym, ap, ◌∙◌, arith, slice_index}
use Rattle.std.specs.List.{list_all}
use Rattle.std.specs.Fmt.{decimal}
use Rattle.std.proofs.lemmas.Bool.Decides.{nat_tests}
use Rattle.std.proofs.lemmas.Str.Parse.{IsDigitsTest, IsNumeralModel, numerals_by_fold}
use Rattle.std.proofs.lemmas.Fmt.{digits_decimal, digits_value-decimal, decimal_nonempty}
use Rattle.list_laws.specs.Bytes.{AreBytes}
use Rattle.list_laws.proofs.Options.{some-is}
use Rattle.hex.specs.Hex.{lower_digits, encode_with, encode_lower, hex_digit_value}
use Rattle.hex.proofs.HexLemmas.{IsDigits-lower_digits, length-encode_with}
use Rattle.row_codec.specs.declared.rows.Datum.{Datum}
use Rattle.row_codec.specs.declared.rows.Datum.TheVariants.{Int, Text as TextDatum, Bytes as BytesDatum, Bool as Truth, Null}
use Rattle.row_codec.specs.RowKeys.{IsValue}
use Rattle.script_tokens.specs.declared.token.Token.{Token}
use Rattle.script_tokens.specs.declared.token.Token.TheVariants.{Word, Number, Text, Bytes}
use Rattle.script_tokens.specs.Tokens.{is_bad, is_blank, is_digit, is_word_byte, is_hex_digit, hex_value, hex_bytes, number_from, number_token, begins_with_quote}
use Rattle.script_tokens.specs.Spellings.{Spells, AsWord, AsNumber, AsNegative, AsText, AsBytes, is_solid}
use Rattle.script_grammar.specs.Parts.{datum_of}
use Rattle.script_tokens.proofs.Pieces.{StopsAt, Ends, word_ends, number_ends, negative_ends, text_ends, closed_ends}
use Rattle.reply_texts.specs.Texts.{datum_text}

-- nothing follows, or a comma or a bracket
abbrev pub Closes : List ℕ → Type 0
Closes [] = Unit {0}
Closes (e ∷ rest) = (e == 44 || e == 41) ≡ true

-- the token of a value's text, after which a comma or a bracket may stand
pub record IsWritten (bs : List ℕ) (x : Datum) : Type 0 where
  pub token : Token
  pub spells : Spells bs token
  pub good : is_bad token ≡ false
  pub solid : (rest : List ℕ) → is_solid (bs ++ rest) ≡ true
  pub means : datum_of token ≡ Some x
  pub ends : (rest : List ℕ) → Closes rest → Ends bs rest

stops_digits : (rest : List ℕ) → Closes rest → StopsAt is_digit rest
stops_digits [] h = tt
stops_digits (e ∷ rest) h = grind (arith, nat_tests)

stops_word : (rest : List ℕ) → Closes rest → StopsAt is_word_byte rest
stops_word [] h = tt
stops_word (e ∷ rest) h = grind (arith, nat_tests)

stops_text : (rest : List ℕ) → Closes rest → begins_with_quote rest ≡ false
stops_text [] h = refl
stops_text (e ∷ rest) h = grind (arith, nat_tests)

-- ---- numbers

abbrev AreDigits : List ℕ → Type 0
AreDigits ds = list_all is_digit ds ≡ true

tells : IsDigitsTest AreDigits
tells = record {
  empty = refl;
  parts = λ c cs e. let k : (is_digit c ≡ true) × (list_all is_digit cs ≡ true) = grind (arith, nat_tests) in (grind (arith, nat_tests), k.1);
  more = λ c cs k e. grind (arith, nat_tests);
}

own : IsNumeralModel AreDigits (number_from 0)
own = numerals_by_fold AreDigits tells number_from (record { empty = λ n. refl; more = λ n c cs k. ap (λ m. number_from m cs) (omega arith) })

digit_solid : (d : ℕ) → is_digit d ≡ true → is_blank d ≡ false
digit_solid d h = grind (arith, nat_tests)

number_of : (n : ℕ) → n < 2 ^ 63 → number_token false n ≡ Number (pos n)
number_of n h = let small : nat_lt 9223372036854775807 n ≡ false = grind (arith, nat_tests) in rw small refl

negative_of : (k : ℕ) → k < 2 ^ 63 → number_token true (suc k) ≡ Number (negsuc k)
negative_of k h = let small : nat_lt 9223372036854775808 (suc k) ≡ false = grind (arith, nat_tests) in rw small refl

number_written : (n : ℕ) (ds : List ℕ) → n < 2 ^ 63 → list_all is_digit ds ≡ true → number_from 0 ds ≡ n → 0 < length ds → IsWritten ds (Int (pos n))
number_written n [] h digits value some = absurd (omega (arith, some))
number_written n (d ∷ ds) h digits value some =
    let first : is_digit d ≡ true = grind (arith, nat_tests) in
    record {
      token = Number (pos n);
      spells = AsNumber digits (sym (ap (λ m. number_token false m) value ∙ number_of n h));
      good = refl;
      solid = λ rest. rw (digit_solid d first) refl;
      means = refl;
      ends = λ rest closes. number_ends d ds rest first (stops_digits rest closes);
    }

negative_written : (k : ℕ) (ds : List ℕ) → k < 2 ^ 63 → list_all is_digit ds ≡ true → number_from 0 ds ≡ suc k → 0 < length ds → IsWritten (45 ∷ ds) (Int (negsuc k))
negative_written k [] h digits value some = absurd (omega (arith, some))
negative_written k (d ∷ ds) h digits value some = record {
  token = Number (negsuc k);
  spells = AsNegative (d ∷ ds) refl digits (sym (ap (λ m. number_token true m) value ∙ negative_of k h));
  good = refl;
  solid = λ rest. refl;
  means = refl;
  ends = λ rest closes. negative_ends (d ∷ ds) rest (stops_digits rest closes);
}

-- ---- bytes

-- a digit that has a value is one, and has that value
valued : (c d : ℕ) → hex_digit_value c ≡ Some d → (is_hex_digit c ≡ true) × (hex_value c ≡ d)
valued c d e = upper (nat_le 65 c && nat_le c 70) refl e
  where
    none_same : (y : ℕ) → None ≡ Some y → ⊥
    none_same y p = cc

    digit : (z : Bool) → (nat_le 48 c && nat_le c 57) ≡ z → (if z then Some (c - 48) else None) ≡ Some d → (is_hex_digit c ≡ true) × (hex_value c ≡ d)
    digit true t p = (rw t refl, rw t (some-is (c - 48) d p))
    digit false t p = absurd (none_same d p)

    lower : (y : Bool) → (nat_le 97 c && nat_le c 102) ≡ y → (if y then Some (c - 87) else (if nat_le 48 c && nat_le c 57 then Some (c - 48) else None)) ≡ Some d
        → (is_hex_digit c ≡ true) × (hex_value c ≡ d)
    lower true t p =
        let none : (nat_le 48 c && nat_le c 57) ≡ false = grind (arith, nat_tests) in
        (rw (none, t) refl, rw (none, t) (some-is (c - 87) d p))
    lower false t p = digit (nat_le 48 c && nat_le c 57) refl p

    upper : (x : Bool) → (nat_le 65 c && nat_le c 70) ≡ x → (if x then Some (c - 55) else (if nat_le 97 c && nat_le c 102 then Some (c - 87) else (if nat_le 48 c && nat_le c 57 then Some (c - 48) else None))) ≡ Some d
        → (is_hex_digit c ≡ true) × (hex_value c ≡ d)
    upper true t p =
        let none : (nat_le 48 c && nat_le c 57) ≡ false = grind (arith, nat_tests) in
        let not_lower : (nat_le 97 c && nat_le c 102) ≡ false = grind (arith, nat_tests) in
        (rw (none, not_lower, t) refl, rw (none, not_lower, t) (some-is (c - 55) d p))
    upper false t p = lower (nat_le 97 c && nat_le c 102) refl p

-- the digits of bytes are digits, and write those bytes
pub record AreDigitsOf (b digits : List ℕ) : Type 0 where
  pub hex : list_all is_hex_digit digits ≡ true
  pub bytes : hex_bytes digits ≡ b

digits_of : (b : List ℕ) → AreBytes b → AreDigitsOf b (encode_lower b)
unfolding encode_with hex_bytes
digits_of [] h = record { hex = refl; bytes = refl }
digits_of (x ∷ b) h =
    let high = valued (slice_index lower_digits (x / 16)) (x / 16) (IsDigits-lower_digits (x / 16) (omega (arith, h.0))) in
    let low = valued (slice_index lower_digits (x % 16)) (x % 16) (IsDigits-lower_digits (x % 16) (omega arith)) in
    let others = digits_of b h.1 in
    let byte : 16 * (x / 16) + x % 16 ≡ x = omega arith in
    record { hex = rw (high.0, low.0, others.hex) refl; bytes = rw (high.1, low.1, byte, others.bytes) refl }

-- ---- each value

pub written : (x : Datum) → IsValue x → IsWritten (datum_text x) x
written (Int (pos n)) h =
    let small : n < 2 ^ 64 = omega (arith, h) in
    number_written n (decimal n) h (digits_decimal own n small) (digits_value-decimal own n small) (decimal_nonempty n small)
written (Int (negsuc k)) h =
    let small : suc k < 2 ^ 64 = omega (arith, h) in
    negative_written k (decimal (suc k)) h (digits_decimal own (suc k) small) (digits_value-decimal own (suc k) small) (decimal_nonempty (suc k) small)
written (TextDatum s) h = record {
  token = Text s;
  spells = AsText s refl (rw h.1 refl);
  good = refl;
  solid = λ rest. refl;
  means = refl;
  ends = λ rest closes. text_ends s rest (stops_text rest closes);
}
written (BytesDatum b) h =
    let d = digits_of b h in
    let even : length (encode_lower b) % 2 ≡ 0 = omega (arith, length-encode_with lower_digits b) in
    record {
      token = Bytes b;
      spells = AsBytes 120 (encode_lower b) refl refl d.hex even (ap Bytes (sym d.bytes));
      good = refl;
      solid = λ rest. refl;
      means = refl;
      ends = λ rest closes. closed_ends 120 (encode_lower b) rest refl d.hex;
    }
written (Truth true) h = record {
  token = Word (codes "true");
  spells = AsWord refl refl;
  good = refl;
  solid = λ rest. refl;
  means = refl;
  ends = λ rest closes. word_ends 116 (codes "rue") rest refl refl (stops_word rest closes) refl;
}
written (Truth false) h = record {
  token = Word (codes "false");
  spells = AsWord refl refl;
  good = refl;
  solid = λ rest. refl;
  means = refl;
  ends = λ rest closes. word_ends 102 (codes "alse") rest refl refl (stops_word rest closes) refl;
}
written Null h = record {
  token = Word (codes "null");
  spells = AsWord refl refl;
  good = refl;
  solid = λ rest. refl;
  means = refl;
  ends = λ rest closes. word_ends 78 (codes "ULL") rest refl refl (stops_word rest closes) refl;
}
