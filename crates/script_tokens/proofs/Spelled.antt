-- What spellings that begin with a byte are, and the one token of each.
use Rattle.std.proofs.Common.{◌≡◌, ℕ, ◌%◌, Bool, true, false, ◌==◌, List, [], ◌∷◌, ◌++◌, length, refl, sym, ap, ◌∙◌, arith, ◌⊎◌, inl, inr, true≢false}
use Rattle.std.specs.List.{list_all}
use Rattle.std.proofs.lemmas.Bool.Decides.{nat_tests}
use Rattle.std.proofs.lemmas.List.{append_cancel_right}
use Rattle.list_laws.proofs.Bools.{and-left, and-right}
use Rattle.script_tokens.specs.declared.token.Token.{Token}
use Rattle.script_tokens.specs.declared.token.Token.TheVariants.{Bytes, Mark}
use Rattle.script_tokens.specs.Tokens.{is_digit, is_word_start, is_word_byte, is_mark_byte, is_hex_digit, number_from, number_token, hex_bytes}
use Rattle.script_tokens.specs.Spellings.{Spells, AsWord, AsNumber, AsNegative, AsText, AsBytes, AsMark, are_digits, double_quotes, is_x, word_of, text_of}
use Rattle.script_tokens.proofs.Quotes.{closed_same}

-- ---- classes of first bytes

start_no_digit : (b : ℕ) → is_word_start b ≡ true → is_digit b ≡ true → true ≡ false
start_no_digit b h k = grind (arith, nat_tests)

start_no_mark : (b : ℕ) → is_word_start b ≡ true → is_mark_byte b ≡ true → true ≡ false
start_no_mark b h k = grind (arith, nat_tests)

digit_no_mark : (b : ℕ) → is_digit b ≡ true → is_mark_byte b ≡ true → true ≡ false
digit_no_mark b h k = grind (arith, nat_tests)

pub x_starts : (b : ℕ) → is_x b ≡ true → is_word_start b ≡ true
x_starts b h = grind (arith, nat_tests)

-- ---- a spelling by its first byte and the others

-- a bytes token whose first byte is b
pub record IsBytesOf (b : ℕ) (w : List ℕ) (t : Token) : Type 0 where
  pub digits : List ℕ
  pub x : is_x b ≡ true
  pub rest : w ≡ 39 ∷ (digits ++ 39 ∷ [])
  pub hex : list_all is_hex_digit digits ≡ true
  pub even : length digits % 2 ≡ 0
  pub token : t ≡ Bytes (hex_bytes digits)

-- a word, or a bytes token
abbrev pub InWord : ℕ → List ℕ → Token → Type 0
InWord b w t = (list_all is_word_byte w ≡ true) × (t ≡ word_of (b ∷ w)) ⊎ IsBytesOf b w t

bytes_of : (b x : ℕ) (w ds : List ℕ) (t : Token) → is_x x ≡ true → b ∷ w ≡ x ∷ 39 ∷ (ds ++ 39 ∷ []) → list_all is_hex_digit ds ≡ true → length ds % 2 ≡ 0
    → t ≡ Bytes (hex_bytes ds) → IsBytesOf b w t
bytes_of b x w ds t is shape hex even token =
    let first : b ≡ x = cc in
    let others : w ≡ 39 ∷ (ds ++ 39 ∷ []) = cc in
    record { digits = ds; x = rw first is; rest = others; hex = hex; even = even; token = token }

pub in_word : (b : ℕ) (w : List ℕ) (t : Token) → is_word_start b ≡ true → Spells (b ∷ w) t → InWord b w t
in_word b w t start (AsWord is token) = inl (and-right (is_word_start b) (list_all is_word_byte w) is, token)
in_word b w t start (AsNumber is token) = absurd (true≢false (start_no_digit b start (and-left (is_digit b) (list_all is_digit w) is)))
in_word b w t start (AsNegative ds shape is token) =
    let first : b ≡ 45 = cc in
    absurd (true≢false (sym (rw first at start)))
in_word b w t start (AsText s shape token) =
    let first : b ≡ 39 = cc in
    absurd (true≢false (sym (rw first at start)))
in_word b w t start (AsBytes x ds is shape hex even token) = inr (bytes_of b x w ds t is shape hex even token)
in_word b w t start (AsMark m shape is token) =
    let first : b ≡ m = cc in
    absurd (true≢false (start_no_mark b start (rw first is)))

pub in_number : (b : ℕ) (w : List ℕ) (t : Token) → is_digit b ≡ true → Spells (b ∷ w) t → (list_all is_digit w ≡ true) × (t ≡ number_token false (number_from 0 (b ∷ w)))
in_number b w t digit (AsWord is token) = absurd (true≢false (start_no_digit b (and-left (is_word_start b) (list_all is_word_byte w) is) digit))
in_number b w t digit (AsNumber is token) = (and-right (is_digit b) (list_all is_digit w) is, token)
in_number b w t digit (AsNegative ds shape is token) =
    let first : b ≡ 45 = cc in
    absurd (true≢false (sym (rw first at digit)))
in_number b w t digit (AsText s shape token) =
    let first : b ≡ 39 = cc in
    absurd (true≢false (sym (rw first at digit)))
in_number b w t digit (AsBytes x ds is shape hex even token) =
    let first : b ≡ x = cc in
    absurd (true≢false (start_no_digit b (x_starts b (rw first is)) digit))
in_number b w t digit (AsMark m shape is token) =
    let first : b ≡ m = cc in
    absurd (true≢false (digit_no_mark b digit (rw first is)))

pub in_negative : (w : List ℕ) (t : Token) → Spells (45 ∷ w) t → (are_digits w ≡ true) × (t ≡ number_token true (number_from 0 w))
in_negative w t (AsWord is token) = absurd (true≢false (sym is))
in_negative w t (AsNumber is token) = absurd (true≢false (sym is))
in_negative w t (AsNegative ds shape is token) =
    let others : w ≡ ds = cc in
    (rw others is, rw others token)
in_negative w t (AsText s shape token) = absurd (no45 shape)
  where
    no45 : 45 ∷ w ≡ 39 ∷ (double_quotes s ++ 39 ∷ []) → ⊥
    no45 e = cc
in_negative w t (AsBytes x ds is shape hex even token) =
    let first : 45 ≡ x = cc in
    absurd (true≢false (sym (rw (← first) at is)))
in_negative w t (AsMark m shape is token) =
    let first : 45 ≡ m = cc in
    absurd (true≢false (sym (rw (← first) at is)))

-- a text whose first quote is taken off
pub record IsTextOf (w : List ℕ) (t : Token) : Type 0 where
  pub text : List ℕ
  pub rest : w ≡ double_quotes text ++ 39 ∷ []
  pub token : t ≡ text_of text

pub in_text : (w : List ℕ) (t : Token) → Spells (39 ∷ w) t → IsTextOf w t
in_text w t (AsWord is token) = absurd (true≢false (sym is))
in_text w t (AsNumber is token) = absurd (true≢false (sym is))
in_text w t (AsNegative ds shape is token) = absurd (no39 shape)
  where
    no39 : 39 ∷ w ≡ 45 ∷ ds → ⊥
    no39 e = cc
in_text w t (AsText s shape token) =
    let others : w ≡ double_quotes s ++ 39 ∷ [] = cc in
    record { text = s; rest = others; token = token }
in_text w t (AsBytes x ds is shape hex even token) =
    let first : 39 ≡ x = cc in
    absurd (true≢false (sym (rw (← first) at is)))
in_text w t (AsMark m shape is token) =
    let first : 39 ≡ m = cc in
    absurd (true≢false (sym (rw (← first) at is)))

pub in_mark : (b : ℕ) (w : List ℕ) (t : Token) → is_mark_byte b ≡ true → Spells (b ∷ w) t → (w ≡ []) × (t ≡ Mark b)
in_mark b w t mark (AsWord is token) = absurd (true≢false (start_no_mark b (and-left (is_word_start b) (list_all is_word_byte w) is) mark))
in_mark b w t mark (AsNumber is token) = absurd (true≢false (digit_no_mark b (and-left (is_digit b) (list_all is_digit w) is) mark))
in_mark b w t mark (AsNegative ds shape is token) =
    let first : b ≡ 45 = cc in
    absurd (true≢false (sym (rw first at mark)))
in_mark b w t mark (AsText s shape token) =
    let first : b ≡ 39 = cc in
    absurd (true≢false (sym (rw first at mark)))
in_mark b w t mark (AsBytes x ds is shape hex even token) =
    let first : b ≡ x = cc in
    absurd (true≢false (start_no_mark b (x_starts b (rw first is)) mark))
in_mark b w t mark (AsMark m shape is token) =
    let first : b ≡ m = cc in
    let others : w ≡ [] = cc in
    (others, rw first token)

-- bytes of no class begin no spelling
pub in_none : (b : ℕ) (w : List ℕ) (t : Token) → is_word_start b ≡ false → is_digit b ≡ false → (b == 45) ≡ false → (b == 39) ≡ false → is_mark_byte b ≡ false → Spells (b ∷ w) t → true ≡ false
in_none b w t no_word no_digit no_dash no_quote no_mark (AsWord is token) = sym (and-left (is_word_start b) (list_all is_word_byte w) is) ∙ no_word
in_none b w t no_word no_digit no_dash no_quote no_mark (AsNumber is token) = sym (and-left (is_digit b) (list_all is_digit w) is) ∙ no_digit
in_none b w t no_word no_digit no_dash no_quote no_mark (AsNegative ds shape is token) =
    let first : b ≡ 45 = cc in
    rw first at no_dash
in_none b w t no_word no_digit no_dash no_quote no_mark (AsText s shape token) =
    let first : b ≡ 39 = cc in
    rw first at no_quote
in_none b w t no_word no_digit no_dash no_quote no_mark (AsBytes x ds is shape hex even token) =
    let first : b ≡ x = cc in
    sym (x_starts b (rw first is)) ∙ no_word
in_none b w t no_word no_digit no_dash no_quote no_mark (AsMark m shape is token) =
    let first : b ≡ m = cc in
    sym (rw first is) ∙ no_mark

pub spells_some : (t : Token) → Spells [] t → ⊥
spells_some t (AsWord is token) = true≢false (sym is)
spells_some t (AsNumber is token) = true≢false (sym is)
spells_some t (AsNegative ds shape is token) = cc
spells_some t (AsText s shape token) = cc
spells_some t (AsBytes x ds is shape hex even token) = cc
spells_some t (AsMark m shape is token) = cc

-- ---- one token

-- a word isn't `x` or `X` and a quote
pub no_quote_in_word : (w ds : List ℕ) → list_all is_word_byte w ≡ true → w ≡ 39 ∷ ds → ⊥
no_quote_in_word w ds all shape = true≢false (sym (rw shape at all))

bytes_same : (b : ℕ) (w : List ℕ) (t u : Token) → IsBytesOf b w t → IsBytesOf b w u → t ≡ u
bytes_same b w t u one other =
    let ends : one.digits ++ 39 ∷ [] ≡ other.digits ++ 39 ∷ [] = tails (sym one.rest ∙ other.rest) in
    let digits : one.digits ≡ other.digits = append_cancel_right one.digits other.digits (39 ∷ []) ends in
    one.token ∙ (ap (λ ds. Bytes (hex_bytes ds)) digits ∙ sym other.token)
  where
    tails : 39 ∷ (one.digits ++ 39 ∷ []) ≡ 39 ∷ (other.digits ++ 39 ∷ []) → one.digits ++ 39 ∷ [] ≡ other.digits ++ 39 ∷ []
    tails e = cc

words_same : (b : ℕ) (w : List ℕ) (t u : Token) → InWord b w t → InWord b w u → t ≡ u
words_same b w t u (inl p) (inl q) = p.1 ∙ sym q.1
words_same b w t u (inl p) (inr q) = absurd (no_quote_in_word w (q.digits ++ 39 ∷ []) p.0 q.rest)
words_same b w t u (inr p) (inl q) = absurd (no_quote_in_word w (p.digits ++ 39 ∷ []) q.0 p.rest)
words_same b w t u (inr p) (inr q) = bytes_same b w t u p q

texts_same : (w : List ℕ) (t u : Token) → IsTextOf w t → IsTextOf w u → t ≡ u
texts_same w t u one other =
    let texts : one.text ≡ other.text = closed_same one.text other.text (sym one.rest ∙ other.rest) in
    one.token ∙ (ap text_of texts ∙ sym other.token)

-- a spelling is of one token
pub one_token : (bs : List ℕ) (t u : Token) → Spells bs t → Spells bs u → t ≡ u
one_token [] t u s r = absurd (spells_some t s)
one_token (b ∷ w) t u s r = start (is_word_start b) refl
  where
    none : is_word_start b ≡ false → is_digit b ≡ false → (b == 45) ≡ false → (b == 39) ≡ false → (x : Bool) → is_mark_byte b ≡ x → t ≡ u
    none a d m q true e = (in_mark b w t e s).1 ∙ sym (in_mark b w u e r).1
    none a d m q false e = absurd (true≢false (in_none b w t a d m q e s))

    quote : is_word_start b ≡ false → is_digit b ≡ false → (b == 45) ≡ false → (x : Bool) → (b == 39) ≡ x → t ≡ u
    quote a d m true e = let is : b ≡ 39 = grind (arith, nat_tests) in texts_same w t u (in_text w t (rw is at s)) (in_text w u (rw is at r))
    quote a d m false e = none a d m e (is_mark_byte b) refl

    dash : is_word_start b ≡ false → is_digit b ≡ false → (x : Bool) → (b == 45) ≡ x → t ≡ u
    dash a d true e = let is : b ≡ 45 = grind (arith, nat_tests) in (in_negative w t (rw is at s)).1 ∙ sym (in_negative w u (rw is at r)).1
    dash a d false e = quote a d e (b == 39) refl

    digit : is_word_start b ≡ false → (x : Bool) → is_digit b ≡ x → t ≡ u
    digit a true e = (in_number b w t e s).1 ∙ sym (in_number b w u e r).1
    digit a false e = dash a e (b == 45) refl

    start : (x : Bool) → is_word_start b ≡ x → t ≡ u
    start true e = words_same b w t u (in_word b w t e s) (in_word b w u e r)
    start false e = digit e (is_digit b) refl
