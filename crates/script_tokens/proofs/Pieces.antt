-- The pieces of a line are its longest spellings, and no other pieces are.
use Rattle.std.proofs.Common.{◌≡◌, ℕ, suc, ◌+◌, ◌%◌, ◌<◌, ◌≤◌, Bool, true, false, ◌&&◌, ◌==◌, nat_le, nat_lt, if◌then◌else◌, List, [], ◌∷◌, ◌++◌, length, drop, map, Option, Some, None, refl, sym, ap, ◌∙◌, arith, ◌⊎◌, inl, inr, true≢false, append_assoc}
use Rattle.std.specs.List.{list_all, take_while}
use Rattle.std.specs.Char.{to_ascii_lowercase}
use Rattle.std.specs.Str.{is_utf8}
use Rattle.std.proofs.lemmas.Bool.Decides.{nat_tests}
use Rattle.std.proofs.lemmas.List.{append-nil, length-append}
use Rattle.std.proofs.lemmas.List.Sums.{take_while-cons}
use Rattle.std.proofs.Math.Seq.{drop-append_seam}
use Rattle.list_laws.proofs.Bools.{and-left, and-right}
use Rattle.table_descriptors.specs.Names.{is_name}
use Rattle.script_tokens.specs.declared.token.Token.{Token}
use Rattle.script_tokens.specs.declared.token.Token.TheVariants.{Word, Text, Bytes, Mark, Bad}
use Rattle.script_tokens.specs.Tokens.{Cut, cut, is_bad, is_digit, is_word_start, is_word_byte, is_mark_byte, is_hex_digit, begins_with_quote, begins_bytes, number_from, number_token, number_cut, negative_cut, text_body, text_cut, utf8_cut, utf8_text, hex_bytes, bytes_cut, bytes_after, word_token, word_or_bad, first_token}
use Rattle.script_tokens.specs.Spellings.{Spells, AsWord, AsNumber, AsNegative, AsText, AsBytes, AsMark, are_digits, double_quotes, is_x, word_of, text_of, BeginsSpelling, IsLongest, IsTokenOf}
use Rattle.script_tokens.proofs.WordNames.{word_is_name}
use Rattle.script_tokens.proofs.Quotes.{IsBody, body_parts, closed_stops, open_not_closed}
use Rattle.script_tokens.proofs.Spelled.{IsBytesOf, x_starts, in_word, in_number, in_negative, in_text, in_mark, in_none, spells_some}

-- ---- the front of a list that passes a test

-- nothing is left, or what doesn't pass
abbrev pub StopsAt : (ℕ → Bool) → List ℕ → Type 0
StopsAt p [] = Unit {0}
StopsAt p (b ∷ bs) = p b ≡ false

pub record Run (p : ℕ → Bool) (xs : List ℕ) : Type 0 where
  pub front : List ℕ
  pub back : List ℕ
  pub split : xs ≡ front ++ back
  pub is_front : take_while p xs ≡ front
  pub passes : list_all p front ≡ true
  pub stops : StopsAt p back

run_of : (p : ℕ → Bool) (xs : List ℕ) → Run p xs
run_of p [] = record { front = []; back = []; split = refl; is_front = refl; passes = refl; stops = tt }
run_of p (x ∷ xs) = go (run_of p xs) (p x) refl
  where
    go : Run p xs → (y : Bool) → p x ≡ y → Run p (x ∷ xs)
    go r true e = record { front = x ∷ r.front; back = r.back; split = ap (λ ys. x ∷ ys) r.split; is_front = rw (take_while-cons p x xs, e, r.is_front) refl; passes = rw (e, r.passes) refl; stops = r.stops }
    go r false e = record { front = []; back = x ∷ xs; split = refl; is_front = rw (take_while-cons p x xs, e) refl; passes = refl; stops = e }

-- what stands among bytes that pass, passes
middle : (p : ℕ → Bool) (w : List ℕ) (e : ℕ) (more : List ℕ) → list_all p ((w ++ e ∷ []) ++ more) ≡ true → p e ≡ true
middle p [] e more h = and-left (p e) (list_all p more) h
middle p (c ∷ w) e more h = middle p w e more (and-right (p c) (list_all p ((w ++ e ∷ []) ++ more)) h)

clash : (x : Bool) → x ≡ true → x ≡ false → ⊥
clash x p q = true≢false (sym p ∙ q)

-- ---- the longest bytes with which a spelling begins

-- with the next byte they begin none
abbrev pub Ends : List ℕ → List ℕ → Type 0
Ends bytes [] = Unit {0}
Ends bytes (e ∷ rest) = BeginsSpelling (bytes ++ e ∷ []) → ⊥

-- a front of bytes and rest that is longer than the bytes
record Over (bytes rest front : List ℕ) : Type 0 where
  pub next : ℕ
  pub others : List ℕ
  pub more : List ℕ
  pub is_rest : rest ≡ next ∷ others
  pub is_front : front ≡ bytes ++ next ∷ more

over : (bytes rest front back : List ℕ) → front ++ back ≡ bytes ++ rest → length bytes < length front → Over bytes rest front
over [] rest [] back same long = absurd (omega (arith, long))
over [] rest (f ∷ front) back same long = record { next = f; others = front ++ back; more = front; is_rest = sym same; is_front = refl }
over (b ∷ bytes) rest [] back same long = absurd (omega (arith, long))
over (b ∷ bytes) rest (f ∷ front) back same long =
    let first : f ≡ b = cc in
    let tails : front ++ back ≡ bytes ++ rest = cc in
    let o = over bytes rest front back tails (omega (arith, long)) in
    record { next = o.next; others = o.others; more = o.more; is_rest = o.is_rest; is_front = ap (λ c. c ∷ front) first ∙ ap (λ ys. b ∷ ys) o.is_front }

shorter : (bytes : List ℕ) (e : ℕ) (more : List ℕ) → BeginsSpelling (bytes ++ e ∷ more) → BeginsSpelling (bytes ++ e ∷ [])
shorter bytes e more (others, t, s) =
    let same : (bytes ++ e ∷ more) ++ others ≡ (bytes ++ e ∷ []) ++ (more ++ others) = append_assoc bytes (e ∷ more) others ∙ sym (append_assoc bytes (e ∷ []) (more ++ others)) in
    (more ++ others, t, rw same at s)

past : (bytes rest front : List ℕ) (e : ℕ) (others more : List ℕ) → rest ≡ e ∷ others → front ≡ bytes ++ e ∷ more → Ends bytes rest → BeginsSpelling front → ⊥
past bytes rest front e others more is_rest is_front ends some =
    let stop : Ends bytes (e ∷ others) = rw is_rest at ends in
    let begins : BeginsSpelling (bytes ++ e ∷ more) = rw is_front at some in
    stop (shorter bytes e more begins)

pub longest_of : (bytes rest : List ℕ) → BeginsSpelling bytes → Ends bytes rest → IsLongest bytes rest
longest_of bytes rest begins ends = record { begins = begins; longest = λ front back same some. bound front back same some (nat_lt (length bytes) (length front)) refl }
  where
    bound : (front back : List ℕ) → front ++ back ≡ bytes ++ rest → BeginsSpelling front → (x : Bool) → nat_lt (length bytes) (length front) ≡ x → length front ≤ length bytes
    bound front back same some true e =
        let o = over bytes rest front back same (grind (arith, nat_tests)) in
        absurd (past bytes rest front o.next o.others o.more o.is_rest o.is_front ends some)
    bound front back same some false e = grind (arith, nat_tests)

pub begun : (bs : List ℕ) (t : Token) → Spells bs t → BeginsSpelling bs
begun bs t s = ([], t, rw (append-nil bs) s)

-- ---- the token at the front, by its first byte

-- What was cut off is the longest piece and its token. How long it is matters only where it is a token.
pub record IsFirst (b : ℕ) (bs : List ℕ) (c : Cut) : Type 0 where
  pub bytes : List ℕ
  pub rest : List ℕ
  pub split : b ∷ bs ≡ bytes ++ rest
  pub longest : IsLongest bytes rest
  pub token : IsTokenOf bytes c.token
  pub len : is_bad c.token ≡ false → c.len ≡ length bytes

-- words

named_word : (x : Bool) (n : List ℕ) → word_or_bad (if x then Some n else None) ≡ (if x then Word n else Bad)
named_word true n = refl
named_word false n = refl

word_token_of : (b : ℕ) (bs w : List ℕ) → is_word_start b ≡ true → take_while is_word_byte (b ∷ bs) ≡ w → word_token w ≡ word_of w
word_token_of b bs w start shape =
    let name : is_name (map to_ascii_lowercase w) ≡ nat_le (length w) 32 = rw shape at (word_is_name b bs start) in
    named_word (is_name (map to_ascii_lowercase w)) (map to_ascii_lowercase w) ∙ ap (λ (x : Bool). if x then Word (map to_ascii_lowercase w) else Bad) name

no_x_here : (b e : ℕ) (rest : List ℕ) → is_x b ≡ true → e ≡ 39 → begins_bytes b (e ∷ rest) ≡ false → ⊥
no_x_here b e rest x quote begins = true≢false (rw (x, quote) at begins)

pub word_ends : (b : ℕ) (w rest : List ℕ) → is_word_start b ≡ true → list_all is_word_byte w ≡ true → StopsAt is_word_byte rest → begins_bytes b (w ++ rest) ≡ false → Ends (b ∷ w) rest
word_ends b w [] start all stops no_x = tt
word_ends b w (e ∷ rest) start all stops no_x = λ some. by w all no_x some.0 some.1 (in_word b ((w ++ e ∷ []) ++ some.0) some.1 start some.2)
  where
    by : (w : List ℕ) → list_all is_word_byte w ≡ true → begins_bytes b (w ++ e ∷ rest) ≡ false → (more : List ℕ) (t : Token)
        → ((list_all is_word_byte ((w ++ e ∷ []) ++ more) ≡ true) × (t ≡ word_of (b ∷ ((w ++ e ∷ []) ++ more)))) ⊎ IsBytesOf b ((w ++ e ∷ []) ++ more) t → ⊥
    by w all no_x more t (inl p) = clash (is_word_byte e) (middle is_word_byte w e more p.0) stops
    by [] all no_x more t (inr q) =
        let rest_is : e ∷ more ≡ 39 ∷ (q.digits ++ 39 ∷ []) = q.rest in
        let quote : e ≡ 39 = cc in
        no_x_here b e rest q.x quote no_x
    by (c ∷ w) all no_x more t (inr q) =
        let rest_is : c ∷ ((w ++ e ∷ []) ++ more) ≡ 39 ∷ (q.digits ++ 39 ∷ []) = q.rest in
        let quote : c ≡ 39 = cc in
        true≢false (sym (rw quote at all))

word_first : (b : ℕ) (bs : List ℕ) → begins_bytes b bs ≡ false → is_word_start b ≡ true
    → IsFirst b bs (cut (word_token (take_while is_word_byte (b ∷ bs))) (length (take_while is_word_byte (b ∷ bs))))
word_first b bs no_x start =
    let r = run_of is_word_byte bs in
    let byte : is_word_byte b ≡ true = rw start refl in
    let shape : take_while is_word_byte (b ∷ bs) ≡ b ∷ r.front = rw (take_while-cons is_word_byte b bs, byte, r.is_front) refl in
    let is : word_token (take_while is_word_byte (b ∷ bs)) ≡ word_of (b ∷ r.front) = ap word_token shape ∙ word_token_of b bs (b ∷ r.front) start shape in
    let s : Spells (b ∷ r.front) (word_token (take_while is_word_byte (b ∷ bs))) = AsWord (rw (start, r.passes) refl) is in
    let no : begins_bytes b (r.front ++ r.back) ≡ false = ap (λ (ys : List ℕ). begins_bytes b ys) (sym r.split) ∙ no_x in
    record {
      bytes = b ∷ r.front;
      rest = r.back;
      split = ap (λ ys. b ∷ ys) r.split;
      longest = longest_of (b ∷ r.front) r.back (begun (b ∷ r.front) (word_token (take_while is_word_byte (b ∷ bs))) s) (word_ends b r.front r.back start r.passes r.stops no);
      token = inl s;
      len = λ good. ap length shape;
    }

-- numbers

pub number_ends : (b : ℕ) (w rest : List ℕ) → is_digit b ≡ true → StopsAt is_digit rest → Ends (b ∷ w) rest
number_ends b w [] digit stops = tt
number_ends b w (e ∷ rest) digit stops = λ some. clash (is_digit e) (middle is_digit w e some.0 (in_number b ((w ++ e ∷ []) ++ some.0) some.1 digit some.2).0) stops

number_first : (b : ℕ) (bs : List ℕ) → is_digit b ≡ true → IsFirst b bs (number_cut false (take_while is_digit (b ∷ bs)))
number_first b bs digit =
    let r = run_of is_digit bs in
    let shape : take_while is_digit (b ∷ bs) ≡ b ∷ r.front = rw (take_while-cons is_digit b bs, digit, r.is_front) refl in
    let is : number_token false (number_from 0 (take_while is_digit (b ∷ bs))) ≡ number_token false (number_from 0 (b ∷ r.front)) = ap (λ ds. number_token false (number_from 0 ds)) shape in
    let s : Spells (b ∷ r.front) (number_token false (number_from 0 (take_while is_digit (b ∷ bs)))) = AsNumber (rw (digit, r.passes) refl) is in
    record {
      bytes = b ∷ r.front;
      rest = r.back;
      split = ap (λ ys. b ∷ ys) r.split;
      longest = longest_of (b ∷ r.front) r.back (begun (b ∷ r.front) (number_token false (number_from 0 (take_while is_digit (b ∷ bs)))) s) (number_ends b r.front r.back digit r.stops);
      token = inl s;
      len = λ good. ap length shape;
    }

pub negative_ends : (w rest : List ℕ) → StopsAt is_digit rest → Ends (45 ∷ w) rest
negative_ends w [] stops = tt
negative_ends w (e ∷ rest) stops = λ some. clash (is_digit e) (last w some.0 (in_negative ((w ++ e ∷ []) ++ some.0) some.1 some.2).0) stops
  where
    last : (w more : List ℕ) → are_digits ((w ++ e ∷ []) ++ more) ≡ true → is_digit e ≡ true
    last [] more h = and-left (is_digit e) (list_all is_digit more) h
    last (c ∷ w) more h = middle is_digit w e more (and-right (is_digit c) (list_all is_digit ((w ++ e ∷ []) ++ more)) h)

negative_cut_first : (ds rest : List ℕ) → list_all is_digit ds ≡ true → StopsAt is_digit rest → IsFirst 45 (ds ++ rest) (negative_cut ds)
negative_cut_first [] rest all stops = record {
  bytes = 45 ∷ [];
  rest = rest;
  split = refl;
  longest = longest_of (45 ∷ []) rest (48 ∷ [], number_token true 0, AsNegative (48 ∷ []) refl refl refl) (negative_ends [] rest stops);
  token = inr (refl, λ u s. true≢false (sym (in_negative [] u s).0));
  len = λ good. absurd (true≢false good);
}
negative_cut_first (d ∷ ds) rest all stops =
    let s : Spells (45 ∷ d ∷ ds) (number_token true (number_from 0 (d ∷ ds))) = AsNegative (d ∷ ds) refl all refl in
    record {
      bytes = 45 ∷ d ∷ ds;
      rest = rest;
      split = refl;
      longest = longest_of (45 ∷ d ∷ ds) rest (begun (45 ∷ d ∷ ds) (number_token true (number_from 0 (d ∷ ds))) s) (negative_ends (d ∷ ds) rest stops);
      token = inl s;
      len = λ good. plus (length ds);
    }
  where
    plus : (n : ℕ) → 1 + suc n ≡ suc (suc n)
    plus n = omega arith

negative_first : (bs : List ℕ) → IsFirst 45 bs (negative_cut (take_while is_digit bs))
negative_first bs =
    let r = run_of is_digit bs in
    rw (r.is_front) (rw (← r.split) at (negative_cut_first r.front r.back r.passes r.stops))

-- texts

text_token_of : (s : List ℕ) (n : ℕ) → (utf8_cut (utf8_text s) n).token ≡ text_of s
text_token_of s n = go (is_utf8 s)
  where
    go : (x : Bool) → (utf8_cut (if x then Some s else None) n).token ≡ (if x then Text s else Bad)
    go true = refl
    go false = refl

text_len_of : (s : List ℕ) (n : ℕ) → is_bad (utf8_cut (utf8_text s) n).token ≡ false → (utf8_cut (utf8_text s) n).len ≡ 1 + n
text_len_of s n = go (is_utf8 s)
  where
    go : (x : Bool) → is_bad (utf8_cut (if x then Some s else None) n).token ≡ false → (utf8_cut (if x then Some s else None) n).len ≡ 1 + n
    go true good = refl
    go false good = absurd (true≢false good)

pub text_ends : (s rest : List ℕ) → begins_with_quote rest ≡ false → Ends (39 ∷ (double_quotes s ++ 39 ∷ [])) rest
text_ends s [] stops = tt
text_ends s (e ∷ rest) stops = λ some. by some.0 some.1 some.2
  where
    by : (more : List ℕ) (t : Token) → Spells (39 ∷ (((double_quotes s ++ 39 ∷ []) ++ e ∷ []) ++ more)) t → ⊥
    by more t spelled =
        let q = in_text (((double_quotes s ++ 39 ∷ []) ++ e ∷ []) ++ more) t spelled in
        let one : ((double_quotes s ++ 39 ∷ []) ++ e ∷ []) ++ more ≡ (double_quotes s ++ 39 ∷ []) ++ (e ∷ more) = append_assoc (double_quotes s ++ 39 ∷ []) (e ∷ []) more in
        let two : (double_quotes s ++ 39 ∷ []) ++ (e ∷ more) ≡ double_quotes s ++ 39 ∷ (e ∷ more) = append_assoc (double_quotes s) (39 ∷ []) (e ∷ more) in
        closed_stops s q.text more e stops (sym (one ∙ two) ∙ q.rest)

text_first : (bs : List ℕ) → IsFirst 39 bs (text_cut (text_body bs))
text_first bs = go (text_body bs) (body_parts bs)
  where
    go : (o : Option (List ℕ × ℕ)) → IsBody bs o → IsFirst 39 bs (text_cut o)
    go None (s, same) = record {
      bytes = 39 ∷ bs;
      rest = [];
      split = ap (λ ys. 39 ∷ ys) (sym (append-nil bs));
      longest = longest_of (39 ∷ bs) [] (39 ∷ [], text_of s, AsText s (ap (λ (ys : List ℕ). 39 ∷ (ys ++ 39 ∷ [])) same) refl) tt;
      token = inr (refl, λ u spelled. open_not_closed s (in_text bs u spelled).text (sym same ∙ (in_text bs u spelled).rest));
      len = λ good. absurd (true≢false good);
    }
    go (Some x) (rest, same, stops, len) =
        let s : Spells (39 ∷ (double_quotes x.0 ++ 39 ∷ [])) (utf8_cut (utf8_text x.0) x.1).token = AsText x.0 refl (text_token_of x.0 x.1) in
        record {
          bytes = 39 ∷ (double_quotes x.0 ++ 39 ∷ []);
          rest = rest;
          split = ap (λ ys. 39 ∷ ys) (same ∙ sym (append_assoc (double_quotes x.0) (39 ∷ []) rest));
          longest = longest_of (39 ∷ (double_quotes x.0 ++ 39 ∷ [])) rest (begun (39 ∷ (double_quotes x.0 ++ 39 ∷ [])) (utf8_cut (utf8_text x.0) x.1).token s) (text_ends x.0 rest stops);
          token = inl s;
          len = λ good. text_len_of x.0 x.1 good ∙ long (double_quotes x.0) x.1 len;
        }
      where
        long : (ys : List ℕ) (n : ℕ) → n ≡ length ys + 1 → 1 + n ≡ length (39 ∷ (ys ++ 39 ∷ []))
        long ys n e = omega (arith, e, length-append ys (39 ∷ []))

-- bytes

-- digits and a byte that is none, against digits and a quote
hex_parts : (ds es : List ℕ) (e : ℕ) (more : List ℕ) → list_all is_hex_digit ds ≡ true → list_all is_hex_digit es ≡ true → is_hex_digit e ≡ false
    → ds ++ e ∷ more ≡ es ++ 39 ∷ [] → (ds ≡ es) × (e ≡ 39) × (more ≡ [])
hex_parts [] [] e more all all' stop same = (refl, cc, cc)
hex_parts [] (c ∷ es) e more all all' stop same =
    let first : e ≡ c = cc in
    absurd (clash (is_hex_digit e) (rw first (and-left (is_hex_digit c) (list_all is_hex_digit es) all')) stop)
hex_parts (d ∷ ds) [] e more all all' stop same =
    let first : d ≡ 39 = cc in
    absurd (true≢false (sym (rw first at (and-left (is_hex_digit d) (list_all is_hex_digit ds) all))))
hex_parts (d ∷ ds) (c ∷ es) e more all all' stop same =
    let first : d ≡ c = cc in
    let tails : ds ++ e ∷ more ≡ es ++ 39 ∷ [] = cc in
    let again = hex_parts ds es e more (and-right (is_hex_digit d) (list_all is_hex_digit ds) all) (and-right (is_hex_digit c) (list_all is_hex_digit es) all') stop tails in
    (ap (λ c. c ∷ ds) first ∙ ap (λ ys. c ∷ ys) again.0, again.1, again.2)

no_word_of_quote : (w : List ℕ) → list_all is_word_byte (39 ∷ w) ≡ true → ⊥
no_word_of_quote w h = true≢false (sym h)

tail_of : (xs ys : List ℕ) → 39 ∷ xs ≡ 39 ∷ ys → xs ≡ ys
tail_of xs ys e = cc

pub closed_ends : (b : ℕ) (ds rest : List ℕ) → is_x b ≡ true → list_all is_hex_digit ds ≡ true → Ends (b ∷ 39 ∷ (ds ++ 39 ∷ [])) rest
closed_ends b ds [] x all = tt
closed_ends b ds (e ∷ rest) x all = λ some. by some.0 some.1 (in_word b (39 ∷ (((ds ++ 39 ∷ []) ++ e ∷ []) ++ some.0)) some.1 (x_starts b x) some.2)
  where
    some_more : (more : List ℕ) → e ∷ more ≡ [] → ⊥
    some_more more p = cc

    by : (more : List ℕ) (t : Token) → ((list_all is_word_byte (39 ∷ (((ds ++ 39 ∷ []) ++ e ∷ []) ++ more)) ≡ true) × (t ≡ word_of (b ∷ 39 ∷ (((ds ++ 39 ∷ []) ++ e ∷ []) ++ more)))) ⊎ IsBytesOf b (39 ∷ (((ds ++ 39 ∷ []) ++ e ∷ []) ++ more)) t → ⊥
    by more t (inl p) = no_word_of_quote (((ds ++ 39 ∷ []) ++ e ∷ []) ++ more) p.0
    by more t (inr q) =
        let same = tail_of (((ds ++ 39 ∷ []) ++ e ∷ []) ++ more) (q.digits ++ 39 ∷ []) q.rest in
        let one : ((ds ++ 39 ∷ []) ++ e ∷ []) ++ more ≡ (ds ++ 39 ∷ []) ++ (e ∷ more) = append_assoc (ds ++ 39 ∷ []) (e ∷ []) more in
        let two : (ds ++ 39 ∷ []) ++ (e ∷ more) ≡ ds ++ 39 ∷ (e ∷ more) = append_assoc ds (39 ∷ []) (e ∷ more) in
        let parts = hex_parts ds q.digits 39 (e ∷ more) all q.hex refl (sym (one ∙ two) ∙ same) in
        some_more more parts.2

-- digits go on with neither a digit nor the quote that ends them
open_ends : (b : ℕ) (ds rest : List ℕ) → is_x b ≡ true → list_all is_hex_digit ds ≡ true → StopsAt is_hex_digit rest
    → (length ds % 2 ≡ 0 → begins_with_quote rest ≡ true → ⊥) → Ends (b ∷ 39 ∷ ds) rest
open_ends b ds [] x all stops broken = tt
open_ends b ds (e ∷ rest) x all stops broken = λ some. by some.0 some.1 (in_word b (39 ∷ ((ds ++ e ∷ []) ++ some.0)) some.1 (x_starts b x) some.2)
  where
    by : (more : List ℕ) (t : Token) → ((list_all is_word_byte (39 ∷ ((ds ++ e ∷ []) ++ more)) ≡ true) × (t ≡ word_of (b ∷ 39 ∷ ((ds ++ e ∷ []) ++ more)))) ⊎ IsBytesOf b (39 ∷ ((ds ++ e ∷ []) ++ more)) t → ⊥
    by more t (inl p) = no_word_of_quote ((ds ++ e ∷ []) ++ more) p.0
    by more t (inr q) =
        let same = tail_of ((ds ++ e ∷ []) ++ more) (q.digits ++ 39 ∷ []) q.rest in
        let parts = hex_parts ds q.digits e more all q.hex stops (sym (append_assoc ds (e ∷ []) more) ∙ same) in
        let quote : (e == 39) ≡ true = rw parts.1 refl in
        broken (ap (λ (ys : List ℕ). length ys % 2) parts.0 ∙ q.even) quote

open_spells_none : (b : ℕ) (ds : List ℕ) (u : Token) → is_x b ≡ true → list_all is_hex_digit ds ≡ true → Spells (b ∷ 39 ∷ ds) u → ⊥
open_spells_none b ds u x all s = by (in_word b (39 ∷ ds) u (x_starts b x) s)
  where
    last : (es : List ℕ) → list_all is_hex_digit (es ++ 39 ∷ []) ≡ true → ⊥
    last [] h = true≢false (sym h)
    last (c ∷ es) h = last es (and-right (is_hex_digit c) (list_all is_hex_digit (es ++ 39 ∷ [])) h)

    by : ((list_all is_word_byte (39 ∷ ds) ≡ true) × (u ≡ word_of (b ∷ 39 ∷ ds))) ⊎ IsBytesOf b (39 ∷ ds) u → ⊥
    by (inl p) = no_word_of_quote ds p.0
    by (inr q) = last q.digits (rw (tail_of ds (q.digits ++ 39 ∷ []) q.rest) at all)

hex_and_zero : (ds : List ℕ) → list_all is_hex_digit ds ≡ true → list_all is_hex_digit (ds ++ 48 ∷ []) ≡ true
hex_and_zero [] h = refl
hex_and_zero (d ∷ ds) h = rw (and-left (is_hex_digit d) (list_all is_hex_digit ds) h, hex_and_zero ds (and-right (is_hex_digit d) (list_all is_hex_digit ds) h)) refl

is_even : (n : ℕ) → (n % 2 == 0) ≡ true → n % 2 ≡ 0
is_even n e = grind (arith, nat_tests)

-- a digit, if their number is odd, and a quote make them a spelling
open_begins : (b : ℕ) (ds : List ℕ) → is_x b ≡ true → list_all is_hex_digit ds ≡ true → BeginsSpelling (b ∷ 39 ∷ ds)
open_begins b ds x all = go (length ds % 2 == 0) refl
  where
    odd : (n m : ℕ) → (n % 2 == 0) ≡ false → m ≡ n + 1 → m % 2 ≡ 0
    odd n m e is =
        let some : n % 2 ≡ 0 → ⊥ = λ none. true≢false (rw none at e) in
        omega (arith, some, is)

    go : (y : Bool) → (length ds % 2 == 0) ≡ y → BeginsSpelling (b ∷ 39 ∷ ds)
    go true e = (39 ∷ [], Bytes (hex_bytes ds), AsBytes b ds x refl all (is_even (length ds) e) refl)
    go false e =
        let ds' = ds ++ 48 ∷ [] in
        let shape : b ∷ 39 ∷ (ds ++ 48 ∷ 39 ∷ []) ≡ b ∷ 39 ∷ (ds' ++ 39 ∷ []) = ap (λ ys. b ∷ 39 ∷ ys) (sym (append_assoc ds (48 ∷ []) (39 ∷ []))) in
        (48 ∷ 39 ∷ [], Bytes (hex_bytes ds'), AsBytes b ds' x shape (hex_and_zero ds all) (odd (length ds) (length ds') e (length-append ds (48 ∷ []))) refl)

bytes_open : (b : ℕ) (ds es : List ℕ) → is_x b ≡ true → list_all is_hex_digit ds ≡ true → StopsAt is_hex_digit es
    → (length ds % 2 ≡ 0 → begins_with_quote es ≡ true → ⊥) → IsFirst b (39 ∷ (ds ++ es)) (cut Bad 1)
bytes_open b ds es x all stops broken = record {
  bytes = b ∷ 39 ∷ ds;
  rest = es;
  split = refl;
  longest = longest_of (b ∷ 39 ∷ ds) es (open_begins b ds x all) (open_ends b ds es x all stops broken);
  token = inr (refl, λ u s. open_spells_none b ds u x all s);
  len = λ good. absurd (true≢false good);
}

bytes_closed : (b : ℕ) (ds es : List ℕ) → is_x b ≡ true → list_all is_hex_digit ds ≡ true → length ds % 2 ≡ 0 → begins_with_quote es ≡ true
    → IsFirst b (39 ∷ (ds ++ es)) (cut (Bytes (hex_bytes ds)) (3 + length ds))
bytes_closed b ds [] x all even quote = absurd (true≢false (sym quote))
bytes_closed b ds (e ∷ rest) x all even quote =
    let is : e ≡ 39 = grind (arith, nat_tests) in
    let s : Spells (b ∷ 39 ∷ (ds ++ 39 ∷ [])) (Bytes (hex_bytes ds)) = AsBytes b ds x refl all even refl in
    record {
      bytes = b ∷ 39 ∷ (ds ++ 39 ∷ []);
      rest = rest;
      split = ap (λ (c : ℕ). b ∷ 39 ∷ (ds ++ c ∷ rest)) is ∙ ap (λ ys. b ∷ 39 ∷ ys) (sym (append_assoc ds (39 ∷ []) rest));
      longest = longest_of (b ∷ 39 ∷ (ds ++ 39 ∷ [])) rest (begun (b ∷ 39 ∷ (ds ++ 39 ∷ [])) (Bytes (hex_bytes ds)) s) (closed_ends b ds rest x all);
      token = inl s;
      len = λ good. long ds;
    }
  where
    long : (ys : List ℕ) → 3 + length ys ≡ length (b ∷ 39 ∷ (ys ++ 39 ∷ []))
    long ys = omega (arith, length-append ys (39 ∷ []))

bytes_cut_first : (b : ℕ) (ds es : List ℕ) → is_x b ≡ true → list_all is_hex_digit ds ≡ true → StopsAt is_hex_digit es → IsFirst b (39 ∷ (ds ++ es)) (bytes_cut ds es)
bytes_cut_first b ds es x all stops = go (length ds % 2 == 0) refl (begins_with_quote es) refl
  where
    go : (y : Bool) → (length ds % 2 == 0) ≡ y → (z : Bool) → begins_with_quote es ≡ z
        → IsFirst b (39 ∷ (ds ++ es)) (if y && z then cut (Bytes (hex_bytes ds)) (3 + length ds) else cut Bad 1)
    go true e true q = bytes_closed b ds es x all (is_even (length ds) e) q
    go true e false q = bytes_open b ds es x all stops (λ even quote. clash (begins_with_quote es) quote q)
    go false e z q = bytes_open b ds es x all stops (λ even quote. clash (length ds % 2 == 0) (rw even refl) e)

bytes_first : (b : ℕ) (bs : List ℕ) → begins_bytes b bs ≡ true → IsFirst b bs (bytes_after (drop 1 bs))
bytes_first b [] h = absurd (true≢false (sym (and-right (is_x b) false h)))
bytes_first b (q ∷ cs) h =
    let x : is_x b ≡ true = and-left (is_x b) (q == 39) h in
    let quote : q ≡ 39 = grind (arith, nat_tests, and-right (is_x b) (q == 39) h) in
    let r = run_of is_hex_digit cs in
    let f = bytes_cut_first b r.front r.back x r.passes r.stops in
    let back : drop (length r.front) cs ≡ r.back = ap (λ (ys : List ℕ). drop (length r.front) ys) r.split ∙ drop-append_seam r.front r.back in
    let cuts : bytes_after cs ≡ bytes_cut r.front r.back = rw (r.is_front, back) refl in
    let whole : IsFirst b (39 ∷ cs) (bytes_cut r.front r.back) = rw (← r.split) at f in
    rw (quote, cuts) whole

-- marks, and bytes of no token

pub mark_ends : (b : ℕ) (rest : List ℕ) → is_mark_byte b ≡ true → Ends (b ∷ []) rest
mark_ends b [] mark = tt
mark_ends b (e ∷ rest) mark = λ some. none some.0 (in_mark b (e ∷ some.0) some.1 mark some.2).0
  where
    none : (more : List ℕ) → e ∷ more ≡ [] → ⊥
    none more p = cc

mark_first : (b : ℕ) (bs : List ℕ) → is_mark_byte b ≡ true → IsFirst b bs (cut (Mark b) 1)
mark_first b bs mark =
    let s : Spells (b ∷ []) (Mark b) = AsMark b refl mark refl in
    record { bytes = b ∷ []; rest = bs; split = refl; longest = longest_of (b ∷ []) bs (begun (b ∷ []) (Mark b) s) (mark_ends b bs mark); token = inl s; len = λ good. refl }

none_first : (b : ℕ) (bs : List ℕ) → is_word_start b ≡ false → is_digit b ≡ false → (b == 45) ≡ false → (b == 39) ≡ false → is_mark_byte b ≡ false → IsFirst b bs (cut Bad 1)
none_first b bs no_word no_digit no_dash no_quote no_mark = record {
  bytes = [];
  rest = b ∷ bs;
  split = refl;
  longest = longest_of [] (b ∷ bs) (40 ∷ [], Mark 40, AsMark 40 refl refl refl) (λ some. true≢false (in_none b some.0 some.1 no_word no_digit no_dash no_quote no_mark some.2));
  token = inr (refl, spells_some);
  len = λ good. absurd (true≢false good);
}

pub first_is : (b : ℕ) (bs : List ℕ) → IsFirst b bs (first_token b bs)
unfolding first_token
first_is b bs = bytes (begins_bytes b bs) refl
  where
    mark : is_word_start b ≡ false → is_digit b ≡ false → (b == 45) ≡ false → (b == 39) ≡ false → (x : Bool) → is_mark_byte b ≡ x
        → IsFirst b bs (if x then cut (Mark b) 1 else cut Bad 1)
    mark a d m q true e = mark_first b bs e
    mark a d m q false e = none_first b bs a d m q e

    quote : is_word_start b ≡ false → is_digit b ≡ false → (b == 45) ≡ false → (x : Bool) → (b == 39) ≡ x
        → IsFirst b bs (if x then text_cut (text_body bs) else (if is_mark_byte b then cut (Mark b) 1 else cut Bad 1))
    quote a d m true e = let is : b ≡ 39 = grind (arith, nat_tests) in rw is (text_first bs)
    quote a d m false e = mark a d m e (is_mark_byte b) refl

    dash : is_word_start b ≡ false → is_digit b ≡ false → (x : Bool) → (b == 45) ≡ x
        → IsFirst b bs (if x then negative_cut (take_while is_digit bs) else (if b == 39 then text_cut (text_body bs) else (if is_mark_byte b then cut (Mark b) 1 else cut Bad 1)))
    dash a d true e = let is : b ≡ 45 = grind (arith, nat_tests) in rw is (negative_first bs)
    dash a d false e = quote a d e (b == 39) refl

    digit : is_word_start b ≡ false → (x : Bool) → is_digit b ≡ x
        → IsFirst b bs (if x then number_cut false (take_while is_digit (b ∷ bs)) else (if b == 45 then negative_cut (take_while is_digit bs) else (if b == 39 then text_cut (text_body bs) else (if is_mark_byte b then cut (Mark b) 1 else cut Bad 1))))
    digit a true e = number_first b bs e
    digit a false e = dash a e (b == 45) refl

    word : begins_bytes b bs ≡ false → (x : Bool) → is_word_start b ≡ x
        → IsFirst b bs (if x then cut (word_token (take_while is_word_byte (b ∷ bs))) (length (take_while is_word_byte (b ∷ bs))) else (if is_digit b then number_cut false (take_while is_digit (b ∷ bs)) else (if b == 45 then negative_cut (take_while is_digit bs) else (if b == 39 then text_cut (text_body bs) else (if is_mark_byte b then cut (Mark b) 1 else cut Bad 1)))))
    word no_x true e = word_first b bs no_x e
    word no_x false e = digit e (is_digit b) refl

    bytes : (x : Bool) → begins_bytes b bs ≡ x
        → IsFirst b bs (if x then bytes_after (drop 1 bs) else (if is_word_start b then cut (word_token (take_while is_word_byte (b ∷ bs))) (length (take_while is_word_byte (b ∷ bs))) else (if is_digit b then number_cut false (take_while is_digit (b ∷ bs)) else (if b == 45 then negative_cut (take_while is_digit bs) else (if b == 39 then text_cut (text_body bs) else (if is_mark_byte b then cut (Mark b) 1 else cut Bad 1))))))
    bytes true e = bytes_first b bs e
    bytes false e = word e (is_word_start b) refl
