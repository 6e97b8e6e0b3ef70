-- The tokens of what is left of a line.
use Rattle.std.proofs.Common.{◌≡◌, ◌≢◌, ℕ, zero, suc, ◌+◌, ◌-◌, ◌*◌, ◌<◌, ◌≤◌, Bool, true, false, ◌==◌, if◌then◌else◌, String, Vec, List, [], ◌∷◌, ◌++◌, length, drop, get_or, Option, Some, None, option_map, refl, sym, ap, arith, append_assoc}
use Rattle.std.proofs.lemmas.List.{append-nil}
use Rattle.std.proofs.lemmas.Bool.Decides.{nat_tests}
use Rattle.std.specs.String.{string_bytes, string_vec}
use Rattle.std.specs.Str.{is_utf8, IsUtf8}
use Rattle.std.proofs.lemmas.Str.{IsUtf8-string_bytes, IsUtf8-from_is_utf8, is_utf8-from_IsUtf8}
use Rattle.script_tokens.specs.Tokens.{is_blank, number_from, text_body, utf8_text, is_doubled, hex_value, hex_bytes, first_token, Piece, piece, pieces_after, is_bad}

pub apart : (x : Bool) → x ≡ false → x ≡ true → ⊥
apart x d e = cc

pub number_from_grows : (n : ℕ) (ds : List ℕ) → n ≤ number_from n ds
number_from_grows n [] = omega arith
number_from_grows n (d ∷ ds) = omega (arith, number_from_grows (10 * n + (d - 48)) ds)

-- ---- texts

-- what was found before, and then the rest
abbrev pub found_then : List ℕ → ℕ → Option (List ℕ × ℕ) → Option (List ℕ × ℕ)
found_then before n more = option_map (λ x. (before ++ x.0, n + x.1)) more

then_then : (before : List ℕ) (n b k : ℕ) (o : Option (List ℕ × ℕ)) → found_then before n (option_map (λ x. (b ∷ x.0, k + x.1)) o) ≡ found_then (before ++ b ∷ []) (n + k) o
then_then before n b k None = refl
then_then before n b k (Some x) =
    let texts : before ++ b ∷ x.0 ≡ (before ++ b ∷ []) ++ x.0 = sym (append_assoc before (b ∷ []) x.0) in
    let lens : n + (k + x.1) ≡ (n + k) + x.1 = omega arith in
    rw (texts, lens) refl

pub text_plain : (before : List ℕ) (n : ℕ) (bs : List ℕ) → 0 < length bs → get_or bs 0 0 ≢ 39
    → found_then before n (text_body bs) ≡ found_then (before ++ get_or bs 0 0 ∷ []) (n + 1) (text_body (drop 1 bs))
unfolding text_body
text_plain before n [] some other = absurd (omega arith)
text_plain before n (b ∷ []) some other = rw (quote_not b other) refl
  where
    quote_not : (b : ℕ) → b ≢ 39 → (b == 39) ≡ false
    quote_not b h = grind (arith, nat_tests)
text_plain before n (b ∷ c ∷ bs) some other = rw (quote_not b other) (then_then before n b 1 (text_body (c ∷ bs)))
  where
    quote_not : (b : ℕ) → b ≢ 39 → (b == 39) ≡ false
    quote_not b h = grind (arith, nat_tests)

pub text_double : (before : List ℕ) (n : ℕ) (bs : List ℕ) → get_or bs 0 0 ≡ 39 → is_doubled bs ≡ true
    → found_then before n (text_body bs) ≡ found_then (before ++ 39 ∷ []) (n + 2) (text_body (drop 2 bs))
unfolding text_body
text_double before n [] first next = absurd (apart false refl next)
text_double before n (b ∷ []) first next = absurd (apart false refl next)
text_double before n (b ∷ c ∷ bs) first next =
    let same : c ≡ 39 = grind (arith, nat_tests) in
    rw (first, same) (then_then before n 39 2 (text_body bs))

pub doubled_two : (bs : List ℕ) → is_doubled bs ≡ true → 2 ≤ length bs
doubled_two [] h = absurd (apart false refl h)
doubled_two (b ∷ []) h = absurd (apart false refl h)
doubled_two (b ∷ c ∷ bs) h = omega arith

pub text_end : (before : List ℕ) (n : ℕ) (bs : List ℕ) → get_or bs 0 0 ≡ 39 → is_doubled bs ≡ false
    → found_then before n (text_body bs) ≡ Some (before, n + 1)
unfolding text_body
text_end before n [] first next = absurd (omega (arith, first))
text_end before n (b ∷ []) first next = rw first (rw (append-nil before) refl)
text_end before n (b ∷ c ∷ bs) first next =
    rw (first, next) (rw (append-nil before) refl)

pub text_none : (before : List ℕ) (n : ℕ) (bs : List ℕ) → length bs ≡ 0 → found_then before n (text_body bs) ≡ None
unfolding text_body
text_none before n [] none = refl
text_none before n (b ∷ bs) none = absurd (omega arith)

pub utf8_found : {Z : Type 0} (text : String Z) (bytes : Vec ℕ Z) → string_vec text ≡ bytes → utf8_text bytes.items ≡ Some (string_bytes text)
utf8_found text bytes same =
    let is : is_utf8 (string_bytes text) ≡ true = is_utf8-from_IsUtf8 (string_bytes text) (IsUtf8-string_bytes text) in
    rw (sym same) (rw is refl)

pub utf8_lost : (bs : List ℕ) → (IsUtf8 bs → ⊥) → utf8_text bs ≡ None
utf8_lost bs none = go (is_utf8 bs) refl
  where
    go : (x : Bool) → is_utf8 bs ≡ x → (if x then Some bs else None) ≡ None
    go false e = refl
    go true e = absurd (none (IsUtf8-from_is_utf8 bs e))

-- ---- tokens

pub pieces_skip : (n at : ℕ) (bs : List ℕ) → n ≤ length bs → pieces_after n at bs ≡ pieces_after 0 (at + n) (drop n bs)
unfolding pieces_after
pieces_skip zero at bs few = ap (λ m. pieces_after 0 m bs) (omega arith)
pieces_skip (suc n) at [] few = absurd (omega (arith, few))
pieces_skip (suc n) at (b ∷ bs) few =
    let k : suc at + n ≡ at + suc n = omega arith in
    rw (pieces_skip n (suc at) bs (omega (arith, few)), k) refl

pub pieces_blank : (at : ℕ) (bs : List ℕ) → 0 < length bs → is_blank (get_or bs 0 0) ≡ true → pieces_after 0 at bs ≡ pieces_after 0 (at + 1) (drop 1 bs)
unfolding pieces_after
pieces_blank at [] some h = absurd (omega arith)
pieces_blank at (b ∷ bs) some h =
    let k : suc at ≡ at + 1 = omega arith in
    rw (h, k) refl

pub pieces_bad : (at : ℕ) (bs : List ℕ) → 0 < length bs → is_blank (get_or bs 0 0) ≡ false → is_bad (first_token (get_or bs 0 0) (drop 1 bs)).token ≡ true
    → pieces_after 0 at bs ≡ piece (first_token (get_or bs 0 0) (drop 1 bs)).token at ∷ []
unfolding pieces_after
pieces_bad at [] some h bad = absurd (omega arith)
pieces_bad at (b ∷ bs) some h bad = rw (h, bad) refl

pub pieces_token : (at : ℕ) (bs : List ℕ) → 0 < length bs → is_blank (get_or bs 0 0) ≡ false → is_bad (first_token (get_or bs 0 0) (drop 1 bs)).token ≡ false
    → 0 < (first_token (get_or bs 0 0) (drop 1 bs)).len → (first_token (get_or bs 0 0) (drop 1 bs)).len ≤ length bs
    → pieces_after 0 at bs ≡ piece (first_token (get_or bs 0 0) (drop 1 bs)).token at ∷ pieces_after 0 (at + (first_token (get_or bs 0 0) (drop 1 bs)).len) (drop (first_token (get_or bs 0 0) (drop 1 bs)).len bs)
unfolding pieces_after
pieces_token at [] some h bad long few = absurd (omega arith)
pieces_token at (b ∷ bs) some h bad long few =
    let n = (first_token b bs).len in
    let k : n ≡ suc (n - 1) = omega (arith, long) in
    let m : suc at + (n - 1) ≡ at + n = omega (arith, long) in
    let skip : pieces_after (n - 1) (suc at) bs ≡ pieces_after 0 (suc at + (n - 1)) (drop (n - 1) bs) = pieces_skip (n - 1) (suc at) bs (omega (arith, few, long)) in
    let dropped : drop (n - 1) bs ≡ drop n (b ∷ bs) = ap (λ j. drop j (b ∷ bs)) (sym k) in
    rw (h, bad) (ap (λ (r : List Piece). piece (first_token b bs).token at ∷ r) (rw (skip, m, dropped) refl))

pub pieces_none : (at : ℕ) (bs : List ℕ) → length bs ≡ 0 → pieces_after 0 at bs ≡ []
unfolding pieces_after
pieces_none at [] h = refl
pieces_none at (b ∷ bs) h = absurd (omega arith)

-- ---- bytes in hexadecimal digits

pub hex_more : (before ds : List ℕ) → 2 ≤ length ds
    → before ++ hex_bytes ds ≡ (before ++ (16 * hex_value (get_or ds 0 0) + hex_value (get_or ds 1 0)) ∷ []) ++ hex_bytes (drop 2 ds)
unfolding hex_bytes
hex_more before [] some = absurd (omega (arith, some))
hex_more before (d ∷ []) some = absurd (omega (arith, some))
hex_more before (d ∷ e ∷ ds) some = sym (append_assoc before ((16 * hex_value d + hex_value e) ∷ []) (hex_bytes ds))

pub hex_end : (before ds : List ℕ) → length ds < 2 → before ++ hex_bytes ds ≡ before
unfolding hex_bytes
hex_end before [] few = append-nil before
hex_end before (d ∷ []) few = append-nil before
hex_end before (d ∷ e ∷ ds) few = absurd (omega (arith, few))
