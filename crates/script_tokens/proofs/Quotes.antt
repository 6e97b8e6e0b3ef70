-- Texts whose quotes are doubled, and where they end.
use Rattle.std.proofs.Common.{◌≡◌, ℕ, suc, ◌+◌, Bool, true, false, ◌==◌, if◌then◌else◌, List, [], ◌∷◌, ◌++◌, length, Option, Some, None, option_map, refl, sym, ap, ◌∙◌, arith}
use Rattle.std.proofs.lemmas.Bool.Decides.{nat_tests}
use Rattle.std.proofs.lemmas.List.{append_cancel_left}
use Rattle.list_laws.proofs.Options.{none-some, some-is}
use Rattle.script_tokens.specs.Tokens.{text_body, begins_with_quote}
use Rattle.script_tokens.specs.Spellings.{double_quotes}

-- a byte, and then what the text goes on with
abbrev then_byte : ℕ → Option (List ℕ × ℕ) → Option (List ℕ × ℕ)
then_byte b more = option_map (λ x. (b ∷ x.0, 1 + x.1)) more

is_quote : (b : ℕ) → (b == 39) ≡ true → b ≡ 39
is_quote b e = grind (arith, nat_tests)

body_plain : (b : ℕ) (bs : List ℕ) → (b == 39) ≡ false → text_body (b ∷ bs) ≡ then_byte b (text_body bs)
unfolding text_body
body_plain b [] e = rw e refl
body_plain b (c ∷ bs) e = rw e refl

body_quote : (bs : List ℕ) → text_body (39 ∷ 39 ∷ bs) ≡ option_map (λ x. (39 ∷ x.0, 2 + x.1)) (text_body bs)
unfolding text_body
body_quote bs = refl

body_end : (rest : List ℕ) → begins_with_quote rest ≡ false → text_body (39 ∷ rest) ≡ Some ([], 1)
unfolding text_body
body_end [] e = refl
body_end (c ∷ rest) e = rw e refl

plus_one : (n : ℕ) → 1 + (n + 1) ≡ suc n + 1
plus_one n = omega arith

plus_two : (n : ℕ) → 2 + (n + 1) ≡ suc (suc n) + 1
plus_two n = omega arith

-- a text with its end
pub body_closed : (s rest : List ℕ) → begins_with_quote rest ≡ false → text_body (double_quotes s ++ 39 ∷ rest) ≡ Some (s, length (double_quotes s) + 1)
body_closed [] rest e = body_end rest e
body_closed (b ∷ s) rest e = go (body_closed s rest e) (b == 39) refl
  where
    go : text_body (double_quotes s ++ 39 ∷ rest) ≡ Some (s, length (double_quotes s) + 1) → (x : Bool) → (b == 39) ≡ x
        → text_body (((if x then 39 ∷ 39 ∷ [] else b ∷ []) ++ double_quotes s) ++ 39 ∷ rest) ≡ Some (b ∷ s, length ((if x then 39 ∷ 39 ∷ [] else b ∷ []) ++ double_quotes s) + 1)
    go more true is = rw (is_quote b is, body_quote (double_quotes s ++ 39 ∷ rest), more) (ap (λ n. Some (39 ∷ s, n)) (plus_two (length (double_quotes s))))
    go more false is = rw (body_plain b (double_quotes s ++ 39 ∷ rest) is, more) (ap (λ n. Some (b ∷ s, n)) (plus_one (length (double_quotes s))))

-- a text without its end
pub body_open : (s : List ℕ) → text_body (double_quotes s) ≡ None
unfolding text_body
body_open [] = refl
body_open (b ∷ s) = go (body_open s) (b == 39) refl
  where
    go : text_body (double_quotes s) ≡ None → (x : Bool) → (b == 39) ≡ x → text_body ((if x then 39 ∷ 39 ∷ [] else b ∷ []) ++ double_quotes s) ≡ None
    go more true is = rw (body_quote (double_quotes s), more) refl
    go more false is = rw (body_plain b (double_quotes s) is, more) refl

-- what a text's bytes are, by what is read of them
abbrev pub IsBody : List ℕ → Option (List ℕ × ℕ) → Type 0
IsBody bs None = (s : List ℕ) × (bs ≡ double_quotes s)
IsBody bs (Some x) = (rest : List ℕ) × (bs ≡ double_quotes x.0 ++ 39 ∷ rest) × (begins_with_quote rest ≡ false) × (x.1 ≡ length (double_quotes x.0) + 1)

one_more : (b : ℕ) (bs : List ℕ) (o : Option (List ℕ × ℕ)) → (b == 39) ≡ false → IsBody bs o → IsBody (b ∷ bs) (then_byte b o)
one_more b bs None e (s, same) = (b ∷ s, rw (e, same) refl)
one_more b bs (Some x) e (rest, same, ends, len) = (rest, rw (e, same) refl, ends, rw (e, len) (plus_one (length (double_quotes x.0))))

two_more : (bs : List ℕ) (o : Option (List ℕ × ℕ)) → IsBody bs o → IsBody (39 ∷ 39 ∷ bs) (option_map (λ x. (39 ∷ x.0, 2 + x.1)) o)
two_more bs None (s, same) = (39 ∷ s, rw same refl)
two_more bs (Some x) (rest, same, ends, len) = (rest, rw same refl, ends, rw len (plus_two (length (double_quotes x.0))))

pub body_parts : (bs : List ℕ) → IsBody bs (text_body bs)
unfolding text_body
body_parts [] = ([], refl)
body_parts (b ∷ []) = go (b == 39) refl
  where
    go : (x : Bool) → (b == 39) ≡ x → IsBody (b ∷ []) (if x then Some ([], 1) else None)
    go true is = ([], ap (λ c. c ∷ []) (is_quote b is), refl, refl)
    go false is = (b ∷ [], rw is refl)
body_parts (b ∷ c ∷ bs) = go (body_parts bs) (body_parts (c ∷ bs)) (b == 39) refl
  where
    quote : IsBody bs (text_body bs) → b ≡ 39 → (y : Bool) → (c == 39) ≡ y
        → IsBody (b ∷ c ∷ bs) (if y then option_map (λ x. (39 ∷ x.0, 2 + x.1)) (text_body bs) else Some ([], 1))
    quote more first true is = rw (first, is_quote c is) (two_more bs (text_body bs) more)
    quote more first false is = (c ∷ bs, ap (λ d. d ∷ c ∷ bs) first, is, refl)

    go : IsBody bs (text_body bs) → IsBody (c ∷ bs) (text_body (c ∷ bs)) → (x : Bool) → (b == 39) ≡ x
        → IsBody (b ∷ c ∷ bs) (if x then (if c == 39 then option_map (λ x. (39 ∷ x.0, 2 + x.1)) (text_body bs) else Some ([], 1)) else then_byte b (text_body (c ∷ bs)))
    go more last true is = quote more (is_quote b is) (c == 39) refl
    go more last false is = one_more b (c ∷ bs) (text_body (c ∷ bs)) is last

-- ---- what these say of two texts

-- a text that ends can't go on, but with a quote
pub closed_stops : (s s' more : List ℕ) (e : ℕ) → (e == 39) ≡ false → double_quotes s ++ 39 ∷ (e ∷ more) ≡ double_quotes s' ++ 39 ∷ [] → ⊥
closed_stops s s' more e stop same =
    let one = body_closed s (e ∷ more) stop in
    let other = body_closed s' [] refl in
    let pairs : Some (s, length (double_quotes s) + 1) ≡ Some (s', length (double_quotes s') + 1) = sym one ∙ (ap text_body same ∙ other) in
    let texts : s ≡ s' = ap (λ (x : List ℕ × ℕ). x.0) (some-is (s, length (double_quotes s) + 1) (s', length (double_quotes s') + 1) pairs) in
    let both : double_quotes s ++ 39 ∷ (e ∷ more) ≡ double_quotes s ++ 39 ∷ [] = rw (← texts) at same in
    let last : 39 ∷ (e ∷ more) ≡ 39 ∷ [] = append_cancel_left (double_quotes s) (39 ∷ (e ∷ more)) (39 ∷ []) both in
    nothing last
  where
    nothing : 39 ∷ e ∷ more ≡ 39 ∷ [] → ⊥
    nothing p = cc

pub closed_same : (s s' : List ℕ) → double_quotes s ++ 39 ∷ [] ≡ double_quotes s' ++ 39 ∷ [] → s ≡ s'
closed_same s s' same =
    let one = body_closed s [] refl in
    let other = body_closed s' [] refl in
    let pairs : Some (s, length (double_quotes s) + 1) ≡ Some (s', length (double_quotes s') + 1) = sym one ∙ (ap text_body same ∙ other) in
    ap (λ (x : List ℕ × ℕ). x.0) (some-is (s, length (double_quotes s) + 1) (s', length (double_quotes s') + 1) pairs)

pub open_not_closed : (s s' : List ℕ) → double_quotes s ≡ double_quotes s' ++ 39 ∷ [] → ⊥
open_not_closed s s' same =
    none-some (text_body (double_quotes s)) (s', length (double_quotes s') + 1) (body_open s) (ap text_body same ∙ body_closed s' [] refl)
