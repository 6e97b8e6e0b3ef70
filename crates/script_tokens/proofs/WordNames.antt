-- A word in lower case is a name, unless it is too long for one.
use Rattle.std.proofs.Common.{◌≡◌, ℕ, Bool, true, false, ◌&&◌, cond, nat_le, List, [], ◌∷◌, map, length, refl, arith}
use Rattle.std.proofs.lemmas.Bool.Decides.{nat_tests}
use Rattle.std.proofs.lemmas.List.{length-map}
use Rattle.std.proofs.lemmas.List.Sums.{take_while-cons}
use Rattle.std.specs.Char.{to_ascii_lowercase}
use Rattle.std.specs.List.{take_while, list_all}
use Rattle.table_descriptors.specs.Names.{is_name, is_name_start, is_name_byte}
use Rattle.script_tokens.specs.Tokens.{is_word_start, is_word_byte}

lower_start : (b : ℕ) → is_word_start b ≡ true → is_name_start (to_ascii_lowercase b) ≡ true
lower_start b h = grind (arith, nat_tests)

lower_byte : (b : ℕ) → is_word_byte b ≡ true → is_name_byte (to_ascii_lowercase b) ≡ true
lower_byte b h = grind (arith, nat_tests)

lower_bytes : (bs : List ℕ) → list_all is_name_byte (map to_ascii_lowercase (take_while is_word_byte bs)) ≡ true
lower_bytes [] = refl
lower_bytes (b ∷ bs) = rw (take_while-cons is_word_byte b bs) (go (lower_bytes bs) (is_word_byte b) refl)
  where
    go : list_all is_name_byte (map to_ascii_lowercase (take_while is_word_byte bs)) ≡ true → (x : Bool) → is_word_byte b ≡ x → list_all is_name_byte (map to_ascii_lowercase (cond x (b ∷ take_while is_word_byte bs) [])) ≡ true
    go more true e = rw (lower_byte b e) more
    go more false e = refl

pub word_is_name : (b : ℕ) (bs : List ℕ) → is_word_start b ≡ true
    → is_name (map to_ascii_lowercase (take_while is_word_byte (b ∷ bs))) ≡ nat_le (length (take_while is_word_byte (b ∷ bs))) 32
unfolding is_name
word_is_name b bs start =
    let byte : is_word_byte b ≡ true = rw start refl in
    let shape : take_while is_word_byte (b ∷ bs) ≡ b ∷ take_while is_word_byte bs = rw (take_while-cons is_word_byte b bs, byte) refl in
    rw (shape, length-map (b ∷ take_while is_word_byte bs) to_ascii_lowercase, lower_start b start, lower_bytes bs) (and_true (nat_le (length (b ∷ take_while is_word_byte bs)) 32))
  where
    and_true : (x : Bool) → (x && (true && true)) ≡ x
    and_true true = refl
    and_true false = refl
