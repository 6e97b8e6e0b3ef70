-- Names are ASCII, and are read as themselves.
use Rattle.std.proofs.Common.{◌≡◌, ℕ, zero, suc, ◌<◌, true, List, [], ◌∷◌, Some, subst, arith}
use Rattle.std.proofs.lemmas.Bool.Decides.{nat_tests}
use Rattle.std.specs.Prelude.{slice_index}
use Rattle.std.specs.Str.{IsAscii, IsUtf8}
use Rattle.std.specs.List.{list_all}
use Rattle.std.proofs.lemmas.Str.{IsUtf8-from_ascii}
use Rattle.list_laws.proofs.Options.{cond-some}
use Rattle.table_descriptors.specs.Names.{is_name, is_name_text, is_name_byte, name_of}

bytes_ascii : (bs : List ℕ) → list_all is_name_byte bs ≡ true → (i : ℕ) → slice_index bs i < 128
bytes_ascii [] h i = omega arith
bytes_ascii (b ∷ bs) h zero = grind (arith, nat_tests)
bytes_ascii (b ∷ bs) h (suc i) = bytes_ascii bs (grind (arith, nat_tests)) i

text_ascii : (bs : List ℕ) → is_name_text bs ≡ true → IsAscii bs
text_ascii [] h i = omega arith
text_ascii (b ∷ bs) h zero = grind (arith, nat_tests)
text_ascii (b ∷ bs) h (suc i) = bytes_ascii bs (grind (arith, nat_tests)) i

pub name_is_utf8 : (bs : List ℕ) → is_name bs ≡ true → IsUtf8 bs
unfolding is_name
name_is_utf8 bs h = IsUtf8-from_ascii bs (text_ascii bs (grind (arith, nat_tests)))

pub name_of-some : (bs n : List ℕ) → name_of bs ≡ Some n → (is_name n ≡ true) × (bs ≡ n)
name_of-some bs n e =
    let t = cond-some (is_name bs) (Some bs) n e in
    let same : bs ≡ n = let some = t.1 in cc in
    (subst (λ w. is_name w ≡ true) same t.0, same)
