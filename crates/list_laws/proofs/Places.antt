-- Lists by their length and their places.
use Rattle.std.proofs.Common.{◌≡◌, ℕ, zero, suc, List, [], ◌∷◌, ◌++◌, length, take, Some, refl, ap, ◌∙◌, append_assoc, arith}
use Rattle.std.specs.Prelude.{true, nat_eq}
use Rattle.std.specs.List.{slice_get}
use Rattle.std.proofs.lemmas.Bool.Decides.{nat_tests}

pub none-left : {X : Type 0} (xs : List X) → length xs ≡ 0 → xs ≡ []
none-left [] l = refl
none-left (x ∷ xs) l = absurd (omega arith)

pub none-left_test : {X : Type 0} (xs : List X) → nat_eq (length xs) 0 ≡ true → xs ≡ []
none-left_test xs t = none-left xs (grind (arith, nat_tests))

pub got-last : {X : Type 0} (xs : List X) (x : X) → slice_get (xs ++ x ∷ []) (length xs) ≡ Some x
got-last [] x = refl
got-last (y ∷ xs) x = got-last xs x

pub take-none : {X : Type 0} (n : ℕ) (xs : List X) → xs ≡ [] → take n xs ≡ []
take-none zero xs e = refl
take-none (suc n) [] e = refl
take-none (suc n) (x ∷ xs) e = absurd cc

-- a list that another goes on with, and a third with that
pub append-then : {X : Type 0} (a b c more further : List X) → b ≡ a ++ more → c ≡ b ++ further → c ≡ a ++ (more ++ further)
append-then a b c more further first second = second ∙ (ap (λ xs. xs ++ further) first ∙ append_assoc a more further)
