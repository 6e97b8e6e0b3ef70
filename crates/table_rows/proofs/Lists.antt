-- Facts on each element of a list that is walked.
use Rattle.std.proofs.Common.{◌≡◌, ℕ, zero, suc, ◌+◌, ◌<◌, ◌≤◌, length, get_or, drop, sym, refl, ap, ◌∙◌, subst, arith, Bool, true, false, List, [], ◌∷◌, Option, Some, None, inl, inr}
use Rattle.std.proofs.lemmas.List.{drop_more, drop_all}
use Rattle.std.proofs.lemmas.List.Folds.{list_all_at}
use Rattle.std.specs.List.{AllByRecursion, list_all}
use Rattle.list_laws.specs.Members.{Has}
use Rattle.history_model.specs.RowTests.{wrong_at, first_wrong}

pub all_more : {X : Type 0} (P : X → Type 0) (xs : List X) (i : ℕ) (x : X) → i < length xs → x ≡ get_or xs i x → P x
    → (AllByRecursion P (drop i xs) → AllByRecursion P xs) → AllByRecursion P (drop (i + 1) xs) → AllByRecursion P xs
all_more {X} P xs i x l at p so_far rest =
    let there : drop i xs ≡ x ∷ drop (i + 1) xs = drop_more xs i x l ∙ ap (λ (y : X). y ∷ drop (i + 1) xs) (sym at) in
    let All : List X → Type 0 = λ ys. AllByRecursion P ys in
    so_far (subst All (sym there) (p, rest))

pub all_end : {X : Type 0} (P : X → Type 0) (xs : List X) (i : ℕ) → length xs ≤ i → (AllByRecursion P (drop i xs) → AllByRecursion P xs) → AllByRecursion P xs
all_end {X} P xs i l so_far =
    let All : List X → Type 0 = λ ys. AllByRecursion P ys in
    so_far (subst All (sym (drop_all i xs l)) tt)

-- each element passes a test that all pass
pub passes : {X : Type 0} (p : X → Bool) (xs : List X) (i : ℕ) (x : X) → list_all p xs ≡ true → i < length xs → x ≡ get_or xs i x → p x ≡ true
passes {X} p xs i x all l at = by (p (get_or xs i x)) refl
  where
    by : (b : Bool) → p (get_or xs i x) ≡ b → p x ≡ true
    by true e = ap p at ∙ e
    by false e = let no : true ≡ false = sym all ∙ list_all_at p xs i x l e in cc no

pub wrong-none : (n : ℕ) (o : Option ℕ) (later : Option (ℕ × ℕ)) → wrong_at n o later ≡ None → (o ≡ None) × (later ≡ None)
wrong-none n None later e = (refl, e)
wrong-none n (Some c) later e = cc e

-- where no element is wrong, each is right
pub right : {X : Type 0} (test : X → Option ℕ) (n : ℕ) (xs : List X) (i : ℕ) (x : X) → first_wrong test n xs ≡ None → i < length xs → x ≡ get_or xs i x → test x ≡ None
right test n [] i x none l at = absurd (omega (arith, l))
right test n (y ∷ ys) zero x none l at = ap test at ∙ (wrong-none n (test y) (first_wrong test (n + 1) ys) none).0
right test n (y ∷ ys) (suc i) x none l at = right test (n + 1) ys i x (wrong-none n (test y) (first_wrong test (n + 1) ys) none).1 (omega (arith, l)) at

pub has-at : {X : Type 0} (xs : List X) (i : ℕ) (x : X) → i < length xs → x ≡ get_or xs i x → Has x xs
has-at [] i x l at = absurd (omega (arith, l))
has-at (y ∷ ys) zero x l at = inl at
has-at (y ∷ ys) (suc i) x l at = inr (has-at ys i x (omega (arith, l)) at)
