-- Lists that ascend strictly by an order.
use Rattle.std.proofs.Common.{◌≡◌, refl, List, [], ◌∷◌, ◌++◌, inl, inr}
use Rattle.std.specs.declared.cmp.Ordering.{Ordering}
use Rattle.std.specs.declared.cmp.Ordering.TheVariants.{Less}
use Rattle.std.specs.List.Sorted.{IsStrictlySortedBy}
use Rattle.list_laws.specs.Members.{Has}
use Rattle.list_laws.proofs.Members.{AllByRecursion-has, has-AllByRecursion, has-append_cases}

pub sorted-append : {X : Type 0} (cmp : X → X → Ordering) (xs ys : List X) → IsStrictlySortedBy cmp xs → IsStrictlySortedBy cmp ys → ((x y : X) → Has x xs → Has y ys → cmp x y ≡ Less) → IsStrictlySortedBy cmp (xs ++ ys)
unfolding IsStrictlySortedBy
sorted-append cmp [] ys a b f = b
sorted-append cmp (x ∷ xs) ys a b f = (AllByRecursion-has (λ y. cmp x y ≡ Less) (xs ++ ys) (λ y h. elim (has-append_cases y xs ys h) [ inl i ↦ has-AllByRecursion (λ z. cmp x z ≡ Less) y xs a.0 i | inr j ↦ f x y (inl refl) j ]), sorted-append cmp xs ys a.1 b (λ z y i j. f z y (inr i) j))
