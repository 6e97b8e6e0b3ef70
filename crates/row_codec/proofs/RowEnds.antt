-- Keys of which one is at its end.
use Rattle.std.proofs.Common.{◌≡◌, List, [], ◌∷◌, length, refl, arith, ◌⊎◌, inl, inr}
use Rattle.std.specs.Ordering.{nat_cmp}
use Rattle.std.proofs.lemmas.Bool.Decides.{nat_tests}
use Rattle.row_codec.specs.declared.rows.Datum.{Datum}
use Rattle.row_codec.specs.declared.rows.Kind.{Kind}
use Rattle.row_codec.specs.RowOrder.{row_cmp}

pub lengths_decide : (kinds : List Kind) (a b : List Datum) → (length a ≡ 0) ⊎ (length b ≡ 0) → nat_cmp (length a) (length b) ≡ row_cmp kinds a b
lengths_decide kinds [] [] e = refl
lengths_decide kinds [] (y ∷ b) e = grind (arith, nat_tests)
lengths_decide kinds (x ∷ a) [] e = grind (arith, nat_tests)
lengths_decide kinds (x ∷ a) (y ∷ b) (inl e) = absurd (omega arith)
lengths_decide kinds (x ∷ a) (y ∷ b) (inr e) = absurd (omega arith)
