-- Bytes that are text, and values at their end.
use Rattle.std.proofs.Common.{◌≡◌, ◌<◌, false, List, [], ◌∷◌, length, refl, arith, ◌⊎◌, inl, inr}
use Rattle.row_codec.specs.declared.rows.Datum.{Datum}
use Rattle.row_codec.specs.declared.rows.Kind.{Kind}
use Rattle.row_codec.specs.RowKeys.{are_of_kinds, values_code}

pub values_code-end : (kinds : List Kind) (xs : List Datum) → (length kinds ≡ 0) ⊎ (length xs ≡ 0) → values_code kinds xs ≡ 136 ∷ []
values_code-end [] xs e = refl
values_code-end (k ∷ kinds) [] e = refl
values_code-end (k ∷ kinds) (x ∷ xs) (inl e) = absurd (omega arith)
values_code-end (k ∷ kinds) (x ∷ xs) (inr e) = absurd (omega arith)

pub are_of_kinds-short : (kinds : List Kind) (xs : List Datum) → 0 < length kinds → length xs ≡ 0 → false ≡ are_of_kinds kinds xs
are_of_kinds-short [] xs h e = absurd (omega arith)
are_of_kinds-short (k ∷ kinds) [] h e = refl
are_of_kinds-short (k ∷ kinds) (x ∷ xs) h e = absurd (omega arith)
