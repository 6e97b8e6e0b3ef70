-- References that differ have new ids that differ.
use Rattle.std.proofs.Common.{◌≡◌, ℕ, ◌==◌, nat_eq, ◌||◌, Bool, true, false, sym, refl, ap₂, ◌∙◌, List, [], ◌∷◌, Option, Some, None}
use Rattle.std.proofs.lemmas.Bool.{eqb-true, eq-eqb}
use Rattle.std.specs.Map.{lookup}
use Rattle.table_descriptors.specs.Descriptors.{has_id, repeats_id}
use Rattle.list_laws.proofs.Bools.{or-neither}
use Rattle.key_rewriter.specs.Ids.{IsIdMap}
use Rattle.key_rewriter.proofs.Pairs.{partner-one}
use Rattle.id_remap.specs.Remapping.{new_references}

module _ (ids : List (ℕ × ℕ)) (h : IsIdMap ids) where
  -- the new id of an id that isn't there isn't there
  absent : (i n : ℕ) (olds : List ℕ) → lookup (nat_eq i) ids ≡ Some n → has_id i olds ≡ false → has_id n (new_references ids olds) ≡ false
  absent i n [] e none = refl
  absent i n (old ∷ olds) e none = by (lookup (nat_eq old) ids) refl (absent i n olds e (or-neither (old == i) (has_id i olds) none).1)
    where
      apart : (m : ℕ) → lookup (nat_eq old) ids ≡ Some m → (b : Bool) → m == n ≡ b → b ≡ false
      apart m q false p = refl
      apart m q true p =
          let is : m ≡ n = eqb-true m n p in
          let same : old ≡ i = partner-one old i n ids h (q ∙ cc) e in
          let no : true ≡ false = sym (eq-eqb old i same) ∙ (or-neither (old == i) (has_id i olds) none).0 in
          cc no

      by : (r : Option ℕ) → lookup (nat_eq old) ids ≡ r → has_id n (new_references ids olds) ≡ false → has_id n (new_references ids (old ∷ olds)) ≡ false
      by None q rest = rw q rest
      by (Some m) q rest = rw q (ap₂ (λ (x y : Bool). x || y) (apart m q (m == n) refl) rest)

  pub new_once : (olds : List ℕ) → repeats_id olds ≡ false → repeats_id (new_references ids olds) ≡ false
  new_once [] none = refl
  new_once (old ∷ olds) none =
      let p = or-neither (has_id old olds) (repeats_id olds) none in
      by (lookup (nat_eq old) ids) refl p.0 (new_once olds p.1)
    where
      by : (r : Option ℕ) → lookup (nat_eq old) ids ≡ r → has_id old olds ≡ false → repeats_id (new_references ids olds) ≡ false → repeats_id (new_references ids (old ∷ olds)) ≡ false
      by None q none rest = rw q rest
      by (Some n) q none rest = rw q (ap₂ (λ (x y : Bool). x || y) (absent old n olds q none) rest)
