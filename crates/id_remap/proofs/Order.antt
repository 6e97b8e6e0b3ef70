-- Chosen tables by ascending old ids get the next ids in order.
use Rattle.std.proofs.Common.{◌≡◌, ℕ, ◌+◌, ◌≤◌, nat_eq, nat_le, true, false, refl, ap, ap₂, ◌∙◌, arith, List, [], ◌∷◌, map, length, Some, unwrap_or, cond}
use Rattle.std.specs.List.{range_with_len}
use Rattle.std.specs.Map.{lookup}
use Rattle.std.proofs.lemmas.Bool.{and_parts}
use Rattle.std.proofs.lemmas.Bool.Decides.{nat_tests}
use Rattle.mvcc_keys.specs.Times.{Time}
use Rattle.table_descriptors.specs.Descriptors.{Schema}
use Rattle.table_descriptors.specs.Restoring.{restored_schema}
use Rattle.key_rewriter.specs.Ids.{ascends_from, are_ascending, numbered}
use Rattle.id_remap.specs.declared.targets.Target.{Target}
use Rattle.id_remap.specs.Remapping.{ids_of, new_id, remapped_schema}

restored-id : (d : Schema) (id : ℕ) (database references : List ℕ) (t : Time) → (restored_schema d id database references t).id ≡ id
unfolding restored_schema
restored-id d id database references t = refl

module _ (ids : List (ℕ × ℕ)) (target : Target) (t : Time) where
  numbered-from : (n k : ℕ) (ds : List Schema) → ascends_from k (ids_of ds) ≡ true → ((i : ℕ) → k ≤ i → lookup (nat_eq i) ids ≡ lookup (nat_eq i) (numbered n (ids_of ds)))
      → ids_of (map (remapped_schema ids target t) ds) ≡ range_with_len n (length ds)
  numbered-from n k [] h same = refl
  numbered-from n k (d ∷ ds) h same =
      let parts = and_parts (nat_le k d.id) (ascends_from (d.id + 1) (ids_of ds)) h in
      let low : k ≤ d.id = let p = parts.0 in grind (arith, nat_tests) in
      let own : nat_eq d.id d.id ≡ true = grind (arith, nat_tests) in
      let found : lookup (nat_eq d.id) ids ≡ Some n = same d.id low ∙ ap (λ b. cond b (Some n) (lookup (nat_eq d.id) (numbered (n + 1) (ids_of ds)))) own in
      let first : (remapped_schema ids target t d).id ≡ n = restored-id d (new_id ids d.id) _ _ t ∙ ap (λ r. unwrap_or r 0) found in
      ap₂ (λ (x : ℕ) (xs : List ℕ). x ∷ xs) first (numbered-from (n + 1) (d.id + 1) ds parts.1 (λ i le. (
      let other : nat_eq i d.id ≡ false = grind (arith, nat_tests) in
      same i (omega arith) ∙ ap (λ b. cond b (Some n) (lookup (nat_eq i) (numbered (n + 1) (ids_of ds)))) other
      )))

pub in_order : (n : ℕ) (target : Target) (t : Time) (old : List ℕ) (ids : List (ℕ × ℕ)) (chosen made : List Schema) → are_ascending (ids_of chosen) ≡ true → old ≡ ids_of chosen → ids ≡ numbered n old
    → made ≡ map (remapped_schema ids target t) chosen → ids_of made ≡ range_with_len n (length chosen)
in_order n target t old ids chosen made h of_old of_ids of_made =
    ap ids_of of_made ∙ numbered-from ids target t n 0 chosen h (λ i le. ap (λ ps. lookup (nat_eq i) ps) (of_ids ∙ ap (numbered n) of_old))
