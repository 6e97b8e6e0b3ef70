-- Pairs of ids that ascend.
use Rattle.std.proofs.Common.{◌≡◌, ℕ, ◌+◌, ◌<◌, ◌≤◌, ◌^◌, Bool, true, false, cond, nat_eq, nat_le, List, [], ◌∷◌, ◌++◌, length, drop, Some, arith, refl, sym, ap, ◌∙◌, subst, append-nil}
use Rattle.std.specs.List.{AllByRecursion}
use Rattle.std.specs.Map.{lookup}
use Rattle.std.proofs.lemmas.Bool.{and_parts}
use Rattle.std.proofs.lemmas.List.{drop_all}
use Rattle.std.proofs.lemmas.Bool.Decides.{nat_tests}
use Rattle.key_rewriter.specs.Ids.{IsIdMap, are_ascending, ascends_from, numbered}

above : (a b n m : ℕ) (xs : List ℕ) → ascends_from n xs ≡ true → a < n → b < m → AllByRecursion (λ q. (a < q.0) × (b < q.1)) (numbered m xs)
above a b n m [] h p q = tt
above a b n m (x ∷ xs) h p q =
    let parts = and_parts (nat_le n x) (ascends_from (x + 1) xs) h in
    let le : n ≤ x = let t = parts.0 in grind (arith, nat_tests) in
    ((omega arith, q), above a b (x + 1) (m + 1) xs parts.1 (omega arith) (omega arith))

ids-from : (k n : ℕ) (xs : List ℕ) → ascends_from k xs ≡ true → n + length xs ≤ 2 ^ 32 → IsIdMap (numbered n xs)
ids-from k n [] h room = tt
ids-from k n (x ∷ xs) h room =
    let parts = and_parts (nat_le k x) (ascends_from (x + 1) xs) h in
    (omega arith, above x n (x + 1) (n + 1) xs parts.1 (omega arith) (omega arith), ids-from (x + 1) (n + 1) xs parts.1 (omega arith))

-- ascending ids and the ids from one on are a map
pub numbered-ids : (n : ℕ) (xs : List ℕ) → are_ascending xs ≡ true → n + length xs ≤ 2 ^ 32 → IsIdMap (numbered n xs)
numbered-ids n xs h room = ids-from 0 n xs h room

-- a pair that is found stands after those before the list
later : (a b i n : ℕ) (ps : List (ℕ × ℕ)) → AllByRecursion (λ q. (a < q.0) × (b < q.1)) ps → lookup (nat_eq i) ps ≡ Some n → b < n
later a b i n [] h e = absurd (cc)
later a b i n (q ∷ qs) h e = by (nat_eq i q.0) e (λ f. later a b i n qs h.1 f)
  where
    by : (c : Bool) → cond c (Some q.1) (lookup (nat_eq i) qs) ≡ Some n → (lookup (nat_eq i) qs ≡ Some n → b < n) → b < n
    by true f rest = let is : q.1 ≡ n = cc in let lt : b < q.1 = h.0.1 in omega arith
    by false f rest = rest f

-- new ids are ids
pub partner-small : (i n : ℕ) (ps : List (ℕ × ℕ)) → IsIdMap ps → lookup (nat_eq i) ps ≡ Some n → n < 2 ^ 32
partner-small i n [] h e = absurd (cc)
partner-small i n (q ∷ qs) h e = by (nat_eq i q.0) e (λ f. partner-small i n qs h.2 f)
  where
    by : (c : Bool) → cond c (Some q.1) (lookup (nat_eq i) qs) ≡ Some n → (lookup (nat_eq i) qs ≡ Some n → n < 2 ^ 32) → n < 2 ^ 32
    by true f rest = let is : q.1 ≡ n = cc in let lt : q.1 < 2 ^ 32 = h.0 in omega arith
    by false f rest = rest f

-- no two ids have one partner
pub partner-one : (i j n : ℕ) (ps : List (ℕ × ℕ)) → IsIdMap ps → lookup (nat_eq i) ps ≡ Some n → lookup (nat_eq j) ps ≡ Some n → i ≡ j
partner-one i j n [] h e f = absurd (cc)
partner-one i j n (q ∷ qs) h e f = by (nat_eq i q.0) (nat_eq j q.0) refl refl e f (λ a b. partner-one i j n qs h.2 a b)
  where
    by : (c d : Bool) → nat_eq i q.0 ≡ c → nat_eq j q.0 ≡ d → cond c (Some q.1) (lookup (nat_eq i) qs) ≡ Some n → cond d (Some q.1) (lookup (nat_eq j) qs) ≡ Some n → (lookup (nat_eq i) qs ≡ Some n → lookup (nat_eq j) qs ≡ Some n → i ≡ j) → i ≡ j
    by true true s t a b rest = grind (arith, nat_tests)
    by true false s t a b rest = let is : q.1 ≡ n = cc in let lt = later q.0 q.1 j n qs h.1 b in absurd (omega arith)
    by false true s t a b rest = let is : q.1 ≡ n = cc in let lt = later q.0 q.1 i n qs h.1 a in absurd (omega arith)
    by false false s t a b rest = rest a b

-- all ids are paired
pub all-ids : (n i : ℕ) (xs : List ℕ) (ps : List (ℕ × ℕ)) → are_ascending xs ≡ true → n + length xs ≤ 2 ^ 32 → length xs ≤ i → ps ++ numbered (n + i) (drop i xs) ≡ numbered n xs → IsIdMap ps
all-ids n i xs ps h room past e =
    let none : drop i xs ≡ [] = drop_all i xs past in
    let is : ps ≡ numbered n xs = sym (append-nil ps) ∙ ap (λ ys. ps ++ numbered (n + i) ys) (sym none) ∙ e in
    subst (λ (qs : List (ℕ × ℕ)). IsIdMap qs) (sym is) (numbered-ids n xs h room)
