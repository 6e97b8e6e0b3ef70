-- A list is cut into its pieces.
use Rattle.std.proofs.Common.{◌≡◌, ℕ, zero, suc, ◌<◌, ◌≤◌, refl, sym, ap, ◌∙◌, List, [], ◌∷◌, ◌++◌, length, take, drop, arith, Option, Some, slice_get}
use Rattle.std.proofs.lemmas.List.{length-drop, length-take-le, take-append-drop}
use Rattle.layer_objects.specs.Contents.{chunk_size, cut, cut_times}
use Rattle.layer_objects.specs.CutLaws.{AreItsPieces, EntriesAreCut}
use Rattle.layer_objects.proofs.Cutting.{shorter}

no-pieces : {X : Type 0} (n : ℕ) → AreItsPieces {X = X} n [] []
no-pieces {X} n = record { joined = refl; full = λ i p l g. absurd (omega (arith, l)); some = λ i p g. absurd (cc); none = ((λ e. refl), (λ e. refl)) }

piece_is : {X : Type 0} (p q : List X) → (let u : Option (List X) = Some p in u) ≡ Some q → p ≡ q
piece_is p q e = cc

-- the first elements, at most n and at least one
first-size : {X : Type 0} (n : ℕ) (x : X) (xs : List X) → 0 < n → (0 < length (take n (x ∷ xs))) × (length (take n (x ∷ xs)) ≤ n)
first-size zero x xs pos = absurd (omega (arith, pos))
first-size {X} (suc n) x xs pos = (omega arith, let l = at_most n xs in omega (arith, l))
  where
    at_most : (m : ℕ) (ys : List X) → length (take m ys) ≤ m
    at_most zero ys = omega arith
    at_most (suc m) [] = omega arith
    at_most (suc m) (y ∷ ys) = let l = at_most m ys in omega (arith, l)

some-left : {X : Type 0} (ps : List (List X)) (xs : List X) → (xs ≡ [] → ps ≡ []) → 0 < length ps → 0 < length xs
some-left ps [] h l = let e = h refl in absurd (let l' = rw e at l in omega (arith, l'))
some-left ps (x ∷ xs) h l = omega arith

one-piece : {X : Type 0} (n : ℕ) (x : X) (xs : List X) (ps : List (List X)) → 0 < n → AreItsPieces n (drop n (x ∷ xs)) ps → AreItsPieces n (x ∷ xs) (take n (x ∷ xs) ∷ ps)
one-piece {X} n x xs ps pos rest = record {
  joined = ap (λ (ys : List X). take n (x ∷ xs) ++ ys) rest.joined ∙ take-append-drop n (x ∷ xs);
  full = full;
  some = some;
  none = ((λ e. absurd (cc)), (λ e. absurd (cc)));
}
  where
    full : (i : ℕ) (piece : List X) → suc i < suc (length ps) → slice_get (take n (x ∷ xs) ∷ ps) i ≡ Some piece → length piece ≡ n
    full zero piece l g =
        let more = some-left ps (drop n (x ∷ xs)) rest.none.1 (omega (arith, l)) in
        let d = length-drop n (x ∷ xs) in
        let whole : length (take n (x ∷ xs)) ≡ n = length-take-le n (x ∷ xs) (omega (arith, more, d)) in
        ap (λ (p : List X). length p) (sym (piece_is (take n (x ∷ xs)) piece g)) ∙ whole
    full (suc i) piece l g = rest.full i piece (omega (arith, l)) g

    some : (i : ℕ) (piece : List X) → slice_get (take n (x ∷ xs) ∷ ps) i ≡ Some piece → (0 < length piece) × (length piece ≤ n)
    some zero piece g = rw (← piece_is (take n (x ∷ xs)) piece g) (first-size n x xs pos)
    some (suc i) piece g = rest.some i piece g

times-cut : {X : Type 0} (n times : ℕ) (xs : List X) → 0 < n → length xs ≤ times → AreItsPieces n xs (cut_times times n xs)
times-cut n zero [] pos le = no-pieces n
times-cut n zero (x ∷ xs) pos le = absurd (omega (arith, le))
times-cut n (suc times) [] pos le = no-pieces n
times-cut n (suc times) (x ∷ xs) pos le = one-piece n x xs (cut_times times n (drop n (x ∷ xs))) pos (times-cut n times (drop n (x ∷ xs)) pos (shorter n times x xs pos le))

pub entries-cut : EntriesAreCut
unfolding cut chunk_size
entries-cut = record { size = refl; pieces = λ n entries pos. times-cut n (length entries) entries pos (omega arith) }
