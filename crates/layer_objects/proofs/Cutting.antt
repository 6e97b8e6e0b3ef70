-- How lists are cut into pieces.
use Rattle.std.proofs.Common.{◌≡◌, ◌≢◌, ℕ, zero, suc, ◌<◌, ◌≤◌, refl, ap, List, [], ◌∷◌, length, take, drop, arith}
use Rattle.std.proofs.lemmas.List.{length-drop}
use Rattle.layer_objects.specs.Contents.{chunk_size, cut, cut_times}

pub size_pos : 0 < chunk_size
unfolding chunk_size
size_pos = omega arith

-- what a piece leaves is shorter
pub shorter : {X : Type 0} (n room : ℕ) (x : X) (xs : List X) → 0 < n → length (x ∷ xs) ≤ suc room → length (drop n (x ∷ xs)) ≤ room
shorter n room x xs pos le = let l = length-drop n (x ∷ xs) in let m : suc (length xs) ≤ suc room = le in let s : length (x ∷ xs) ≡ suc (length xs) = refl in omega (arith, l, m, s, pos)

-- more times than elements make no difference
times_enough : {X : Type 0} (n : ℕ) → 0 < n → (a b : ℕ) (xs : List X) → length xs ≤ a → length xs ≤ b → cut_times a n xs ≡ cut_times b n xs
times_enough n pos zero zero xs la lb = refl
times_enough n pos zero (suc b) [] la lb = refl
times_enough n pos zero (suc b) (x ∷ xs) la lb = absurd (let m : suc (length xs) ≤ 0 = la in omega arith)
times_enough n pos (suc a) zero [] la lb = refl
times_enough n pos (suc a) zero (x ∷ xs) la lb = absurd (let m : suc (length xs) ≤ 0 = lb in omega arith)
times_enough n pos (suc a) (suc b) [] la lb = refl
times_enough {X} n pos (suc a) (suc b) (x ∷ xs) la lb = ap (λ (ps : List (List X)). take n (x ∷ xs) ∷ ps) (times_enough n pos a b (drop n (x ∷ xs)) (shorter n a x xs pos la) (shorter n b x xs pos lb))

pub cut-nil : {X : Type 0} (n : ℕ) (xs : List X) → xs ≡ [] → cut n xs ≡ []
unfolding cut
cut-nil n [] e = refl
cut-nil n (x ∷ xs) e = absurd cc

pub cut-more : {X : Type 0} (n : ℕ) (xs : List X) → 0 < n → xs ≢ [] → cut n xs ≡ take n xs ∷ cut n (drop n xs)
unfolding cut
cut-more n [] pos some = absurd (some refl)
cut-more {X} n (x ∷ xs) pos some = ap (λ (ps : List (List X)). take n (x ∷ xs) ∷ ps) (times_enough n pos (length xs) (length (drop n (x ∷ xs))) (drop n (x ∷ xs)) (shorter n (length xs) x xs pos (let s : length (x ∷ xs) ≡ suc (length xs) = refl in omega (arith, s))) (omega arith))
