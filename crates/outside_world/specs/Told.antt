-- What a read and a write do to the bytes that are told. Each call tells after it exactly where it did before.
use Rattle.std.specs.Prelude.{◌≡◌, ℕ, ◌<◌, min, List, [], ◌++◌, length, take, Option, option_map, Result, MatchResult, MatchOption, ⊤}

-- these bytes, and then what is told
abbrev pub before_told : List ℕ → Option (List ℕ) → Option (List ℕ)
before_told bs told = option_map (λ xs. bs ++ xs) told

-- what is told, and then these bytes
abbrev pub told_before : Option (List ℕ) → List ℕ → Option (List ℕ)
told_before told bs = option_map (λ xs. xs ++ bs) told

-- nothing is left, where that is told
abbrev pub AtEnd : Option (List ℕ) → Type 0
AtEnd told = MatchOption told ⊤ (λ xs. xs ≡ [])

-- the next bytes stand in front of the room, and none in a room that isn't empty is the end; a failure leaves the bytes
abbrev pub ReadTakes : {E : Type 0} → Option (List ℕ) → Option (List ℕ) → Result ℕ E → List ℕ → Type 0
ReadTakes old new result room =
    MatchResult result (λ n. (old ≡ before_told (take n room) new) × (n ≡ 0 → 0 < length room → AtEnd new)) (λ _. new ≡ old)

-- the front of the piece is held; a failure leaves the bytes
abbrev pub WriteAdds : {E : Type 0} → Option (List ℕ) → Option (List ℕ) → Result ℕ E → List ℕ → Type 0
WriteAdds old new result piece = MatchResult result (λ n. new ≡ told_before old (take n piece)) (λ _. new ≡ old)

-- a write takes all that fits, and fails where nothing of a piece that isn't empty does
abbrev pub TakesWhatFits : {E : Type 0} → ℕ → ℕ → Result ℕ E → Type 0
TakesWhatFits space piece result = MatchResult result (λ n. (n ≡ min piece space) × (0 < piece → 0 < n)) (λ _. (0 < piece) × (space ≡ 0))
