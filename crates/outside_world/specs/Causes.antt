-- When a call may answer that the outside failed. Each call of a source, a sink, a disk and a layer cites this.
use Rattle.std.specs.Prelude.{◌≡◌, ℕ, zero, suc, ◌+◌, ◌-◌, ◌^◌, ◌≤◌, min, Bool, true, false, Result, MatchResult}

-- the count rose, or stands at its end
abbrev pub Rose : ℕ → ℕ → Type 0
Rose before now = min (before + 1) (2 ^ 64 - 1) ≤ now

-- what a fault does to the count: one that is counted raises it, any other leaves it
abbrev pub Counted : Bool → ℕ → ℕ → Type 0
Counted true before now = Rose before now
Counted false before now = now ≡ before

-- the count never falls and stays in 64 bits; it rose where the answer is a fault that is counted, and is as before at every other answer
pub record HasCauseBy {T E : Type 0} (is_counted : E → Bool) (before now : ℕ) (result : Result T E) : Type 0 where
  pub later : before ≤ now
  pub capped : before ≤ 2 ^ 64 - 1 → now ≤ 2 ^ 64 - 1
  pub counts : MatchResult result (λ _. now ≡ before) (λ e. Counted (is_counted e) before now)

-- each fault is counted
abbrev pub HasCause : {T E : Type 0} → ℕ → ℕ → Result T E → Type 0
HasCause before now result = HasCauseBy (λ _. true) before now result

-- a write took this many bytes of a piece of this length: taking nothing of a piece that isn't empty raises the count
abbrev pub CountAfter : ℕ → ℕ → ℕ → ℕ → Type 0
CountAfter before now zero zero = now ≡ before
CountAfter before now zero (suc piece) = Rose before now
CountAfter before now (suc taken) piece = now ≡ before

-- the same of a write of a piece of this length
pub record WriteHasCause {E : Type 0} (before now : ℕ) (result : Result ℕ E) (piece : ℕ) : Type 0 where
  pub later : before ≤ now
  pub capped : before ≤ 2 ^ 64 - 1 → now ≤ 2 ^ 64 - 1
  pub count : MatchResult result (λ n. CountAfter before now n piece) (λ _. Rose before now)
