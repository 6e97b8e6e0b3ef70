-- Calls that fail by their number. The memory source, sink and disk cite this.
use Rattle.std.specs.Prelude.{ℕ, ◌+◌, ◌-◌, ◌^◌, min, Bool, false, ◌||◌, nat_eq, nat_lt, List, Option, Some, None}
use Rattle.std.specs.List.{list_any}

-- the number of the call after this many: the first is 1, and the numbers end where 64 bits do
abbrev pub next_call : ℕ → ℕ
next_call calls = min (calls + 1) (2 ^ 64 - 1)

-- the call is one of those that fail
abbrev pub fails_at : List ℕ → ℕ → Bool
fails_at fails call = list_any (λ n. nat_eq n call) fails

-- the call comes after the stop
abbrev pub is_after : Option ℕ → ℕ → Bool
is_after None call = false
is_after (Some last) call = nat_lt last call

-- whether the call of this number fails
abbrev pub is_failing : Option ℕ → List ℕ → ℕ → Bool
is_failing stop fails call = is_after stop call || fails_at fails call
