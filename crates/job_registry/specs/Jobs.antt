-- Jobs by their numbers, over the list of all jobs.
use Rattle.std.specs.Prelude.{ℕ, zero, suc, List, Bool, true, false, Option, Some, None, slice_get, slice_set}
use Rattle.job_registry.specs.declared.state.JobState.{JobState}
use Rattle.job_registry.specs.declared.state.JobState.TheVariants.{Running, Paused, Done, Cancelled, Failed}
use Rattle.job_registry.specs.declared.registry.Held.{Held}

-- the job of a number: jobs are numbered from 1
abbrev pub job_at : {X : Type 0} → List X → ℕ → Option X
job_at xs zero = None
job_at xs (suc n) = slice_get xs n

-- a state in which a job is over
abbrev pub is_ended : JobState → Bool
is_ended Running = false
is_ended Paused = false
is_ended Done = true
is_ended Cancelled = true
is_ended Failed = true

-- the jobs, with the one at a place in a state
abbrev pub state_at : {J : Type 0} → List (Held J) → ℕ → JobState → Option (Held J) → List (Held J)
state_at xs i s None = xs
state_at xs i s (Some h) = slice_set xs i (record { state = s; job = h.job })

-- the jobs, with the one of this number in a state
abbrev pub with_state : {J : Type 0} → List (Held J) → ℕ → JobState → List (Held J)
with_state xs zero s = xs
with_state xs (suc n) s = state_at xs n s (slice_get xs n)
