-- What calls on a job answer.
use Rattle.std.specs.Prelude.{ℕ, List, Option, Some, None, Result, Ok, Err, if◌then◌else◌}
use Rattle.job_registry.specs.declared.state.JobState.{JobState}
use Rattle.job_registry.specs.declared.state.JobState.TheVariants.{Running}
use Rattle.job_registry.specs.declared.state.JobRefusal.{JobRefusal}
use Rattle.job_registry.specs.declared.state.JobRefusal.TheVariants.{NoSuchJob, NotRunning}
use Rattle.job_registry.specs.declared.registry.Held.{Held}
use Rattle.job_registry.specs.Jobs.{is_ended, job_at}

abbrev pub if_running : {J : Type 0} → ℕ → JobState → J → Result J JobRefusal
if_running n Running j = Ok j
if_running n other j = Err (NotRunning n other)

abbrev pub running_of : {J : Type 0} → ℕ → Option (Held J) → Result J JobRefusal
running_of n None = Err (NoSuchJob n)
running_of n (Some h) = if_running n h.state h.job

-- a job that runs, or why there is none
abbrev pub running_answer : {J : Type 0} → List (Held J) → ℕ → Result J JobRefusal
running_answer xs n = running_of n (job_at xs n)

abbrev pub refusal_of : {J : Type 0} → ℕ → Option (Held J) → Option JobRefusal
refusal_of n None = Some (NoSuchJob n)
refusal_of n (Some h) = if is_ended h.state then Some (NotRunning n h.state) else None

-- why a job is over or was never there
abbrev pub refusal : {J : Type 0} → List (Held J) → ℕ → Option JobRefusal
refusal xs n = refusal_of n (job_at xs n)
