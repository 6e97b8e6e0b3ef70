-- What a job that is lent leaves.
use Rattle.std.specs.Prelude.{ℕ, zero, suc, List, Result, slice_set}
use Rattle.std.specs.Borrow.{LendsIfOk, MutBor, Fml, RattleType}
use Rattle.job_registry.specs.declared.registry.Held.{Held}
use Rattle.job_registry.specs.declared.state.JobState.TheVariants.{Running}
use Rattle.job_registry.specs.declared.state.JobRefusal.{JobRefusal}
use Rattle.job_registry.specs.contracts.registry.Registry.{the_row}

-- the jobs, with the running one of this number changed
abbrev pub with_job : {J : Type 0} → List (Held J) → ℕ → J → List (Held J)
with_job xs zero j = xs
with_job xs (suc n) j = slice_set xs n (record { state = Running; job = j })

-- the registry ends with the last value behind r as that job, and as it was where none is lent
abbrev pub LendsJob : (J : RattleType) → MutBor (List (Held J.Denot)) → ℕ → Result (MutBor J.Denot) JobRefusal → Fml
LendsJob J s n r = LendsIfOk (the_row J) J s r (λ w. with_job s.now n w) s.now
