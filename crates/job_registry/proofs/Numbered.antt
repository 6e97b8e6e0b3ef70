use Rattle.std.proofs.Common.{◌≡◌, ℕ, zero, suc, ◌+◌, ◌-◌, ◌<◌, List, [], ◌∷◌, ◌++◌, length, slice_get, Some, None, true, false, nat_eq, refl, ap, ◌∙◌, arith, ◌^◌, length-append}
use Rattle.std.proofs.lemmas.Option.{slice_get_past}
use Rattle.std.proofs.lemmas.Map.Entries.{length-values_of}
use Rattle.std.specs.Map.{keys_of, values_of, lookup}
use Rattle.indexmap.specs.IndexMap.{insert_entry}
use Rattle.std.specs.Prelude.{slice_set, option_map, Ok}
use Rattle.indexmap.specs.IndexMap.{set_value_at}
use Rattle.job_registry.specs.declared.registry.Held.{Held}
use Rattle.job_registry.specs.declared.state.JobState.TheVariants.{Running}
use Rattle.job_registry.specs.declared.state.JobState.{JobState}
use Rattle.job_registry.specs.Lending.{with_job}
use Rattle.job_registry.specs.Refused.{running_answer}
use Rattle.job_registry.specs.Numbers.{AreNumbered}
use Rattle.job_registry.specs.Jobs.{job_at, with_state}

-- a key below the first is not there
pub lookup-below : {X : Type 0} (m n : ℕ) (es : List (ℕ × X)) → AreNumbered m (keys_of es) → n < m → lookup (nat_eq n) es ≡ None
lookup-below m n [] h lt = refl
lookup-below m n (e ∷ es) h lt =
    let ne : nat_eq n e.0 ≡ false = grind (arith, h.0) in
    rw ne (lookup-below (m + 1) n es h.1 (omega arith))

-- the value at the key m + i is the i-th
pub lookup-numbered : {X : Type 0} (m i n : ℕ) (es : List (ℕ × X)) → n ≡ m + i → AreNumbered m (keys_of es) → lookup (nat_eq n) es ≡ slice_get (values_of es) i
lookup-numbered m i n [] e0 h = refl
lookup-numbered m zero n (e ∷ es) e0 h =
    let eq : nat_eq n e.0 ≡ true = grind (arith, h.0) in
    rw eq refl
lookup-numbered m (suc i) n (e ∷ es) e0 h =
    let ne : nat_eq n e.0 ≡ false = grind (arith, h.0) in
    rw ne (lookup-numbered (m + 1) i n es (omega arith) h.1)

-- the value at a number is the job of it
pub lookup-job_at : {X : Type 0} (n : ℕ) (es : List (ℕ × X)) → AreNumbered 1 (keys_of es) → lookup (nat_eq n) es ≡ job_at (values_of es) n
lookup-job_at zero es h = lookup-below 1 0 es h (omega arith)
lookup-job_at (suc n) es h = lookup-numbered 1 n (suc n) es (omega arith) h

-- past the jobs there is none
pub job_at-past : {X : Type 0} (n : ℕ) (xs : List X) → length xs < n → job_at xs n ≡ None
job_at-past zero xs lt = refl
job_at-past (suc n) xs lt = slice_get_past xs n (omega arith)

-- the next number goes last, and the values gain one
pub insert-numbered : {X : Type 0} (m n : ℕ) (es : List (ℕ × X)) (x : X) → AreNumbered m (keys_of es)
    → n ≡ m + length (values_of es) → insert_entry nat_eq es n x ≡ es ++ (n, x) ∷ []
insert-numbered m n [] x h e0 = refl
insert-numbered m n (e ∷ es) x h e0 =
    let ne : nat_eq n e.0 ≡ false = grind (arith, h.0) in
    rw ne (ap (λ r. e ∷ r) (insert-numbered (m + 1) n es x h.1 (omega arith)))

pub keys-numbered : {X : Type 0} (m n : ℕ) (es : List (ℕ × X)) (x : X) → AreNumbered m (keys_of es)
    → n ≡ m + length (values_of es) → AreNumbered m (keys_of (es ++ (n, x) ∷ []))
keys-numbered m n [] x h e0 = (omega arith, tt)
keys-numbered m n (e ∷ es) x h e0 = (h.0, keys-numbered (m + 1) n es x h.1 (omega arith))

pub values_of-append : {X : Type 0} (es fs : List (ℕ × X)) → values_of (es ++ fs) ≡ values_of es ++ values_of fs
values_of-append [] fs = refl
values_of-append (e ∷ es) fs = ap (λ r. e.1 ∷ r) (values_of-append es fs)

-- what one more job leaves
pub added : {X : Type 0} (es es' : List (ℕ × X)) (n : ℕ) (x : X) → AreNumbered 1 (keys_of es) → n ≡ length es + 1
    → length (values_of es) + 1 < 2 ^ 32 → es' ≡ insert_entry nat_eq es n x
    → (AreNumbered 1 (keys_of es') × (length (values_of es') < 2 ^ 32)) × (values_of es' ≡ values_of es ++ x ∷ [])
added es es' n x h e0 room put =
    let at : n ≡ 1 + length (values_of es) = omega (arith, length-values_of es) in
    let is : es' ≡ es ++ (n, x) ∷ [] = put ∙ insert-numbered 1 n es x h at in
    let vals : values_of es' ≡ values_of es ++ x ∷ [] = ap values_of is ∙ values_of-append es _ in
    let len : length (values_of es') ≡ length (values_of es) + 1 = ap length vals ∙ length-append (values_of es) (x ∷ []) in
    ((rw is (keys-numbered 1 n es x h at), omega arith), vals)

-- the values after a write by index
pub values_of-set_value_at : {X : Type 0} (es : List (ℕ × X)) (i : ℕ) (x : X) → values_of (set_value_at es i x) ≡ slice_set (values_of es) i x
values_of-set_value_at [] i x = refl
values_of-set_value_at (e ∷ es) zero x = refl
values_of-set_value_at (e ∷ es) (suc i) x = ap (λ r. e.1 ∷ r) (values_of-set_value_at es i x)

-- a running job, by its place
pub running_place : {J : Type 0} (xs : List (Held J)) (n : ℕ) (h : Held J) → option_map (λ (k : Held J). k.state) (job_at xs n) ≡ Some Running
    → slice_get xs (n - 1) ≡ Some h → (0 < n) × (running_answer xs n ≡ Ok h.job) × (h.state ≡ Running)
running_place xs zero h e at = cc
running_place xs (suc n) h e at =
    let e0 : suc n - 1 ≡ n = omega arith in
    let at' : slice_get xs n ≡ Some h = rw e0 at at in
    let is : h.state ≡ Running = cc in
    (omega arith, rw (at', is) refl, is)

-- what is lent of a running job, at its place
pub lent_value : {J : Type 0} (xs : List (Held J)) (es : List (ℕ × Held J)) (n : ℕ) (s : JobState) (w : J) → values_of es ≡ xs → 0 < n → s ≡ Running
    → values_of (set_value_at es (n - 1) (record { state = s; job = w })) ≡ with_job xs n w
lent_value xs es zero s w v lt is = absurd (omega arith)
lent_value xs es (suc n) s w v lt is =
    let e0 : suc n - 1 ≡ n = omega arith in
    rw (values_of-set_value_at es (suc n - 1) (record { state = s; job = w }), e0, v, is) refl

-- the jobs after the state of one is written
pub stated_value : {J : Type 0} (xs : List (Held J)) (es : List (ℕ × Held J)) (n : ℕ) (h : Held J) (s : JobState) → values_of es ≡ xs → (n ≡ 0 → ⊥) → slice_get xs (n - 1) ≡ Some h
    → values_of (set_value_at es (n - 1) (record { state = s; job = h.job })) ≡ with_state xs n s
stated_value xs es zero h s v some at = absurd (some refl)
stated_value xs es (suc n) h s v some at =
    let e0 : suc n - 1 ≡ n = omega arith in
    let at' : slice_get xs n ≡ Some h = rw e0 at at in
    rw (values_of-set_value_at es (suc n - 1) (record { state = s; job = h.job }), e0, v, at') refl
