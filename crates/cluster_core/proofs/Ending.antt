-- The end of a backup, and the tests of its database or its tables.
use Rattle.std.proofs.Common.{◌≡◌, ◌==◌, true≢false, inl, inr, ℕ, zero, suc, ◌+◌, ◌-◌, cond, option_map, unwrap_or, slice_get, ◌<◌, ◌≤◌, ◌^◌, Bool, true, false, List, [], ◌∷◌, ◌++◌, length, filter, Option, Some, None, refl, sym, ap, subst, ◌∙◌, arith, Result, IsErrAnd}
use Rattle.std.specs.List.{range_with_len}
use Rattle.std.proofs.lemmas.List.{length_push}
use Rattle.std.proofs.lemmas.Bool.{cases_Bool}
use Rattle.std.proofs.lemmas.Bool.Decides.{nat_tests}
use Rattle.mvcc_keys.specs.Times.{Time, next, time_le, time_lt}
use Rattle.table_descriptors.specs.declared.scopes.Scope.{Scope}
use Rattle.table_descriptors.specs.declared.scopes.Scope.TheVariants.{Tables}
use Rattle.table_descriptors.specs.Descriptors.{Schema, last_key}
use Rattle.table_descriptors.specs.Fields.{EachAfter, is_id}
use Rattle.introduced_spans.specs.Spans.{descriptors_of}
use Rattle.layer_manifest.specs.Manifests.{IsProperScope, comes_after}
use Rattle.history_model.specs.Histories.{Table, schemas_of}
use Rattle.outside_world.specs.Disk.{View, IsImage, IsKnown}
use Rattle.outside_world.specs.Objects.{Objects}
use Rattle.outside_world.proofs.Runs.{only_none}
use Rattle.collection_dir.proofs.StandsLaws.{manifests-same}
use Rattle.machine_model.specs.Disks.{made_layers}
use Rattle.reply_texts.specs.declared.refusals.Refusal.{Refusal}
use Rattle.reply_texts.specs.declared.refusals.Refusal.TheVariants.{ClockFull, Future}
use Rattle.reply_texts.specs.declared.answers.Answer.{Answer}
use Rattle.machine_model.specs.Machine.{Machine, Stepped, catalog_of, refusal_if, refused, with_time}
use Rattle.machine_model.specs.Backups.{ending, full_backup, has_one_of, ids_named}
use Rattle.machine_model.proofs.DiskLaws.{ready_leaves}
use Rattle.machine_model.specs.TableRows.{future_refusal}
use Rattle.cluster_core.specs.declared.halts.Halt.{Halt}
use Rattle.cluster_core.specs.declared.halts.Halt.TheVariants.{Memory}
use Rattle.cluster_core.specs.ClusterView.{ClusterState}
use Rattle.cluster_core.specs.Standing.{Keeps, MayStep, RefusedBy, Runs, StandsFor, machine_of}
use Rattle.cluster_core.specs.Backing.{IsEnding, IsEndingFault}
use Rattle.cluster_core.proofs.BackingUp.{as-returned, halted-runs, idle-none}
use Rattle.cluster_core.proofs.Flow.{catalog-is, passes, same-refused, stops}
use Rattle.machine_model.proofs.Past.{next-later}
use Rattle.mvcc_keys.proofs.TimeOrder.{lt-le, le-refl}

-- ---- runs of equal meaning

pub may-as : (c : ClusterState) (m : Machine) (s t : Stepped) (to : Machine) (v : View) → s ≡ t → MayStep c m s to v → MayStep c m t to v
may-as c m s t to v is may = subst (λ (x : Stepped). MayStep c m x to v) is may

pub runs-as : (c : ClusterState) (s t : Stepped) (to : Machine) (r : Result Answer Halt) (a b : View) → s ≡ t → Runs c s to r a b → Runs c t to r a b
runs-as c s t to r a b is runs = subst (λ (x : Stepped). Runs c x to r a b) is runs

-- ---- the end

clock-is : (c : ClusterState) (m : Machine) → StandsFor c m → m.clock ≡ c.clock
clock-is c m s = ap (λ (x : Machine). x.clock) s.machine_is

not-after : (clock t : Time) → refusal_if (time_lt clock t) (Future clock) ≡ None → time_le t clock ≡ true
not-after clock t none = elim (cases_Bool (time_lt clock t)) [
  | inl after ↦ absurd (let no : Some (Future clock) ≡ None = rw after at none in cc no)
  | inr before ↦ grind (arith, nat_tests, before)
]

pub ending-within : (clock : Time) (at : Option Time) (x : Time × Time) → IsEnding clock at x → (time_le x.0 x.1 ≡ true) × (time_le clock x.1 ≡ true)
ending-within clock None x e = (subst (λ (t : Time). time_le x.0 t ≡ true) (sym e.1) (le-refl x.0), subst (λ (t : Time). time_le clock t ≡ true) (sym e.1) (lt-le clock x.0 (next-later clock x.0 e.0)))
ending-within clock (Some t) x e = (rw (e.1, e.2) (not-after clock t e.0), subst (λ (s : Time). time_le clock s ≡ true) (sym e.2) (le-refl clock))

pub ending-is : (c : ClusterState) (m : Machine) → StandsFor c m → (at : Option Time) (x : Time × Time) (change : Time → Time → Stepped) → IsEnding c.clock at x → ending m at change ≡ change x.0 x.1
ending-is c m s None x change e = ap (λ (o : Option Time). with_time m o (λ t. change t t)) (ap next (clock-is c m s) ∙ e.0) ∙ ap (change x.0) (sym e.1)
ending-is c m s (Some t) x change e =
    passes m (future_refusal m t) [] (change t m.clock) (ap (λ (k : Time). refusal_if (time_lt k t) (Future k)) (clock-is c m s) ∙ e.0)
    ∙ (ap (change t) (clock-is c m s ∙ sym e.2) ∙ ap (λ (k : Time). change k x.1) (sym e.1))

pub ending-halted : (c : ClusterState) (at : Option Time) (change : Machine → Time → Time → Stepped) (r : Result Answer Halt) (e : Halt) → IsErrAnd r (λ y. y ≡ e) → IsEndingFault c.clock at e → (v : View) → (IsKnown v → (image : Objects) → v.left_since v.moment image → IsImage v image)
    → (m to : Machine) → MayStep c m (ending m at (change m)) to v → Runs c (ending m at (change m)) to r v v
ending-halted c None change r e is fault v only m to may =
    let s = ending m None (change m) in
    let full : s ≡ refused m ClockFull = ap (λ (o : Option Time). with_time m o (λ t. change m t t)) (ap next (clock-is c m may.stands) ∙ fault.0) in
    as-returned (λ (x : Result Answer Halt). Runs c s to x v v) r e is
    (halted-runs c m s to v e (Some ClockFull) (rw fault.1 refl) (λ refusal by. full ∙ same-refused m ClockFull refusal by) only may.stands may.ready)
ending-halted c (Some t) change r e is fault v only m to may =
    let s = ending m (Some t) (change m) in
    as-returned (λ (x : Result Answer Halt). Runs c s to x v v) r e is
    (halted-runs c m s to v e (future_refusal m t) (subst (λ (k : Time). RefusedBy e (refusal_if (time_lt k t) (Future k))) (sym (clock-is c m may.stands)) fault)
    (λ refusal by. stops m (future_refusal m t) [] (change m t m.clock) refusal by) only may.stands may.ready)

-- a command that is another one on every machine for which the cluster stands does what that one does
pub runs-by : (c new : ClusterState) (s t : Machine → Stepped) (r : Result Answer Halt) (a b : View) → ((m : Machine) → StandsFor c m → t m ≡ s m) → ((m to : Machine) → MayStep c m (s m) to a → Runs new (s m) to r a b)
    → (m to : Machine) → MayStep c m (t m) to a → Runs new (t m) to r a b
runs-by c new s t r a b is runs m to may = let e = is m may.stands in runs-as new (s m) (t m) to r a b (sym e) (runs m to (may-as c m (t m) (s m) to a e may))

-- ---- tests before those of the layer

module _ (m : Machine) (collection : List ℕ) (scope : Scope) (history : Bool) (end clock : Time) where
  pub first-passes : (test : Option Refusal) (tests : List (Option Refusal)) → test ≡ None → full_backup m (test ∷ tests) collection scope history end clock ≡ full_backup m tests collection scope history end clock
  first-passes test tests none = passes m test _ _ none

  pub first-stops : (test : Option Refusal) (tests : List (Option Refusal)) (refusal : Refusal) → test ≡ Some refusal → full_backup m (test ∷ tests) collection scope history end clock ≡ refused m refusal
  first-stops test tests refusal is = stops m test _ _ refusal is

-- a command that wanted memory before it changed anything
pub memory-halted : (c : ClusterState) (m : Machine) (s : Stepped) (to : Machine) (v : View) → (IsKnown v → (image : Objects) → v.left_since v.moment image → IsImage v image) → (r : Result Answer Halt) → IsErrAnd r (λ y. y ≡ Memory) → MayStep c m s to v → Runs c s to r v v
memory-halted c m s to v only r is may = as-returned (λ (x : Result Answer Halt). Runs c s to x v v) r Memory is (record { responds = tt; ready = tt; leaves = ready_leaves (Some m) (Some to) v only may.ready; changes = only_none v; ahead = λ w among later n is. refl; manifests = manifests-same (made_layers to) v.objects v.objects refl; idle = λ done. idle-none v })

-- ---- a backup up to its end

module _ (c : ClusterState) (at : Option Time) (x : Time × Time) (ends : IsEnding c.clock at x) (collection : List ℕ) (scope : Machine → Time → Scope) (history : Bool) where
  abbrev pub means : (Machine → Time → List (Option Refusal)) → Machine → Stepped
  means tests m = ending m at (λ end clock. full_backup m (tests m end) collection (scope m end) history end clock)

  pub means-is : (tests : Machine → Time → List (Option Refusal)) (m : Machine) → StandsFor c m → means tests m ≡ full_backup m (tests m x.0) collection (scope m x.0) history x.0 x.1
  means-is tests m s = ending-is c m s at x (λ end clock. full_backup m (tests m end) collection (scope m end) history end clock) ends

  -- a test after some that passed refuses it
  pub backup-halted : (tests : Machine → Time → List (Option Refusal)) (test : Machine → Option Refusal) (v : View) → (IsKnown v → (image : Objects) → v.left_since v.moment image → IsImage v image) → (r : Result Answer Halt) (e : Halt) → IsErrAnd r (λ y. y ≡ e)
      → ((tables : List Table) → Keeps c tables → RefusedBy e (test (machine_of c tables)))
      → ((m : Machine) → StandsFor c m → (refusal : Refusal) → test m ≡ Some refusal → full_backup m (tests m x.0) collection (scope m x.0) history x.0 x.1 ≡ refused m refusal)
      → (m to : Machine) → MayStep c m (means tests m) to v → Runs c (means tests m) to r v v
  backup-halted tests test v only r e is by stops m to may =
      let s = may.stands in
      as-returned (λ (y : Result Answer Halt). Runs c (means tests m) to y v v) r e is
      (halted-runs c m (means tests m) to v e (test m) (subst (λ (y : Machine). RefusedBy e (test y)) (sym s.machine_is) (by s.tables s.keeps)) (λ refusal t. means-is tests m s ∙ stops m s refusal t) only s may.ready)

  -- all of them passed
  pub backup-runs : (tests : Machine → Time → List (Option Refusal)) (fixed : Scope) (new : ClusterState) (r : Result Answer Halt) (a b : View)
      → ((m : Machine) → StandsFor c m → full_backup m (tests m x.0) collection (scope m x.0) history x.0 x.1 ≡ full_backup m [] collection fixed history x.0 x.1)
      → ((m to : Machine) → MayStep c m (full_backup m [] collection fixed history x.0 x.1) to a → Runs new (full_backup m [] collection fixed history x.0 x.1) to r a b)
      → (m to : Machine) → MayStep c m (means tests m) to a → Runs new (means tests m) to r a b
  backup-runs tests fixed new r a b passed runs m to may =
      let is = means-is tests m may.stands ∙ passed m may.stands in
      runs-as new (full_backup m [] collection fixed history x.0 x.1) (means tests m) to r a b (sym is) (runs m to (may-as c m (means tests m) (full_backup m [] collection fixed history x.0 x.1) to a is may))

pub stood-catalog : (c : ClusterState) (m : Machine) → StandsFor c m → catalog_of m ≡ c.schemas
stood-catalog c m s = ap catalog_of s.machine_is ∙ catalog-is c s.tables s.keeps

-- ---- the ids of named tables

last-pushed : {X : Type 0} (key : X → ℕ) (xs : List X) (x : X) (d : ℕ) → unwrap_or (option_map key (slice_get (xs ++ x ∷ []) (length xs))) d ≡ key x
last-pushed key [] x d = refl
last-pushed key (y ∷ ys) x d = last-pushed key ys x d

above-pushed : (before : List ℕ) (a id : ℕ) → a < id → comes_after (λ n. n) (before ++ a ∷ []) id ≡ true
above-pushed [] a id lt = grind (arith, nat_tests, lt)
above-pushed (y ∷ ys) a id lt =
    let long = length_push (y ∷ ys) a in
    let place : length ((y ∷ ys) ++ a ∷ []) - 1 ≡ length (y ∷ ys) = omega (arith, long) in
    let last : last_key (λ n. n) ((y ∷ ys) ++ a ∷ []) ≡ a = ap (λ i. unwrap_or (option_map (λ (n : ℕ). n) (slice_get ((y ∷ ys) ++ a ∷ []) i)) 0) place ∙ last-pushed (λ n. n) (y ∷ ys) a 0 in
    rw last (grind (arith, nat_tests, lt))

-- some of the ids from one on ascend
each-ascends : (p : ℕ → Bool) (a n : ℕ) (before : List ℕ) → ((id : ℕ) → a ≤ id → comes_after (λ m. m) before id ≡ true) → a + n ≤ 2 ^ 32
    → EachAfter (λ xs id. (is_id id ≡ true) × (comes_after (λ m. m) xs id ≡ true)) before (filter p (range_with_len a n))
each-ascends p a zero before above le = tt
each-ascends p a (suc n) before above le = by (p a) (each-ascends p (a + 1) n (before ++ a ∷ []) (λ id lt. above-pushed before a id (omega (arith, lt))) (omega (arith, le))) (each-ascends p (a + 1) n before (λ id lt. above id (omega (arith, lt))) (omega (arith, le)))
  where
    by : (b : Bool) → EachAfter (λ xs id. (is_id id ≡ true) × (comes_after (λ m. m) xs id ≡ true)) (before ++ a ∷ []) (filter p (range_with_len (a + 1) n))
        → EachAfter (λ xs id. (is_id id ≡ true) × (comes_after (λ m. m) xs id ≡ true)) before (filter p (range_with_len (a + 1) n))
        → EachAfter (λ xs id. (is_id id ≡ true) × (comes_after (λ m. m) xs id ≡ true)) before (cond b (a ∷ filter p (range_with_len (a + 1) n)) (filter p (range_with_len (a + 1) n)))
    by true with without = ((grind (arith, nat_tests, le), above a (omega arith)), with)
    by false with without = without

pub ids-scoped : (tables : List (List Schema)) (names : List (List ℕ × List ℕ)) (t : Time) → 100 + length tables ≤ 2 ^ 32 → EachAfter (λ xs id. (is_id id ≡ true) × (comes_after (λ m. m) xs id ≡ true)) [] (ids_named tables names t)
unfolding ids_named
ids-scoped tables names t few = each-ascends (λ id. has_one_of names t (descriptors_of tables id)) 100 (length tables) [] (λ id le. refl) few

-- such ids that are some make a proper scope
pub ids-proper : (tables : List (List Schema)) (names : List (List ℕ × List ℕ)) (t : Time) (items ids : List ℕ) (len room : ℕ) → (len ≡ length items) × (len ≤ room) → (len == 0) ≡ false → room < 2 ^ 63 → items ≡ ids_named tables names t → 100 + length tables ≤ 2 ^ 32 → ids ≡ items → IsProperScope (Tables ids)
ids-proper tables names t items ids len room ok some small are fits same =
    let long : length ids ≡ len = ap length same ∙ sym ok.0 in (
      subst (λ n. 0 < n) (sym long) (positive len some),
      subst (λ n. n < 2 ^ 64) (sym long) (omega arith),
      subst (EachAfter (λ xs id. (is_id id ≡ true) × (comes_after (λ m. m) xs id ≡ true)) []) (sym (same ∙ are)) (ids-scoped tables names t fits),
    )
  where
    positive : (n : ℕ) → (n == 0) ≡ false → 0 < n
    positive zero e = absurd (true≢false e)
    positive (suc n) e = omega arith

pub stood-schemas : (c : ClusterState) (m : Machine) → StandsFor c m → schemas_of m.history.tables ≡ c.schemas.tables
stood-schemas c m s = ap (λ (x : Machine). schemas_of x.history.tables) s.machine_is ∙ s.keeps.schemas
