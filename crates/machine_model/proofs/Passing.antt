-- What holds where no test refuses a command, and no test a backup.
use Rattle.std.proofs.Common.{◌≡◌, ℕ, Bool, true, false, List, [], ◌∷◌, ◌++◌, Option, Some, None, refl}
use Rattle.std.specs.Prelude.{option_and_then, option_map}
use Rattle.mvcc_keys.specs.Times.{Time, time_le, time_lt}
use Rattle.mvcc_keys.proofs.TimeOrder.{le-trans, lt-le, not_le-lt}
use Rattle.table_descriptors.specs.declared.scopes.Scope.{Scope}
use Rattle.table_descriptors.specs.Descriptors.{Schema}
use Rattle.history_model.specs.Histories.{schemas_of}
use Rattle.introduced_spans.specs.declared.plans.PlanFault.{PlanFault}
use Rattle.introduced_spans.specs.declared.plans.PlanFault.TheVariants as plan
use Rattle.introduced_spans.specs.Spans.{first_fault, layer_plan, plan_fault, span_of}
use Rattle.introduced_spans.proofs.Standing.{plan-stands}
use Rattle.reply_texts.specs.declared.refusals.Refusal.{Refusal}
use Rattle.reply_texts.specs.declared.refusals.Refusal.TheVariants.{EndNotAfter}
use Rattle.machine_model.specs.declared.extents.Extent.{Extent}
use Rattle.machine_model.specs.Machine.{Machine, first_refusal, refusal_if}
use Rattle.machine_model.specs.Backups.{end_refusal, floor_over, plan_refusal, refusal_of_plan, thresholds}

-- ---- lists of tests

pub first-passed : (a : Option Refusal) (tests : List (Option Refusal)) → first_refusal (a ∷ tests) ≡ None → (a ≡ None) × (first_refusal tests ≡ None)
first-passed None tests e = (refl, e)
first-passed (Some refusal) tests e = cc e

pub others-passed : (tests more : List (Option Refusal)) → first_refusal (tests ++ more) ≡ None → first_refusal more ≡ None
others-passed [] more e = e
others-passed (None ∷ tests) more e = others-passed tests more e
others-passed (Some refusal ∷ tests) more e = cc e

-- ---- the tests of a backup

pub end-after : (end last : Time) → end_refusal end last ≡ None → time_lt last end ≡ true
end-after end last = by (time_le end last) refl
  where
    by : (b : Bool) → time_le end last ≡ b → refusal_if b (EndNotAfter end last) ≡ None → time_lt last end ≡ true
    by true le none = cc none
    by false gt e = not_le-lt last end gt

-- a test that found something is no want of memory
unfoldable IsNamed : Option PlanFault → Type 0
IsNamed f = f ≡ Some plan.Memory → ⊥

both-named : (a b : Option PlanFault) → IsNamed a → IsNamed b → IsNamed (first_fault (a ∷ b ∷ []))
unfolding IsNamed
both-named None None x y e = cc e
both-named None (Some f) x y e = y e
both-named (Some f) b x y e = x e

made-named : (make : ℕ → PlanFault) (found : Option ℕ) → ((id : ℕ) → make id ≡ plan.Memory → ⊥) → IsNamed (option_map make found)
unfolding IsNamed
made-named make None is e = cc e
made-named make (Some id) is e = is id (let s : Some (make id) ≡ Some plan.Memory = e in cc s)

plan-named : (tables : List (List Schema)) (scope : Scope) (start end : Time) (history : Bool) (threshold : ℕ → Time) → IsNamed (plan_fault tables scope start end history threshold)
unfolding plan_fault
plan-named tables scope start end history threshold = both-named _ _
    (made-named (λ id. plan.StartCollected id (threshold id) _) _ (λ id e. cc e))
    (made-named (λ id. plan.Collected id (threshold id)) _ (λ id e. cc e))

no-refusal : (f : Option PlanFault) → IsNamed f → option_and_then refusal_of_plan f ≡ None → f ≡ None
unfolding IsNamed
no-refusal None is e = refl
no-refusal (Some (plan.StartCollected table at start)) is e = cc e
no-refusal (Some (plan.Collected table at)) is e = cc e
no-refusal (Some plan.Memory) is e = absurd (is refl)

pub plan-passed : (m : Machine) (x : Extent) → plan_refusal m x ≡ None → plan_fault (schemas_of m.history.tables) x.scope x.start x.end x.history (thresholds m) ≡ None
plan-passed m x = no-refusal _ (plan-named (schemas_of m.history.tables) x.scope x.start x.end x.history (thresholds m))

-- the floor of a layer isn't before its start
pub floor-from : (m : Machine) (x : Extent) → time_le x.start (floor_over m x) ≡ true
unfolding layer_plan span_of
floor-from m x = (plan-stands (schemas_of m.history.tables) x.scope x.start x.end x.history (thresholds m)).from

-- the floor of a layer that no test refuses isn't after its end
pub floor-within : (m : Machine) (x : Extent) (last : Time) → time_le x.start last ≡ true → end_refusal x.end last ≡ None → plan_refusal m x ≡ None → time_le (floor_over m x) x.end ≡ true
unfolding layer_plan span_of
floor-within m x last from after passed =
    (plan-stands (schemas_of m.history.tables) x.scope x.start x.end x.history (thresholds m)).upto (plan-passed m x passed) (le-trans x.start last x.end from (lt-le last x.end (end-after x.end last after)))
