-- One call of a merge after another.
use Rattle.std.proofs.Common.{◌≡◌, ℕ, ◌≤◌, true, sym, subst, List, Option, Result, arith}
use Rattle.row_codec.specs.declared.rows.Kind.{Kind}
use Rattle.layer_merge.specs.Loads.{Load, load}
use Rattle.layer_merge.specs.Steps.{IsStep, MayLoad, to_load}
use Rattle.layer_merge.specs.Walks.{IsToLoad, WalkState, may_load}
use Rattle.layer_merge.proofs.MergeLaws.{may-begun}
use Rattle.layer_merge.proofs.StepLaws.{AreLaws}

module _ {C F : Type 0} (kept : C → C → Type 0) (came : C → C → ℕ → ℕ → ℕ → Result (List ℕ) F → Type 0) (laws : AreLaws kept came) (table : ℕ) (kinds : List Kind) (loads : C → Option (List Load)) where
  -- a chunk that is to be loaded after a call was to be loaded before it
  pub call-asked : (a b : C) (old new : WalkState) → new.begun ≡ true → new.table ≡ old.table → IsStep kept came loads table kinds a b old.stands new.stands (λ x. may_load x old) (λ x. to_load old.table x new.stands) → (layer number : ℕ) → IsToLoad new layer number → IsToLoad old layer number
  call-asked a b old new begun same step layer number h = subst (λ (t : ℕ). MayLoad (λ x. may_load x old) t layer number) same (omega (arith, h, fewer, there, bound))
    where
      fewer : may_load (load layer new.table number) new ≤ to_load new.table (load layer new.table number) new.stands
      fewer = may-begun new (load layer new.table number) begun

      there : to_load new.table (load layer new.table number) new.stands ≤ to_load old.table (load layer new.table number) new.stands
      there = subst (λ (t : ℕ). to_load t (load layer new.table number) new.stands ≤ to_load old.table (load layer new.table number) new.stands) (sym same) (omega arith)

      bound : to_load old.table (load layer new.table number) new.stands ≤ may_load (load layer new.table number) old
      bound = (let b = step.bound (load layer new.table number) in omega (arith, b))
