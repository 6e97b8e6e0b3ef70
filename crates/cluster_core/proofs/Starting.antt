-- RESTORE DATABASE up to its chain.
use Rattle.std.proofs.Common.{◌≡◌, ◌⊎◌, inl, inr, ℕ, List, map, Option, Some, None, unwrap_or, refl, sym, ap, subst, ◌∙◌, Result, Err}
use Rattle.mvcc_keys.specs.Times.{Time, next}
use Rattle.history_model.specs.Histories.{Table}
use Rattle.outside_world.specs.Disk.{View, IsImage, IsKnown}
use Rattle.outside_world.specs.Objects.{Objects}
use Rattle.script_grammar.specs.declared.backups.Src.{Src}
use Rattle.reply_texts.specs.declared.refusals.Refusal.TheVariants.{ClockFull}
use Rattle.reply_texts.specs.declared.answers.Answer.{Answer}
use Rattle.machine_model.specs.Machine.{Machine, Stepped, refused, with_time}
use Rattle.machine_model.specs.Past.{IsLater}
use Rattle.machine_model.specs.Restores.{restore_chain, restore_database}
use Rattle.cluster_core.specs.declared.halts.Halt.{Halt}
use Rattle.cluster_core.specs.declared.halts.Halt.TheVariants.{Refused, Disk, Memory}
use Rattle.cluster_core.specs.declared.chains.Chain.{Chain}
use Rattle.cluster_core.specs.ClusterView.{ClusterState, record_of}
use Rattle.cluster_core.specs.Standing.{MayStep, Runs, machine_of}
use Rattle.cluster_core.specs.Chains.{IsChain, IsChainFault, with_chain}
use Rattle.cluster_core.specs.Restores.{IsFullTwice}
use Rattle.cluster_core.proofs.BackingUp.{halted-runs}
use Rattle.cluster_core.proofs.Covers.{chain-refused, chain-told}

module _ (c : ClusterState) (database : List ℕ) (source : Src) (collection : List ℕ) (at : Option Time) (new : Option (List ℕ)) where
  abbrev means : Machine → Stepped
  means m = restore_database m database source collection at new

  abbrev over : Machine → Time → Time → Stepped
  over m made published = with_chain m source collection at (λ t. restore_chain m database (unwrap_or new database) t made published)

  drawn : (m : Machine) → means m ≡ with_time m (next m.clock) (λ made. with_time m (next made) (over m made))
  unfolding restore_database
  drawn m = refl

  full : (tables : List Table) (e : Halt) → IsFullTwice c.clock e → means (machine_of c tables) ≡ refused (machine_of c tables) ClockFull
  full tables e is = drawn (machine_of c tables) ∙ by is.1
    where
      by : (next c.clock ≡ None) ⊎ ((made : Time) × (next c.clock ≡ Some made) × (next made ≡ None)) → with_time (machine_of c tables) (next c.clock) (λ made. with_time (machine_of c tables) (next made) (over (machine_of c tables) made)) ≡ refused (machine_of c tables) ClockFull
      by (inl none) = ap (λ (o : Option Time). with_time (machine_of c tables) o (λ made. with_time (machine_of c tables) (next made) (over (machine_of c tables) made))) none
      by (inr q) = ap (λ (o : Option Time). with_time (machine_of c tables) o (λ made. with_time (machine_of c tables) (next made) (over (machine_of c tables) made))) q.1 ∙ ap (λ (o : Option Time). with_time (machine_of c tables) o (over (machine_of c tables) q.0)) q.2

  pub full-runs : (v : View) (e : Halt) → IsFullTwice c.clock e → (IsKnown v → (image : Objects) → v.left_since v.moment image → IsImage v image) → (m to : Machine) → MayStep c m (means m) to v → Runs c (means m) to (Err e) v v
  full-runs v e is only m to may =
      let s = may.stands in
      let told : means m ≡ refused m ClockFull = subst (λ (y : Machine). means y ≡ refused y ClockFull) (sym s.machine_is) (full s.tables e is) in
      subst (λ (h : Halt). Runs c (means m) to (Err h) v v) (sym is.0)
      (halted-runs c m (means m) to v (Refused ClockFull) (Some ClockFull) refl (λ y same. told ∙ ap (refused m) (let e : ClockFull ≡ y = cc same in e)) only s may.ready)

  module _ (made published : Time) (first : next c.clock ≡ Some made) (second : next made ≡ Some published) where
    over-is : (tables : List Table) → means (machine_of c tables) ≡ over (machine_of c tables) made published
    over-is tables =
        let y = machine_of c tables in
        drawn y ∙ (ap (λ (o : Option Time). with_time y o (λ t. with_time y (next t) (over y t))) first ∙ ap (λ (o : Option Time). with_time y o (over y made)) second)

    pub chain-runs : (v : View) (e : Halt) → IsChainFault c.book source collection at e → (IsKnown v → (image : Objects) → v.left_since v.moment image → IsImage v image) → (m to : Machine) → MayStep c m (means m) to v → Runs c (means m) to (Err e) v v
    chain-runs v (Refused refusal) fault only m to may =
        let s = may.stands in
        let y = machine_of c s.tables in
        let is : means y ≡ refused y refusal = over-is s.tables ∙ chain-refused c s.tables source collection at (λ t. restore_chain y database (unwrap_or new database) t made published) refusal fault in
        let is-m : means m ≡ refused m refusal = subst (λ (z : Machine). means z ≡ refused z refusal) (sym s.machine_is) is in
        halted-runs c m (means m) to v (Refused refusal) (Some refusal) refl (λ other same. is-m ∙ ap (refused m) (let e : refusal ≡ other = cc same in e)) only s may.ready
    chain-runs v Disk (inl none) only m to may = absurd none
    chain-runs v Disk (inr none) only m to may = absurd none.uncovered
    chain-runs v Memory fault only m to may = halted-runs c m (means m) to v Memory None tt (λ x no_test. absurd (cc no_test)) only may.stands may.ready

    -- what is done is done with the chain
    pub chain-steps : (x : Chain) → IsChain c.book source collection at x → (name : List ℕ) → name ≡ unwrap_or new database → (v w : View) (n : ClusterState) (res : Result Answer Halt)
        → ((m to : Machine) → MayStep c m (restore_chain m database name x.time made published (map record_of x.layers.items)) to v → Runs n (restore_chain m database name x.time made published (map record_of x.layers.items)) to res v w)
        → (m to : Machine) → MayStep c m (means m) to v → Runs n (means m) to res v w
    chain-steps x found name name-is v w n res runs m to may =
        let s = may.stands in
        let y = machine_of c s.tables in
        let is : means y ≡ restore_chain y database name x.time made published (map record_of x.layers.items) =
        over-is s.tables ∙ (chain-told c s.tables source collection at (λ t. restore_chain y database (unwrap_or new database) t made published) x found
        ∙ ap (λ (d : List ℕ). restore_chain y database d x.time made published (map record_of x.layers.items)) (sym name-is)) in
        let is-m : means m ≡ restore_chain m database name x.time made published (map record_of x.layers.items) = subst (λ (z : Machine). means z ≡ restore_chain z database name x.time made published (map record_of x.layers.items)) (sym s.machine_is) is in
        subst (λ (z : Stepped). Runs n z to res v w) (sym is-m) (runs m to (record { stands = s; ready = may.ready; later = subst (λ (z : Stepped). IsLater z.machine to) is-m may.later }))
