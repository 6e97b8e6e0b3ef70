-- A merge between two calls.
use Rattle.std.proofs.Common.{◌≡◌, ℕ, Bool, true, false, sym, subst, List, [], Option, Result, Ok, Err, IfOk, IfErr, arith, ◌+◌, ◌≤◌}
use Rattle.mvcc_keys.specs.declared.entries.Entry.{Entry}
use Rattle.row_codec.specs.declared.rows.Kind.{Kind}
use Rattle.fact_model.specs.Facts.{IsApart}
use Rattle.layer_merge.specs.declared.ranges.Waiting.{Waiting}
use Rattle.layer_merge.specs.declared.wanted.Wanted.{Wanted}
use Rattle.layer_merge.specs.Loads.{Load, World}
use Rattle.layer_merge.specs.Steps.{to_begin, to_load}
use Rattle.layer_merge.specs.Stands.{Stand, AreAt}
use Rattle.version_store.specs.Tables.{Bytes, bytes_cmp}
use Rattle.version_store.specs.Lists.{facts_of}
use Rattle.layer_merge.specs.Ranges.{HasRanges, AreDated}
use Rattle.layer_merge.specs.Starts.{AreInOrder, parts_entries}
use Rattle.layer_merge.specs.Walks.{WalkState, walk_state, may_load, MergesOver, IsAtWork, IsNew, IsWalking}

module _ (w : World) (all : List Entry) (table : ℕ) (kinds : List Kind) (v : Wanted) where
  pub walks : (waiting : List Waiting) (stands stands' : List Stand) (rs : List Entry) (done done' : Option Bytes) (begun : Bool) (P : Type 0) → begun ≡ true → (HasRanges rs all → IsApart bytes_cmp (facts_of all) → AreAt w v done all stands → P × AreAt w v done' all stands') → MergesOver w all (walk_state table kinds v waiting stands rs done begun) → P × MergesOver w all (walk_state table kinds v waiting stands' rs done' begun)
  walks waiting stands stands' rs done done' begun P e step m =
      let work : IsWalking w all (walk_state table kinds v waiting stands rs done begun) = subst (λ (b : Bool). IsAtWork b w all (walk_state table kinds v waiting stands rs done begun)) e m.work in
      let s = step work.ranges m.apart work.at in
      (s.0, record { apart = m.apart; dated = m.dated; work = subst (λ (b : Bool). IsAtWork b w all (walk_state table kinds v waiting stands' rs done' begun)) (sym e) (record { ranges = work.ranges; at = s.1 }) })

  pub begins : (waiting waiting' : List Waiting) (stands stands' : List Stand) (rs rs' : List Entry) (done : Option Bytes) (begun : Bool) → begun ≡ false → (AreInOrder w waiting → AreDated (parts_entries w waiting) → stands ≡ [] → rs ≡ [] → HasRanges rs' (parts_entries w waiting) × AreAt w v done (parts_entries w waiting) stands') → MergesOver w all (walk_state table kinds v waiting stands rs done begun) → MergesOver w all (walk_state table kinds v waiting' stands' rs' done true)
  begins waiting waiting' stands stands' rs rs' done begun e step m =
      let new : IsNew w all (walk_state table kinds v waiting stands rs done begun) = subst (λ (b : Bool). IsAtWork b w all (walk_state table kinds v waiting stands rs done begun)) e m.work in
      let s = step new.ordered (subst AreDated new.whole m.dated) new.stands new.ranges in
      record { apart = m.apart; dated = m.dated; work = record { ranges = subst (λ (l : List Entry). HasRanges rs' l) (sym new.whole) s.0; at = subst (λ (l : List Entry). AreAt w v done l stands') (sym new.whole) s.1 } }

  -- a step of the walk, if it went well
  pub walked : {X F : Type 0} (waiting : List Waiting) (stands stands' : List Stand) (rs : List Entry) (done done' : Option Bytes) (begun : Bool) (r : Result X F) (P : X → Type 0) → begun ≡ true → (HasRanges rs all → IsApart bytes_cmp (facts_of all) → AreAt w v done all stands → IfOk r (λ x. P x × AreAt w v done' all stands')) → MergesOver w all (walk_state table kinds v waiting stands rs done begun) → IfOk r (λ x. P x × MergesOver w all (walk_state table kinds v waiting stands' rs done' begun))
  walked waiting stands stands' rs done done' begun (Ok x) P e step m = walks waiting stands stands' rs done done' begun (P x) e step m
  walked waiting stands stands' rs done done' begun (Err f) P e step m = tt

  pub walked-sound : {X F : Type 0} (waiting : List Waiting) (stands : List Stand) (rs : List Entry) (done : Option Bytes) (begun : Bool) (r : Result X F) (P : F → Type 0) → begun ≡ true → (HasRanges rs all → IsApart bytes_cmp (facts_of all) → AreAt w v done all stands → IfErr r P) → MergesOver w all (walk_state table kinds v waiting stands rs done begun) → IfErr r P
  walked-sound waiting stands rs done begun r P e step m = let work : IsWalking w all (walk_state table kinds v waiting stands rs done begun) = subst (λ (b : Bool). IsAtWork b w all (walk_state table kinds v waiting stands rs done begun)) e m.work in step work.ranges m.apart work.at

  -- what is said of a walk that has begun
  pub walked-any : (waiting : List Waiting) (stands : List Stand) (rs : List Entry) (done : Option Bytes) (begun : Bool) (P : Type 0) → begun ≡ true → (HasRanges rs all → IsApart bytes_cmp (facts_of all) → AreAt w v done all stands → P) → MergesOver w all (walk_state table kinds v waiting stands rs done begun) → P
  walked-any waiting stands rs done begun P e step m = let work : IsWalking w all (walk_state table kinds v waiting stands rs done begun) = subst (λ (b : Bool). IsAtWork b w all (walk_state table kinds v waiting stands rs done begun)) e m.work in step work.ranges m.apart work.at

-- ---- loads that may still be made

pub begun-may : (m : WalkState) (x : Load) → m.begun ≡ true → to_load m.table x m.stands ≤ may_load x m
begun-may m x e = rw e (omega arith)

pub may-begun : (m : WalkState) (x : Load) → m.begun ≡ true → may_load x m ≤ to_load m.table x m.stands
may-begun m x e = rw e (omega arith)

pub new-may : (m : WalkState) (x : Load) → m.begun ≡ false → to_load m.table x m.stands + (to_begin m.table x m.waiting + to_begin m.table x m.waiting) ≤ may_load x m
new-may m x e = rw e (omega arith)

pub new-ordered : (w : World) (all : List Entry) (m : WalkState) → m.begun ≡ false → MergesOver w all m → AreInOrder w m.waiting
new-ordered w all m e o = let new : IsNew w all m = subst (λ (b : Bool). IsAtWork b w all m) e o.work in new.ordered
