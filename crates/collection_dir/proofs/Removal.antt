-- The calls that remove a layer's objects one by one.
use Rattle.std.proofs.Common.{◌≡◌, ◌≢◌, inl, inr, ⊎_elim, ℕ, zero, suc, ◌<◌, ◌≤◌, ◌+◌, Bool, true, false, List, [], ◌∷◌, ◌++◌, append_assoc, length, Option, Some, None, Result, Ok, Err, OnOk, refl, sym, ◌∙◌, ap, subst, arith}
use Rattle.std.proofs.lemmas.Bool.{cases_eq}
use Rattle.outside_world.specs.declared.call.DiskCall.{DiskCall}
use Rattle.outside_world.specs.declared.disk.DiskFault.{DiskFault}
use Rattle.outside_world.specs.Disk.{View, IsKnown, IsImage, Changes, Settles}
use Rattle.outside_world.specs.Moments.{AgreeBut, ChangesOnly, InEachImage, IsSettled, LeavesOnly, NoName}
use Rattle.outside_world.specs.Objects.{Objects, at}
use Rattle.outside_world.proofs.Runs.{Run, run_sync, run_synced, run_write, started}
use Rattle.layer_model.specs.declared.names.LayerName.{LayerName}
use Rattle.layer_model.specs.declared.names.Part.{Part}
use Rattle.layer_model.specs.declared.names.Part.TheVariants.{Gate, Manifest, Chunk, Mark}
use Rattle.layer_model.specs.Layers.{LayerObjects, IsMarked, IsOpen, name_of_part, wanted}
use Rattle.layer_model.specs.Names.{IsNumbered, object_name}
use Rattle.layer_model.proofs.LayerLaws.{parts_apart}
use Rattle.collection_dir.specs.Finishing.{StaysOver}
use Rattle.collection_dir.specs.Footprints.{AtChunks, AtForget, AtGate, AtMarks, removal_at, removals}
use Rattle.collection_dir.specs.Safety.{AreAbsent, IsForgotten, IsKept, MayBegin, MayForget, MayUnchunk, MayUnmark}
use Rattle.collection_dir.proofs.Parts.{names_apart}
use Rattle.collection_dir.proofs.Steps.{Bare, Ready, Unmarked, kept_at_first, kept_less, kept_then, step_gate, step_unchunk, step_unlist, step_unmark}

-- no mark vouches where none is there
no_mark : (w : LayerObjects) (i : ℕ) (c : Objects) → i < length w.chunks → at c (name_of_part w (Mark i)) ≡ None → ¬ IsMarked w i c
no_mark w i c has absent holds = none_wanted w.chunks i has (sym absent ∙ holds)
  where
    none_wanted : (chunks : List (List ℕ)) (k : ℕ) → k < length chunks → None ≡ wanted (record { name = w.name; manifest = w.manifest; chunks = chunks }) (Mark k) → ⊥
    none_wanted [] k hk e = absurd (omega arith)
    none_wanted (b ∷ bs) zero hk e = cc
    none_wanted (b ∷ bs) (suc k) hk e = none_wanted bs k (omega arith) e

-- what the next call asks
may_from : {F : List ℕ → Type 0} {w : LayerObjects} {older : List ℕ} {layer : LayerName} {first now : View} {Q : Objects → Type 0} → MayBegin w older layer first → Run (IsKept F w older first) Q first now → ((image : Objects) → Q image → IsKept F w older first image) → now.touched (object_name layer Gate) ≡ false → MayBegin w older layer now
may_from may run so untouched = record {
  known = run.known;
  name = may.name;
  few = may.few;
  safe = λ image is. (so image (run.here image is)).safe;
  gate = untouched;
}

-- shut_gate
module _ (w : LayerObjects) (older : List ℕ) (layer : LayerName) (chunks : ℕ) (first : View) (may : MayForget w older layer chunks first) where
  abbrev AtG : List ℕ → Type 0
  AtG = AtGate layer

  gate_name : name_of_part w Gate ≡ object_name layer Gate
  gate_name = ap (λ (n : LayerName). object_name n Gate) may.may.name

  pub begun : (IsKnown first → (image : Objects) → first.left_since first.moment image → IsImage first image) → Run (IsKept AtG w older first) (Ready AtG w older first) first first
  begun only = started may.may.known (only may.may.known)
      (λ image now.
      let safe = may.may.safe image now in
      let is_open : IsOpen w image = ap (at image) gate_name ∙ now.same (object_name layer Gate) may.may.gate ∙ sym (ap (at first.objects) gate_name) ∙ may.is_open in
      (kept_at_first AtG w older first image safe now, ⊎_elim (λ whole. inl (λ part has ne. whole part has)) (λ whole. inr (λ part has ne. whole part has)) (safe.open_whole is_open)))
      (λ c q. q.0)

  pub after_gate : {value : Option (List ℕ)} {call : DiskCall} {result : Result (Unit {0}) DiskFault} {old new : View} → Run (IsKept AtG w older first) (Ready AtG w older first) first old → Changes (object_name layer Gate) value call result old new → Run (IsKept AtG w older first) (Ready AtG w older first) first new
  after_gate run changes = run_write run changes
      (λ source image q un agree. step_gate AtG w older first source image (parts_apart w may.may.few) gate_name (subst (λ n. AgreeBut n source image) (sym gate_name) agree) q)
      (λ c q. q.0)

  pub after_sync : {result : Result (Unit {0}) DiskFault} {old new : View} → Run (IsKept AtG w older first) (Ready AtG w older first) first old → Settles result old new → Run (IsKept AtG w older first) (Ready AtG w older first) first new
  after_sync run settles = run_sync run settles (λ c q. q.0)

  pub shut_on_ok : {call : DiskCall} {x : Unit {0}} {mid old new : View} → mid.tells ≡ true → Run (IsKept AtG w older first) (Ready AtG w older first) first old → Changes (object_name layer Gate) None call (Ok x) mid old → (r : Result (Unit {0}) DiskFault) → Settles r old new → OnOk r (MayUnmark w older layer chunks new)
  shut_on_ok tells run changes (Err e) settles = tt
  shut_on_ok {old = old} {new = new} tells run changes (Ok y) settles =
      let bare : Run (IsKept AtG w older first) (Bare AtG w older first) first new = run_synced run settles
      (λ image q equal.
      let none : at image (name_of_part w Gate) ≡ None = equal (name_of_part w Gate) ∙ ap (at old.objects) gate_name ∙ (changes.content tells).written in
      ((q.0, λ holds. let e : None ≡ Some (1 ∷ []) = sym none ∙ holds in cc), λ i hi. ⊎_elim (λ all. all (Chunk i) hi (λ e. cc)) (λ all. all (Chunk i) hi (λ e. cc)) q.1))
      (λ c q. q.0.0) in
      record {
        may = may_from may.may bare (λ c q. q.0.0) ((settles.content run.known.tells).ok (object_name layer Gate));
        count = may.count;
        shut = λ image now. (bare.here image now).0.1;
        chunks_there = λ image now. (bare.here image now).1;
      }

-- remove_marks
module _ (w : LayerObjects) (older : List ℕ) (layer : LayerName) (chunks : ℕ) (first : View) (may : MayUnmark w older layer chunks first) where
  abbrev AtM : List ℕ → Type 0
  AtM = AtMarks layer chunks

  mark_name : (i : ℕ) → name_of_part w (Mark i) ≡ object_name layer (Mark i)
  mark_name i = ap (λ (n : LayerName). object_name n (Mark i)) may.may.name

  pub begun_marks : (IsKnown first → (image : Objects) → first.left_since first.moment image → IsImage first image) → Run (IsKept AtM w older first) (Bare AtM w older first) first first
  begun_marks only = started may.may.known (only may.may.known)
      (λ image now. ((kept_at_first AtM w older first image (may.may.safe image now) now, may.shut image now), may.chunks_there image now))
      (λ c q. q.0.0)

  pub after_mark : {value : Option (List ℕ)} {call : DiskCall} {result : Result (Unit {0}) DiskFault} {old new : View} (i : ℕ) → i < chunks → Run (IsKept AtM w older first) (Bare AtM w older first) first old → Changes (object_name layer (Mark i)) value call result old new → Run (IsKept AtM w older first) (Bare AtM w older first) first new
  after_mark i lt run changes = run_write run changes
      (λ source image q un agree. step_unmark AtM w older first source image (parts_apart w may.may.few) i (omega (arith, lt, may.count)) (i, lt, mark_name i) (subst (λ n. AgreeBut n source image) (sym (mark_name i)) agree) q)
      (λ c q. q.0.0)

  pub after_marks : {result : Result (Unit {0}) DiskFault} {old new : View} → Run (IsKept AtM w older first) (Bare AtM w older first) first old → Settles result old new → Run (IsKept AtM w older first) (Bare AtM w older first) first new
  after_marks run settles = run_sync run settles (λ c q. q.0.0)

  pub unmarked_on_ok : {old new : View} → Run (IsKept AtM w older first) (Bare AtM w older first) first old → AreAbsent layer Mark chunks old.objects → (r : Result (Unit {0}) DiskFault) → Settles r old new → OnOk r (MayUnchunk w older layer chunks new)
  unmarked_on_ok run absent (Err e) settles = tt
  unmarked_on_ok {old = old} {new = new} run absent (Ok y) settles =
      let unmarked : Run (IsKept AtM w older first) (Unmarked AtM w older first) first new = run_synced run settles
      (λ image q equal. (q.0, λ i hi. no_mark w i image hi (equal (name_of_part w (Mark i)) ∙ ap (at old.objects) (mark_name i) ∙ absent i (omega (arith, hi, may.count)))))
      (λ c q. q.0.0) in
      record {
        may = may_from may.may unmarked (λ c q. q.0.0) ((settles.content run.known.tells).ok (object_name layer Gate));
        count = may.count;
        shut = λ image now. (unmarked.here image now).0.1;
        unmarked = λ image now. (unmarked.here image now).1;
      }

-- remove_chunks
module _ (w : LayerObjects) (older : List ℕ) (layer : LayerName) (chunks : ℕ) (first : View) (may : MayUnchunk w older layer chunks first) where
  abbrev AtC : List ℕ → Type 0
  AtC = AtChunks layer chunks

  part_name : (p : Part) → name_of_part w p ≡ object_name layer p
  part_name p = ap (λ (n : LayerName). object_name n p) may.may.name

  pub begun_chunks : (IsKnown first → (image : Objects) → first.left_since first.moment image → IsImage first image) → Run (IsKept AtC w older first) (Unmarked AtC w older first) first first
  begun_chunks only = started may.may.known (only may.may.known)
      (λ image now. ((kept_at_first AtC w older first image (may.may.safe image now) now, may.shut image now), may.unmarked image now))
      (λ c q. q.0.0)

  pub after_chunk : {value : Option (List ℕ)} {call : DiskCall} {result : Result (Unit {0}) DiskFault} {old new : View} (i : ℕ) → i < chunks → Run (IsKept AtC w older first) (Unmarked AtC w older first) first old → Changes (object_name layer (Chunk i)) value call result old new → Run (IsKept AtC w older first) (Unmarked AtC w older first) first new
  after_chunk i lt run changes = run_write run changes
      (λ source image q un agree. step_unchunk AtC w older first source image (parts_apart w may.may.few) i (omega (arith, lt, may.count)) (inr (i, lt, part_name (Chunk i))) (subst (λ n. AgreeBut n source image) (sym (part_name (Chunk i))) agree) q)
      (λ c q. q.0.0)

  pub after_manifest : {value : Option (List ℕ)} {call : DiskCall} {result : Result (Unit {0}) DiskFault} {old new : View} → Run (IsKept AtC w older first) (Unmarked AtC w older first) first old → Changes (object_name layer Manifest) value call result old new → Run (IsKept AtC w older first) (Unmarked AtC w older first) first new
  after_manifest run changes = run_write run changes
      (λ source image q un agree. step_unlist AtC w older first source image (parts_apart w may.may.few) (inl (part_name Manifest)) (subst (λ n. AgreeBut n source image) (sym (part_name Manifest)) agree) q)
      (λ c q. q.0.0)

  pub after_all : {result : Result (Unit {0}) DiskFault} {old new : View} → Run (IsKept AtC w older first) (Unmarked AtC w older first) first old → Settles result old new → Run (IsKept AtC w older first) (Unmarked AtC w older first) first new
  after_all run settles = run_sync run settles (λ c q. q.0.0)

-- one more part is gone
pub absent_more : {call : DiskCall} {x : Unit {0}} {old new : View} (layer : LayerName) (part : ℕ → Part) (i : ℕ) → ((k : ℕ) → k < i → object_name layer (part k) ≢ object_name layer (part i)) → old.tells ≡ true → Changes (object_name layer (part i)) None call (Ok x) old new → AreAbsent layer part i old.objects → AreAbsent layer part (i + 1) new.objects
absent_more {new = new} layer part i apart tells changes so_far k le = ⊎_elim
    (λ (same : k ≡ i). ap (λ (j : ℕ). at new.objects (object_name layer (part j))) same ∙ (changes.content tells).written)
    (λ (other : k ≢ i).
    let lt : k < i = omega (arith, le, other) in
    (changes.content tells).others (object_name layer (part k)) (apart k lt) ∙ so_far k lt)
    (cases_eq k i)

-- one removal more
pub removed_more : (layer : LayerName) (part : ℕ → Part) (i : ℕ) (before so_far : List (DiskCall × Bool)) → so_far ≡ before ++ removals layer part i → so_far ++ removal_at layer (part i) ∷ [] ≡ before ++ removals layer part (i + 1)
removed_more layer part i before so_far e =
    let next : i + 1 ≡ suc i = omega arith in
    ap (λ (calls : List (DiskCall × Bool)). calls ++ removal_at layer (part i) ∷ []) e ∙ append_assoc before (removals layer part i) (removal_at layer (part i) ∷ []) ∙ sym (ap (λ (n : ℕ). before ++ removals layer part n) next)

-- what is gone from the objects is gone from each image once no name is touched
pub gone_from_images : (layer : LayerName) (chunks : ℕ) (v : View) → IsSettled v → IsForgotten layer chunks v.objects → InEachImage v (IsForgotten layer chunks)
gone_from_images layer chunks v settled gone image now = record {
  gate = now.same (object_name layer Gate) (settled (object_name layer Gate)) ∙ gone.gate;
  manifest = now.same (object_name layer Manifest) (settled (object_name layer Manifest)) ∙ gone.manifest;
  chunks_gone = λ i lt. now.same (object_name layer (Chunk i)) (settled (object_name layer (Chunk i))) ∙ gone.chunks_gone i lt;
  marks_gone = λ i lt. now.same (object_name layer (Mark i)) (settled (object_name layer (Mark i))) ∙ gone.marks_gone i lt;
}

-- ---- the three steps together

module _ (layer : LayerName) (chunks : ℕ) (few : chunks ≤ 1000000) where
  outside_marks : (p : Part) → IsNumbered p → ((i : ℕ) → p ≢ Mark i) → ¬ AtMarks layer chunks (object_name layer p)
  outside_marks p is no_mark found = names_apart layer p (Mark found.0) is (omega (arith, found.1, few)) (no_mark found.0) found.2

  outside_chunks : (p : Part) → IsNumbered p → p ≢ Manifest → ((i : ℕ) → p ≢ Chunk i) → ¬ AtChunks layer chunks (object_name layer p)
  outside_chunks p is ne no_chunk (inl e) = names_apart layer p Manifest is tt ne e
  outside_chunks p is ne no_chunk (inr found) = names_apart layer p (Chunk found.0) is (omega (arith, found.1, few)) (no_chunk found.0) found.2

  pub all_gone : {a b d : View} → a.tells ≡ true → b.tells ≡ true → at a.objects (object_name layer Gate) ≡ None → ChangesOnly NoName (AtMarks layer chunks) a b → AreAbsent layer Mark chunks b.objects → ChangesOnly NoName (AtChunks layer chunks) b d → AreAbsent layer Chunk chunks d.objects → at d.objects (object_name layer Manifest) ≡ None → IsForgotten layer chunks d.objects
  all_gone told tells shut marks unmarked rest unchunked unlisted = record {
    gate = rest.objects tells (object_name layer Gate) (λ x. x) (outside_chunks Gate tt (λ e. cc) (λ i e. cc)) ∙ marks.objects told (object_name layer Gate) (λ x. x) (outside_marks Gate tt (λ i e. cc)) ∙ shut;
    manifest = unlisted;
    chunks_gone = unchunked;
    marks_gone = λ i lt. rest.objects tells (object_name layer (Mark i)) (λ x. x) (outside_chunks (Mark i) (omega (arith, lt, few)) (λ e. cc) (λ j e. cc)) ∙ unmarked i lt;
  }

  -- the gate, once it is gone, stays so
  pub gate_gone : {a b : View} → a.tells ≡ true → at a.objects (object_name layer Gate) ≡ None → ChangesOnly NoName (AtMarks layer chunks) a b → at b.objects (object_name layer Gate) ≡ None
  gate_gone told shut marks = marks.objects told (object_name layer Gate) (λ x. x) (outside_marks Gate tt (λ i e. cc)) ∙ shut

  pub gate_gone_on : {a b : View} → a.tells ≡ true → at a.objects (object_name layer Gate) ≡ None → ChangesOnly NoName (AtChunks layer chunks) a b → at b.objects (object_name layer Gate) ≡ None
  gate_gone_on told shut rest = rest.objects told (object_name layer Gate) (λ x. x) (outside_chunks Gate tt (λ e. cc) (λ i e. cc)) ∙ shut

-- only the gate may have changed
pub stays_at_gate : (layer : LayerName) {a b : View} → a.tells ≡ true → ChangesOnly NoName (AtGate layer) a b → StaysOver layer a.objects b.objects
stays_at_gate layer told changes is_open = changes.objects told (object_name layer Manifest) (λ x. x) (names_apart layer Manifest Gate tt tt (λ e. cc))

-- no gate is there
pub stays_gone : (layer : LayerName) (a b : Objects) → at b (object_name layer Gate) ≡ None → StaysOver layer a b
stays_gone layer a b none is_open = (let e : None ≡ Some (1 ∷ []) = sym none ∙ is_open in absurd cc)

-- each moment so far counts as one since any earlier moment
abbrev Counts : View → Type 0
Counts v = (t : ℕ) (image : Objects) → IsKnown v → t ≤ v.moment → IsImage v image → v.left_since t image

pub then_unmarked : {w : LayerObjects} {older : List ℕ} (layer : LayerName) (chunks : ℕ) {first mid new : View} → LeavesOnly first mid (IsKept (AtGate layer) w older first) → IsKnown mid → Counts mid → LeavesOnly mid new (IsKept (AtMarks layer chunks) w older mid) → LeavesOnly first new (IsKept (AtForget layer chunks) w older first)
then_unmarked layer chunks shut known counts unmarked = kept_then (λ n e. inr (inl e)) (kept_less (λ n e. inl e) shut) (λ image now. counts _ image known shut.later now) unmarked

pub then_unchunked : {w : LayerObjects} {older : List ℕ} (layer : LayerName) (chunks : ℕ) {first mid new : View} → LeavesOnly first mid (IsKept (AtForget layer chunks) w older first) → IsKnown mid → Counts mid → LeavesOnly mid new (IsKept (AtChunks layer chunks) w older mid) → LeavesOnly first new (IsKept (AtForget layer chunks) w older first)
then_unchunked layer chunks so_far known counts unchunked = kept_then (λ n e. inr (inr e)) so_far (λ image now. counts _ image known so_far.later now) unchunked

-- three lists of calls, one after the other
pub in_turn : {X : Type 0} (before first second third b c d : List X) → b ≡ before ++ first → c ≡ b ++ second → d ≡ c ++ third → d ≡ before ++ (first ++ (second ++ third))
in_turn before first second third b c d e f h = rw (h, f, e, append_assoc (before ++ first) second third, append_assoc before first (second ++ third)) refl
