-- What the calls on a layer promise, as what a unit promises.
use Rattle.std.proofs.Common.{◌≡◌, ◌≢◌, ◌∙◌, ◌↔◌, ℕ, ◌<◌, ◌++◌, Bool, true, false, refl, sym, ap, subst, inl, inr, List, length, slice_get, Some, Result, Ok, Err, OnOk, IfOk, IfErr, IsTrue, option_map}
use Rattle.sha2.specs.Sha256.{sha256}
use Rattle.outside_world.specs.Disk.{View, Tells, IsKnown, IsImage, IsSameContent}
use Rattle.outside_world.specs.Moments.{ChangesOnly, InEachImage, IsSettled, LeavesOnly, NoName}
use Rattle.outside_world.specs.Objects.{Objects, at}
use Rattle.outside_world.proofs.Runs.{only_less, only_none}
use Rattle.layer_manifest.specs.declared.manifest.Manifest.{Manifest}
use Rattle.layer_manifest.specs.ManifestFiles.{manifest_code}
use Rattle.layer_model.specs.declared.names.LayerName.{LayerName}
use Rattle.layer_model.specs.declared.names.Part.TheVariants as part
use Rattle.layer_model.specs.Layers.{LayerObjects, Holds, IsMarked, IsWhole, name_of_part}
use Rattle.layer_model.specs.Names.{object_name}
use Rattle.collection_dir.specs.declared.fault.DirFault.{DirFault}
use Rattle.collection_dir.specs.declared.fault.DirFault.TheVariants.{Memory}
use Rattle.collection_dir.specs.Faults.{IsDiskFault}
use Rattle.collection_dir.specs.Finishing.{DiffersOnlyOver, IsFinishFault, IsGateOpen, IsManifestOf, OpensOver}
use Rattle.collection_dir.specs.Footprints.{AtChunk, AtFinish, chunk_calls, finish_calls}
use Rattle.collection_dir.specs.Safety.{IsKept, IsWholeInEither, MayBegin, MayFinish, MayWriteChunk}
use Rattle.collection_dir.proofs.AfterRead.{kept_before}
use Rattle.backup_job.specs.Units.{AtLayer, Finishes, WritesChunk}

-- ---- before the first call

untouched : (v : View) → IsSameContent v v
untouched v = record { objects = refl; touched = λ n. refl; calls = refl }

pub nothing_written : {T : Type 0} (w : LayerObjects) (i : ℕ) (v : View) → (IsKnown v → (image : Objects) → v.left_since v.moment image → IsImage v image) → WritesChunk {T = T} w i (Err Memory) v v
nothing_written w i v only = record {
  layer = λ older may mark. (kept_before may only).so_far;
  stored = λ older may mark. tt;
  calls = λ tells. tt;
  put = λ tells un. tt;
  same = λ tells marked. untouched v;
  marked = λ tells. tt;
  settled = λ tells. tt;
  changes = only_none v;
  fault = tt;
}

pub nothing_finished : {T : Type 0} (w : LayerObjects) (m : Manifest) (v : View) → (IsKnown v → (image : Objects) → v.left_since v.moment image → IsImage v image) → Finishes {T = T} w m (Err Memory) v v
nothing_finished w m v only = record {
  layer = λ older may. (kept_before may.may only).so_far;
  whole = λ older may. tt;
  fresh = λ older may shut. tt;
  opens = λ tells shut is_open. absurd (shut is_open);
  finished = λ tells. tt;
  same = λ tells is. untouched v;
  calls = λ tells shut. tt;
  put = λ tells shut. tt;
  is_open = λ tells. tt;
  settled = λ tells shut. tt;
  differs = λ tells. tt;
  changes = only_none v;
  fault = tt;
}

-- ---- after the call that writes a chunk

-- what that call promises
pub record Wrote (name : LayerName) (i : ℕ) (bytes : List ℕ) (result : Result Bool DirFault) (old new : View) : Type 0 where
  pub wrote : Tells old → IfOk result (λ b. IsTrue b ↔ (at old.objects (object_name name (part.Mark i)) ≢ Some (sha256 bytes)))
  pub calls : Tells old → IfOk result (λ b. new.calls ≡ old.calls ++ chunk_calls name i b)
  pub same : Tells old → at old.objects (object_name name (part.Mark i)) ≡ Some (sha256 bytes) → IsSameContent old new
  pub put : Tells old → IfOk result (λ b. b ≡ true → at new.objects (object_name name (part.Chunk i)) ≡ Some bytes)
  pub marked : Tells old → OnOk result (at new.objects (object_name name (part.Mark i)) ≡ Some (sha256 bytes))
  pub settled : Tells old → OnOk result ((n : List ℕ) → n ≢ object_name name (part.Mark i) → old.touched n ≡ false → new.touched n ≡ false)
  pub layer : (w : LayerObjects) (older : List ℕ) → MayWriteChunk w older name i bytes old → LeavesOnly old new (IsKept (AtChunk name i) w older old)
  pub stored : (w : LayerObjects) (older : List ℕ) → MayWriteChunk w older name i bytes old → OnOk result (InEachImage new (Holds w (part.Chunk i)))
  pub changes : ChangesOnly (AtChunk name i) NoName old new

module _ (w : LayerObjects) (i : ℕ) (bytes : List ℕ) (old new : View) (has : i < length w.chunks) (is : slice_get w.chunks i ≡ Some bytes) where
  may_write : (older : List ℕ) → MayBegin w older w.name old → old.touched (name_of_part w (part.Mark i)) ≡ false → MayWriteChunk w older w.name i bytes old
  may_write older may mark = record { may = may; has = has; bytes_are = is; mark = mark }

  -- the digest that the mark is to hold
  mark_is : option_map sha256 (slice_get w.chunks i) ≡ Some (sha256 bytes)
  mark_is = ap (option_map sha256) is

  same_here : {r : Result Bool DirFault} → Wrote w.name i bytes r old new → Tells old → IsMarked w i old.objects → IsSameContent old new
  same_here p tells marked = p.same tells (marked ∙ mark_is)

  wrote_failed : {T : Type 0} {r : Result Bool DirFault} (e : DirFault) → IsDiskFault e → Wrote w.name i bytes r old new → WritesChunk {T = T} w i (Err e) old new
  wrote_failed e fault p = record {
    layer = λ older may mark. p.layer w older (may_write older may mark);
    stored = λ older may mark. tt;
    calls = λ tells. tt;
    put = λ tells un. tt;
    same = same_here p;
    marked = λ tells. tt;
    settled = λ tells. tt;
    changes = p.changes;
    fault = fault;
  }

  wrote_well : {T : Type 0} (x : T) (b : Bool) → Wrote w.name i bytes (Ok b) old new → WritesChunk w i (Ok x) old new
  wrote_well x b p = record {
    layer = λ older may mark. p.layer w older (may_write older may mark);
    stored = λ older may mark. p.stored w older (may_write older may mark);
    calls = λ tells. (b, ((λ t marked. (p.wrote tells).0 t (marked ∙ mark_is)), (λ un. (p.wrote tells).1 (λ e. un (e ∙ sym mark_is)))), p.calls tells);
    put = λ tells un. p.put tells ((p.wrote tells).1 (λ e. un (e ∙ sym mark_is))) ∙ sym is;
    same = same_here p;
    marked = λ tells. p.marked tells ∙ sym mark_is;
    settled = λ tells. p.settled tells;
    changes = p.changes;
    fault = tt;
  }

-- the same in the words of the layer
moved : {r : Result Bool DirFault} {name : LayerName} (w : LayerObjects) (i j : ℕ) (bytes spelled : List ℕ) {old new : View} → w.name ≡ name → j ≡ i → spelled ≡ bytes → Wrote name j spelled r old new → Wrote w.name i bytes r old new
moved {r} {name} w i j bytes spelled {old} {new} same at is p = subst (λ n. Wrote n i bytes r old new) (sym same) (subst (λ k. Wrote name k bytes r old new) at (subst (λ b. Wrote name j b r old new) is p))

pub as_failed : {T : Type 0} {r : Result Bool DirFault} {name : LayerName} (w : LayerObjects) (i j : ℕ) (bytes spelled : List ℕ) {old new : View} → w.name ≡ name → j ≡ i → spelled ≡ bytes → i < length w.chunks → slice_get w.chunks i ≡ Some bytes → (e : DirFault) → IsDiskFault e → Wrote name j spelled r old new → WritesChunk {T = T} w i (Err e) old new
as_failed w i j bytes spelled {old} {new} same at spells has is e fault p = wrote_failed w i bytes old new has is e fault (moved w i j bytes spelled same at spells p)

pub as_written : {T : Type 0} {name : LayerName} (w : LayerObjects) (i j : ℕ) (bytes spelled : List ℕ) {old new : View} → w.name ≡ name → j ≡ i → spelled ≡ bytes → i < length w.chunks → slice_get w.chunks i ≡ Some bytes → (x : T) (b : Bool) → Wrote name j spelled (Ok b) old new → WritesChunk w i (Ok x) old new
as_written w i j bytes spelled {old} {new} same at spells has is x b p = wrote_well w i bytes old new has is x b (moved w i j bytes spelled same at spells p)

-- ---- after the call that finishes a layer

-- what that call promises
pub record Finished {T : Type 0} (name : LayerName) (m : Manifest) (result : Result T DirFault) (old new : View) : Type 0 where
  pub finished : Tells old → OnOk result (IsGateOpen name old.objects → IsManifestOf m (at old.objects (object_name name part.Manifest)))
  pub differs : Tells old → IfErr result (DiffersOnlyOver name m old.objects)
  pub same : Tells old → IsGateOpen name old.objects → IsSameContent old new
  pub calls : Tells old → ¬ IsGateOpen name old.objects → OnOk result (new.calls ≡ old.calls ++ finish_calls name)
  pub put : Tells old → ¬ IsGateOpen name old.objects → OnOk result (at new.objects (object_name name part.Manifest) ≡ Some (manifest_code m))
  pub open_now : Tells old → OnOk result (IsGateOpen name new.objects)
  pub opens : Tells old → OpensOver name (manifest_code m) old.objects new.objects
  pub fresh : (w : LayerObjects) (older : List ℕ) → MayFinish w older name (manifest_code m) old → ¬ IsGateOpen name old.objects → OnOk result (InEachImage new (IsWhole w))
  pub settled : Tells old → ¬ IsGateOpen name old.objects → OnOk result (IsSettled new)
  pub layer : (w : LayerObjects) (older : List ℕ) → MayFinish w older name (manifest_code m) old → LeavesOnly old new (IsKept (AtFinish name) w older old)
  pub whole : (w : LayerObjects) (older : List ℕ) → MayFinish w older name (manifest_code m) old → OnOk result (InEachImage new (IsWholeInEither w older))
  pub changes : ChangesOnly (AtFinish name) NoName old new
  pub fault : IfErr result (IsFinishFault name m)

-- the same of another answer of the same kind
failed_again : {T S : Type 0} {name : LayerName} {m : Manifest} {e : DirFault} {old new : View} → Finished {T = T} name m (Err e) old new → Finished {T = S} name m (Err e) old new
failed_again p = record { finished = λ tells. tt; differs = p.differs; same = p.same; calls = λ tells shut. tt; put = λ tells shut. tt; open_now = λ tells. tt; settled = λ tells shut. tt; layer = p.layer; whole = λ w older may. tt; opens = p.opens; fresh = λ w older may shut. tt; changes = p.changes; fault = p.fault }

well_again : {T S : Type 0} {name : LayerName} {m : Manifest} {x : T} {y : S} {old new : View} → Finished name m (Ok x) old new → Finished name m (Ok y) old new
well_again p = record { finished = p.finished; differs = λ tells. tt; same = p.same; calls = p.calls; put = p.put; open_now = p.open_now; settled = p.settled; layer = p.layer; whole = p.whole; opens = p.opens; fresh = p.fresh; changes = p.changes; fault = tt }

-- the manifest's bytes are those of the layer
finish_same : {T : Type 0} (w : LayerObjects) (m : Manifest) (r : Result T DirFault) {old new : View} → w.manifest ≡ manifest_code m → Finished w.name m r old new → Finishes w m r old new
finish_same {T} w m r {old} {new} is p = record {
  layer = λ older may. p.layer w older (here older may);
  whole = λ older may. p.whole w older (here older may);
  fresh = λ older may shut. p.fresh w older (here older may) shut;
  opens = λ tells shut is_open. p.opens tells shut is_open ∙ ap Some (sym is);
  finished = p.finished;
  same = p.same;
  calls = p.calls;
  put = λ tells shut. held r (p.put tells shut);
  is_open = p.open_now;
  settled = p.settled;
  differs = p.differs;
  changes = p.changes;
  fault = p.fault;
}
  where
    here : (older : List ℕ) → MayFinish w older w.name w.manifest old → MayFinish w older w.name (manifest_code m) old
    here older may = record { may = may.may; manifest_is = is; chunks = may.chunks; marks = may.marks }

    held : (s : Result T DirFault) → OnOk s (at new.objects (object_name w.name part.Manifest) ≡ Some (manifest_code m)) → OnOk s (Holds w part.Manifest new.objects)
    held (Ok x) e = e ∙ ap Some (sym is)
    held (Err e) t = tt

pub finish_failed : {T S : Type 0} {name : LayerName} (w : LayerObjects) (m : Manifest) (e : DirFault) {old new : View} → w.name ≡ name → w.manifest ≡ manifest_code m → Finished {T = T} name m (Err e) old new → Finishes {T = S} w m (Err e) old new
finish_failed {T} {S} w m e {old} {new} same is p = finish_same {T = S} w m (Err e) is (subst (λ (n : LayerName). Finished {T = S} n m (Err e) old new) (sym same) (failed_again {T = T} {S = S} p))

pub finish_done : {T S : Type 0} {name : LayerName} (w : LayerObjects) (m : Manifest) (x : T) (y : S) {old new : View} → w.name ≡ name → w.manifest ≡ manifest_code m → Finished name m (Ok x) old new → Finishes w m (Ok y) old new
finish_done w m x y {old} {new} same is p = finish_same w m (Ok y) is (subst (λ n. Finished n m (Ok y) old new) (sym same) (well_again p))

-- ---- the names that a unit may change

pub chunk_at_layer : (name : LayerName) (i : ℕ) → i < 1000000 → {a b : View} → ChangesOnly (AtChunk name i) NoName a b → ChangesOnly (AtLayer name) NoName a b
chunk_at_layer name i lt c = only_less (λ n at. elim at [ inl e ↦ (part.Chunk i, lt, e) | inr e ↦ (part.Mark i, lt, e) ]) (λ n no. no) c

pub finish_at_layer : (name : LayerName) {a b : View} → ChangesOnly (AtFinish name) NoName a b → ChangesOnly (AtLayer name) NoName a b
finish_at_layer name c = only_less (λ n at. elim at [ inl e ↦ (part.Gate, tt, e) | inr e ↦ (part.Manifest, tt, e) ]) (λ n no. no) c
